-- The steps of a statement do what it says.
use Rattle.std.proofs.Common.{◌≡◌, ℕ, ◌+◌, ◌/◌, ◌^◌, ◌<◌, ◌≤◌, Bool, true, false, ◌&&◌, ◌||◌, ◌==◌, not, nat_le, nat_lt, List, [], ◌∷◌, ◌++◌, map, length, refl, sym, ap, ap₂, ◌∙◌, subst, arith}
use Rattle.std.specs.Prelude.{if◌then◌else◌, bit_or}
use Rattle.std.specs.Int.Bits.{or_zero_r}
use Rattle.std.proofs.lemmas.Bool.{eqb-true, eqb-false, leb-true, cond-true, cond-false}
use Rattle.std.proofs.Math.Bool.{or-false}
use Rattle.std.proofs.lemmas.List.{append-nil}
use Rattle.bits.specs.Runs.{replaced}
use Rattle.bits.proofs.Modulo.{small, fits_wider}
use Rattle.typed_ir.specs.declared.span.Span.{Span}
use Rattle.typed_ir.specs.declared.update.Update.{Update}
use Rattle.typed_ir.specs.Valuations.{Valuation, put}
use Rattle.typed_ir.specs.Orders.{Each, Member}
use Rattle.typed_ir.specs.declared.comparison.Comparison.{Comparison}
use Rattle.typed_ir.specs.declared.binary_operator.BinaryOperator.TheVariants.{Compare}
use Rattle.typed_ir.specs.Sized.{Sized, Binary, value_of, width_of, agrees, fits_signals, is_width, is_signal, is_span}
use Rattle.typed_ir.specs.Stmts.{SizedTarget, Fixed, Moving, SizedItem, SizedStmt, SizedArms, Skip as Nothing, Assign, Later, Then, If, Case, Arm, Default, is_target, are_targets, is_sized, are_items, is_legal, are_legal_arms, update_of, updates_of, all_applied, applied, written, matches_item, matches_any, exec, exec_arms, pending, pending_arms, span_of, targets, arm_targets, later_targets, later_arm_targets}
use Rattle.typed_ir.proofs.Cases.{by_cases, and_left, and_right}
use Rattle.typed_ir.proofs.Lists.{each_left, each_right}
use Rattle.word_steps.specs.declared.step.Step.{Step}
use Rattle.word_steps.specs.declared.op.Op.TheVariants.{Or, SkipIfZero, SkipIfEqual, SkipUnlessEqual, Skip}
use Rattle.word_steps.specs.Walks.{at, walk, skips}
use Rattle.word_steps.proofs.Words.{put-same, put-other}
use Rattle.word_steps.proofs.Steps.{walk-append, walk-past, act_still}
use Rattle.design_steps.specs.Plans.{Plan, IsApart, IsReady, IsKnown, IsAlone, signals, width_at}
use Rattle.design_steps.specs.Expressions.{step, operand, before, code, constants_of}
use Rattle.design_steps.specs.Statements.{signal_of, is_whole, is_direct, part_code, parts_code, one_code, assign_code, pass_over, branch, Test, Truth, Pair, test_of, test_code, condition, subject_at, item_at, item_code, tests, stmt_code, arms_code, part_constants, target_constants, item_constants, stmt_constants, arm_constants}
use Rattle.design_steps.specs.Right.{IsLaid}
use Rattle.design_steps.proofs.Fits.{value_fits, signal_is, agree_both}
use Rattle.design_steps.proofs.Ready.{same_signals, still_ready}
use Rattle.design_steps.proofs.Layouts.{Runs, Stands, Gives, Fine, stands_runs, gives_runs, stands, gives}
use Rattle.design_steps.proofs.Testing.{Asks, asks, passed, passed_right}
use Rattle.design_steps.proofs.PartValues.{part_value, applied_part, part_right, part_fits, span_lies, whole_right, gives_by}

-- ---- updates of one signal depend on that signal alone

put_at : (f g : Valuation) (signal x y s : ℕ) → (s ≡ signal → x ≡ y) → f s ≡ g s → put f signal x s ≡ put g signal y s
put_at f g signal x y s e same = by_cases (s == signal)
    (λ yes. cond-true (s == signal) x (f s) yes ∙ e (eqb-true s signal yes) ∙ sym (cond-true (s == signal) y (g s) yes))
    (λ no. cond-false (s == signal) x (f s) no ∙ same ∙ sym (cond-false (s == signal) y (g s) no))

applied_at : (u : Update) (f g : Valuation) (s : ℕ) → f s ≡ g s → applied u f s ≡ applied u g s
applied_at u f g s same =
    put_at f g u.span.signal _ _ s
    (λ e. ap (λ z. replaced z u.span.low u.span.width u.value) (ap f (sym e) ∙ same ∙ ap g e)) same

pub all_applied_at : (us : List Update) (f g : Valuation) (s : ℕ) → f s ≡ g s → all_applied us f s ≡ all_applied us g s
all_applied_at [] f g s same = same
all_applied_at (u ∷ us) f g s same = all_applied_at us (applied u f) (applied u g) s (applied_at u f g s same)

all_applied-append : (us vs : List Update) (f : Valuation) → all_applied (us ++ vs) f ≡ all_applied vs (all_applied us f)
all_applied-append [] vs f = refl
all_applied-append (u ∷ us) vs f = all_applied-append us vs (applied u f)

-- ---- tests and branches

-- a test passes over steps where it fails, and leaves what stands below the mark
record Tests (test : ℕ → List Step) (w : Valuation) (mark : ℕ) (holds : Bool) : Type 0 where
  after : Valuation
  ends : (past : ℕ) → walk (test past) (at 0 w) ≡ at (if holds then 0 else past) after
  kept : (k : ℕ) → k < mark → after k ≡ w k

none_left : (xs : List Step) → (length xs == 0) ≡ true → xs ≡ []
none_left [] e = refl
none_left (x ∷ xs) e = absurd (let none : length (x ∷ xs) ≡ 0 = eqb-true (length (x ∷ xs)) 0 e in omega (arith, none))

past_all : (xs : List Step) (w : Valuation) → walk xs (at (length xs) w) ≡ at 0 w
past_all xs w = let e : length xs ≡ length xs + 0 = omega arith in ap (λ k. walk xs (at k w)) e ∙ walk-past xs 0 w

-- the steps of a branch are those of the side that the test takes
branch_ends : (test : ℕ → List Step) (xs ys : List Step) (w v u : Valuation) (t : Bool) → ((past : ℕ) → walk (test past) (at 0 w) ≡ at (if t then 0 else past) v)
    → walk (if t then xs else ys) (at 0 v) ≡ at 0 u → walk (branch test xs ys) (at 0 w) ≡ at 0 u
branch_ends test xs ys w v u t ends goes =
    walk-append (test (length zs)) (zs ++ ys) (at 0 w) ∙ ap (walk (zs ++ ys)) (ends (length zs)) ∙ both t goes
  where
    zs : List Step
    zs = xs ++ pass_over (length ys)

    last : (b : Bool) → (length ys == 0) ≡ b → walk ys (walk (if b then [] else step Skip 1 0 true 0 0 0 (length ys) ∷ []) (at 0 u)) ≡ at 0 u
    last true e = ap (λ qs. walk qs (at 0 u)) (none_left ys e)
    last false e = past_all ys u

    both : (b : Bool) → walk (if b then xs else ys) (at 0 v) ≡ at 0 u → walk (zs ++ ys) (at (if b then 0 else length zs) v) ≡ at 0 u
    both true h =
        walk-append zs ys (at 0 v) ∙ ap (walk ys) (walk-append xs (pass_over (length ys)) (at 0 v) ∙ ap (walk (pass_over (length ys))) h) ∙ last (length ys == 0) refl
    both false h = walk-append zs ys (at (length zs) v) ∙ ap (walk ys) (past_all zs v) ∙ h

chosen : {A : Type 0} (b : Bool) (x y : A) → (if not b then x else y) ≡ (if b then y else x)
chosen true x y = refl
chosen false x y = refl

-- ---- what a statement needs, and what its steps do

module _ (l : Plan) (rs : List ℕ) (n : ℕ) (apart : IsApart l rs n) where
  -- the signals are as in `env`, the next values as the updates make them, and all else below the mark is as before
  pub record Does (steps : List Step) (w : Valuation) (mark : ℕ) (env : Valuation) (us : List Update) : Type 0 where
    pub after : Valuation
    pub ends : walk steps (at 0 w) ≡ at 0 after
    pub now : (s : ℕ) → after (l.slot s) ≡ env s
    pub later : (s : ℕ) → Member s rs → after (l.next s) ≡ all_applied us (λ t. w (l.next t)) s
    pub kept : (k : ℕ) → k < mark → ((s : ℕ) → k ≡ l.slot s → ⊥) → ((s : ℕ) → Member s rs → k ≡ l.next s → ⊥) → after k ≡ w k
    pub ready : IsReady l rs after

  pub now_is : (steps : List Step) (w : Valuation) (mark : ℕ) (env : Valuation) (us : List Update) (d : Does steps w mark env us) → signals l d.after ≡ env
  now_is steps w mark env us d = λ j s. d.now s j

  unfoldable pub does_none : (w : Valuation) (mark : ℕ) → IsReady l rs w → Does [] w mark (signals l w) []
  does_none w mark r = record { after = w; ends = refl; now = λ s. refl; later = λ s h. refl; kept = λ k h a b. refl; ready = r }

  -- one after another
  pub does_both : (xs ys : List Step) (w : Valuation) (mark : ℕ) (env env' : Valuation) (us vs : List Update) (a : Does xs w mark env us)
      → Does ys a.after mark env' vs → Does (xs ++ ys) w mark env' (us ++ vs)
  does_both xs ys w mark env env' us vs a b = record {
    after = b.after;
    ends = walk-append xs ys (at 0 w) ∙ ap (walk ys) a.ends ∙ b.ends;
    now = b.now;
    later = λ s h. b.later s h
        ∙ all_applied_at vs (λ t. a.after (l.next t)) (all_applied us (λ t. w (l.next t))) s (a.later s h)
        ∙ sym (ap (λ f. f s) (all_applied-append us vs (λ t. w (l.next t))));
    kept = λ k h p q. b.kept k h p q ∙ a.kept k h p q;
    ready = b.ready;
  }

  -- after steps that leave what stands below the mark
  does_after : (ps xs : List Step) (w : Valuation) (mark : ℕ) (env : Valuation) (us : List Update) (r : Runs ps w mark) → n ≤ mark
      → Does xs r.after mark env us → Does (ps ++ xs) w mark env us
  does_after ps xs w mark env us r few d = record {
    after = d.after;
    ends = walk-append ps xs (at 0 w) ∙ ap (walk xs) r.ends ∙ d.ends;
    now = d.now;
    later = λ s h. d.later s h
        ∙ all_applied_at us (λ t. r.after (l.next t)) (λ t. w (l.next t)) s (let p = apart.nexts s h in r.kept (l.next s) (omega (arith, p, few)));
    kept = λ k h p q. d.kept k h p q ∙ r.kept k h;
    ready = d.ready;
  }

  -- a lower mark says less
  does_less : (xs : List Step) (w : Valuation) (mark mark' : ℕ) (env : Valuation) (us : List Update) → mark ≤ mark' → Does xs w mark' env us → Does xs w mark env us
  does_less xs w mark mark' env us less d = record {
    after = d.after;
    ends = d.ends;
    now = d.now;
    later = d.later;
    kept = λ k h p q. d.kept k (omega (arith, h, less)) p q;
    ready = d.ready;
  }

  -- a value that is put where a signal stands
  does_put : (xs : List Step) (w : Valuation) (s mark y : ℕ) → n ≤ mark → IsReady l rs w → IsAlone l s → y < 2 ^ width_at l s → Gives xs w (l.slot s) mark y
      → Does xs w mark (put (signals l w) s y) []
  does_put xs w s mark y few r alone fits g = record {
    after = g.after;
    ends = g.ends;
    now = λ t. by_cases (t == s)
        (λ yes. ap (λ z. g.after (l.slot z)) (eqb-true t s yes) ∙ g.value ∙ sym (cond-true (t == s) y (w (l.slot t)) yes))
        (λ no. g.kept (l.slot t) (let p = apart.slots t in omega (arith, p, few)) (λ e. eqb-false t s no (alone t e)) ∙ sym (cond-false (t == s) y (w (l.slot t)) no));
    later = λ t h. g.kept (l.next t) (let p = apart.nexts t h in omega (arith, p, few)) (λ e. apart.slot_next s t h (sym e));
    kept = λ k h p q. g.kept k h (p s);
    ready = record {
      fits = λ t h. by_cases (t == s)
          (λ yes. subst (λ z. g.after (l.slot z) < 2 ^ width_at l z) (sym (eqb-true t s yes)) (subst (λ z. z < 2 ^ width_at l s) (sym g.value) fits))
          (λ no. subst (λ z. z < 2 ^ width_at l t) (sym (g.kept (l.slot t) (let p = apart.slots t in omega (arith, p, few)) (λ e. eqb-false t s no (alone t e)))) (r.fits t h));
      next_fits = λ t h. subst (λ z. z < 2 ^ width_at l t)
          (sym (g.kept (l.next t) (let p = apart.nexts t h in omega (arith, p, few)) (λ e. apart.slot_next s t h (sym e)))) (r.next_fits t h);
      holds = λ v h. g.kept (l.place v) (let p = apart.places v in omega (arith, p, few)) (λ e. apart.slot_place s v (sym e)) ∙ r.holds v h;
    };
  }

  -- a value that is put where a next value stands
  does_note : (xs : List Step) (w : Valuation) (s mark y : ℕ) (us : List Update) → n ≤ mark → IsReady l rs w → Member s rs → y < 2 ^ width_at l s
      → all_applied us (λ t. w (l.next t)) ≡ put (λ t. w (l.next t)) s y → Gives xs w (l.next s) mark y → Does xs w mark (signals l w) us
  does_note xs w s mark y us few r among fits is g = record {
    after = g.after;
    ends = g.ends;
    now = λ t. g.kept (l.slot t) (let p = apart.slots t in omega (arith, p, few)) (apart.slot_next t s among);
    later = λ t h. by_cases (t == s)
        (λ yes. ap (λ z. g.after (l.next z)) (eqb-true t s yes) ∙ g.value ∙ sym (ap (λ f. f t) is ∙ cond-true (t == s) y (w (l.next t)) yes))
        (λ no. g.kept (l.next t) (let p = apart.nexts t h in omega (arith, p, few)) (λ e. eqb-false t s no (apart.next_next t s h among e))
        ∙ sym (ap (λ f. f t) is ∙ cond-false (t == s) y (w (l.next t)) no));
    kept = λ k h p q. g.kept k h (q s among);
    ready = record {
      fits = λ t h. subst (λ z. z < 2 ^ width_at l t) (sym (g.kept (l.slot t) (let p = apart.slots t in omega (arith, p, few)) (apart.slot_next t s among))) (r.fits t h);
      next_fits = λ t h. by_cases (t == s)
          (λ yes. subst (λ z. g.after (l.next z) < 2 ^ width_at l z) (sym (eqb-true t s yes)) (subst (λ z. z < 2 ^ width_at l s) (sym g.value) fits))
          (λ no. subst (λ z. z < 2 ^ width_at l t)
          (sym (g.kept (l.next t) (let p = apart.nexts t h in omega (arith, p, few)) (λ e. eqb-false t s no (apart.next_next t s h among e)))) (r.next_fits t h));
      holds = λ v h. g.kept (l.place v) (let p = apart.places v in omega (arith, p, few)) (λ e. apart.next_place s v among (sym e)) ∙ r.holds v h;
    };
  }

  does_branch : (test : ℕ → List Step) (xs ys : List Step) (w : Valuation) (mark : ℕ) (t : Bool) (e f : Valuation) (us vs : List Update) (s : Tests test w mark t) → n ≤ mark
      → Does xs s.after mark e us → Does ys s.after mark f vs → Does (branch test xs ys) w mark (if t then e else f) (if t then us else vs)
  does_branch test xs ys w mark t e f us vs s few a b = by_test t refl
    where
      from : (zs : List Step) (g : Valuation) (ws : List Update) (c : Does zs s.after mark g ws) → walk (branch test xs ys) (at 0 w) ≡ at 0 c.after
          → Does (branch test xs ys) w mark g ws
      from zs g ws c ends = record {
        after = c.after;
        ends = ends;
        now = c.now;
        later = λ k h. c.later k h
            ∙ all_applied_at ws (λ i. s.after (l.next i)) (λ i. w (l.next i)) k (let p = apart.nexts k h in s.kept (l.next k) (omega (arith, p, few)));
        kept = λ k h p q. c.kept k h p q ∙ s.kept k h;
        ready = c.ready;
      }

      by_test : (c : Bool) → t ≡ c → Does (branch test xs ys) w mark (if c then e else f) (if c then us else vs)
      by_test true is = from xs e us a (branch_ends test xs ys w s.after a.after t s.ends (ap (λ c. walk (if c then xs else ys) (at 0 s.after)) is ∙ a.ends))
      by_test false is = from ys f vs b (branch_ends test xs ys w s.after b.after t s.ends (ap (λ c. walk (if c then xs else ys) (at 0 s.after)) is ∙ b.ends))

  -- ---- conditions and items

  -- a test of a condition passes over steps by what is asked
  record Finds (t : Test) (w : Valuation) (mark : ℕ) : Type 0 where
    after : Valuation
    ends : (past : ℕ) → walk (test_code l t mark past) (at 0 w) ≡ at (passed t past (signals l w)) after
    kept : (k : ℕ) → k < mark → after k ≡ w k

  test_right : (t : Test) (mark : ℕ) (w : Valuation) → n ≤ mark → Asks (Fine l rs n apart) t → IsReady l rs w → Finds t w mark
  test_right (Truth c) mark w few f r =
      let ps = before l c mark (code l c mark mark) in
      let C = operand l c mark in
      let s = stands l rs n apart c mark w few f r (gives l rs n apart c mark mark w few f r) in
      record {
        after = s.after;
        ends = λ past. walk-append ps (step SkipIfZero 1 0 true 0 C 0 past ∷ []) (at 0 w)
            ∙ ap (walk (step SkipIfZero 1 0 true 0 C 0 past ∷ [])) s.ends
            ∙ ap (λ y. at (if y == 0 then past else 0) s.after) s.value;
        kept = s.kept;
      }
  test_right (Pair op a b) mark w few f r =
      let pa = before l a mark (code l a mark mark) in
      let pb = before l b (mark + 1) (code l b (mark + 1) (mark + 1)) in
      let A = operand l a mark in
      let B = operand l b (mark + 1) in
      let sa = stands l rs n apart a mark w few f.1 r (gives l rs n apart a mark mark w few f.1 r) in
      let same : (k : ℕ) → k < n → sa.after k ≡ w k = λ k h. sa.kept k (omega (arith, h, few)) in
      let r1 = still_ready l rs n apart sa.after w same r in
      let sb = stands l rs n apart b (mark + 1) sa.after (omega (arith, few)) f.2 r1 (gives l rs n apart b (mark + 1) (mark + 1) sa.after (omega (arith, few)) f.2 r1) in
      let first : sb.after A ≡ value_of a (signals l w) = sb.kept A (let p = sa.near in omega (arith, p)) ∙ sa.value in
      let second : sb.after B ≡ value_of b (signals l w) = sb.value ∙ ap (value_of b) (same_signals l rs n apart sa.after w same) in
      record {
        after = sb.after;
        ends = λ past.
            let skip = step op (width_of a) 0 true 0 A B past in
            walk-append (pa ++ pb) (skip ∷ []) (at 0 w) ∙ ap (walk (skip ∷ [])) (walk-append pa pb (at 0 w) ∙ ap (walk pb) sa.ends ∙ sb.ends)
            ∙ ap₂ at (ap₂ (skips op (width_of a) past) first second) (act_still skip sb.after f.0.still);
        kept = λ k h. sb.kept k (omega (arith, h)) ∙ sa.kept k h;
      }

  fine_both : (op : Comparison) (a b : Sized) → Fine l rs n apart (Binary (Compare op) a b) → Fine l rs n apart a × Fine l rs n apart b
  fine_both op a b f =
      let p = agree_both (width_of a == width_of b) (agrees a) (agrees b) f.agree in
      let fa : Fine l rs n apart a = record {
        agree = p.1;
        fit = and_left (fits_signals a l.widths) (fits_signals b l.widths) f.fit;
        known = each_left (IsKnown l) (constants_of a) (constants_of b) f.known;
      } in
      let fb : Fine l rs n apart b = record {
        agree = p.2;
        fit = and_right (fits_signals a l.widths) (fits_signals b l.widths) f.fit;
        known = each_right (IsKnown l) (constants_of a) (constants_of b) f.known;
      } in
      (fa, fb)

  condition_right : (c : Sized) (mark : ℕ) (w : Valuation) → n ≤ mark → Fine l rs n apart c → IsReady l rs w
      → Tests (condition l c mark) w mark (not (value_of c (signals l w) == 0))
  condition_right c mark w few f r =
      let t = test_right (test_of c) mark w few (asks (Fine l rs n apart) fine_both c f) r in
      record {
        after = t.after;
        ends = λ past. t.ends past ∙ ap (λ k. at k t.after) (passed_right l.widths (signals l w) r.fits c past f.agree f.fit);
        kept = t.kept;
      }

  -- two values that are to be compared
  record Compared (steps : List Step) (w : Valuation) (mark a b x y : ℕ) : Type 0 where
    after : Valuation
    ends : walk steps (at 0 w) ≡ at 0 after
    first : after a ≡ x
    second : after b ≡ y
    kept : (k : ℕ) → k < mark → after k ≡ w k

  item_stands : (i : SizedItem) (here mark subject : ℕ) (w : Valuation) → n ≤ mark → here < mark → w here ≡ subject → Fine l rs n apart i.item → IsKnown l i.ignored
      → IsReady l rs w
      → Compared (item_code l i here mark) w mark (subject_at i here mark) (item_at l i mark) (bit_or subject i.ignored) (bit_or (value_of i.item (signals l w)) i.ignored)
  item_stands i here mark subject w few near is f known r = by_test (i.ignored == 0) refl
    where
      ps : List Step
      ps = before l i.item mark (code l i.item mark mark)

      B : ℕ
      B = operand l i.item mark

      x : ℕ
      x = value_of i.item (signals l w)

      s : Stands ps w B mark x
      s = stands l rs n apart i.item mark w few f r (gives l rs n apart i.item mark mark w few f r)

      P : ℕ
      P = l.place i.ignored

      low_place : P < mark
      low_place = let p = apart.places i.ignored in omega (arith, p, few)

      one : Step
      one = step Or 1 0 true (mark + 1) here P 0

      two : Step
      two = step Or 1 0 true (mark + 1 + 1) B P 0

      v : Valuation
      v = s.after

      v1 : Valuation
      v1 = put v (mark + 1) (bit_or (v here) (v P))

      v2 : Valuation
      v2 = put v1 (mark + 1 + 1) (bit_or (v1 B) (v1 P))

      here_is : v here ≡ subject
      here_is = s.kept here near ∙ is

      place_is : v P ≡ i.ignored
      place_is = s.kept P low_place ∙ r.holds i.ignored known

      plain : (y : ℕ) → i.ignored ≡ 0 → y ≡ bit_or y i.ignored
      plain y e = sym (ap (bit_or y) e ∙ or_zero_r y)

      by_test : (b : Bool) → (i.ignored == 0) ≡ b
          → Compared (ps ++ (if b then [] else one ∷ (two ∷ []))) w mark (if b then here else mark + 1) (if b then B else mark + 1 + 1) (bit_or subject i.ignored) (bit_or x i.ignored)
      by_test true e =
          let none : i.ignored ≡ 0 = eqb-true i.ignored 0 e in
          record {
            after = v;
            ends = walk-append ps [] (at 0 w) ∙ s.ends;
            first = here_is ∙ plain subject none;
            second = s.value ∙ plain x none;
            kept = s.kept;
          }
      by_test false e = record {
        after = v2;
        ends = walk-append ps (one ∷ (two ∷ [])) (at 0 w) ∙ ap (walk (one ∷ (two ∷ []))) s.ends;
        first = put-other v1 (mark + 1 + 1) (bit_or (v1 B) (v1 P)) (mark + 1) (λ d. omega (arith, d))
            ∙ put-same v (mark + 1) (bit_or (v here) (v P)) ∙ ap₂ bit_or here_is place_is;
        second = put-same v1 (mark + 1 + 1) (bit_or (v1 B) (v1 P))
            ∙ ap₂ bit_or (put-other v (mark + 1) (bit_or (v here) (v P)) B (let p = s.near in λ d. omega (arith, d, p)) ∙ s.value)
            (put-other v (mark + 1) (bit_or (v here) (v P)) P (let p = low_place in λ d. omega (arith, d, p)) ∙ place_is);
        kept = λ k h. put-other v1 (mark + 1 + 1) (bit_or (v1 B) (v1 P)) k (λ d. omega (arith, d, h))
            ∙ put-other v (mark + 1) (bit_or (v here) (v P)) k (λ d. omega (arith, d, h)) ∙ s.kept k h;
      }

  item_fine : (i : SizedItem) (is : List SizedItem) → are_items (i ∷ is) l.widths ≡ true → Each (IsKnown l) (item_constants (i ∷ is)) → Fine l rs n apart i.item × IsKnown l i.ignored
  item_fine i is legal known =
      let sized = and_left (is_sized i.item l.widths) (are_items is l.widths) legal in
      let here = each_left (IsKnown l) (constants_of i.item ++ i.ignored ∷ []) (item_constants is) known in
      let f : Fine l rs n apart i.item = record {
        agree = and_left (agrees i.item) (fits_signals i.item l.widths) sized;
        fit = and_right (agrees i.item) (fits_signals i.item l.widths) sized;
        known = each_left (IsKnown l) (constants_of i.item) (i.ignored ∷ []) here;
      } in
      (f, (each_right (IsKnown l) (constants_of i.item) (i.ignored ∷ []) here).0)

  -- one item before others
  more : (i j : SizedItem) (is : List SizedItem) (here mark subject : ℕ) (w : Valuation)
      (c : Compared (item_code l i here mark) w mark (subject_at i here mark) (item_at l i mark) (bit_or subject i.ignored) (bit_or (value_of i.item (signals l w)) i.ignored))
      → Tests (tests l (j ∷ is) here mark) c.after mark (matches_any subject (j ∷ is) (signals l w))
      → Tests (tests l (i ∷ j ∷ is) here mark) w mark (matches_any subject (i ∷ j ∷ is) (signals l w))
  more i j is here mark subject w c t = by_test (matches_item subject i (signals l w)) refl
    where
      A : ℕ
      A = subject_at i here mark

      B : ℕ
      B = item_at l i mark

      R : ℕ → List Step
      R = tests l (j ∷ is) here mark

      skip : ℕ → Step
      skip past = step SkipIfEqual 1 0 true 0 A B (length (R past))

      first_part : (past : ℕ) (b : Bool) → matches_item subject i (signals l w) ≡ b
          → walk (tests l (i ∷ j ∷ is) here mark past) (at 0 w) ≡ walk (R past) (at (if b then length (R past) else 0) c.after)
      first_part past b e =
          walk-append (item_code l i here mark) (skip past ∷ R past) (at 0 w)
          ∙ ap (walk (skip past ∷ R past)) c.ends
          ∙ ap₂ (λ x y. walk (R past) (at (if x == y then length (R past) else 0) c.after)) c.first c.second
          ∙ ap (λ z. walk (R past) (at (if z then length (R past) else 0) c.after)) e

      by_test : (b : Bool) → matches_item subject i (signals l w) ≡ b → Tests (tests l (i ∷ j ∷ is) here mark) w mark (b || matches_any subject (j ∷ is) (signals l w))
      by_test true e = record {
        after = c.after;
        ends = λ past. first_part past true e ∙ past_all (R past) c.after;
        kept = c.kept;
      }
      by_test false e = record {
        after = t.after;
        ends = λ past. first_part past false e ∙ t.ends past;
        kept = λ k h. t.kept k h ∙ c.kept k h;
      }

  tests_right : (items : List SizedItem) (here mark subject : ℕ) (w : Valuation) → n ≤ mark → here < mark → w here ≡ subject
      → are_items items l.widths ≡ true → Each (IsKnown l) (item_constants items) → IsReady l rs w
      → Tests (tests l items here mark) w mark (matches_any subject items (signals l w))
  tests_right [] here mark subject w few near is legal known r = record { after = w; ends = λ past. refl; kept = λ k h. refl }
  tests_right (i ∷ []) here mark subject w few near is legal known r =
      let f = item_fine i [] legal known in
      let c = item_stands i here mark subject w few near is f.0 f.1 r in
      let ps = item_code l i here mark in
      record {
        after = c.after;
        ends = λ past.
            let skip = step SkipUnlessEqual 1 0 true 0 (subject_at i here mark) (item_at l i mark) past in
            walk-append ps (skip ∷ []) (at 0 w) ∙ ap (walk (skip ∷ [])) c.ends
            ∙ ap₂ (λ x y. at (if x == y then 0 else past) c.after) c.first c.second
            ∙ ap (λ b. at (if b then 0 else past) c.after) (sym (or-false (matches_item subject i (signals l w))));
        kept = c.kept;
      }
  tests_right (i ∷ j ∷ is') here mark subject w few near is legal known r =
      let f = item_fine i (j ∷ is') legal known in
      let c = item_stands i here mark subject w few near is f.0 f.1 r in
      let same : (k : ℕ) → k < n → c.after k ≡ w k = λ k h. c.kept k (omega (arith, h, few)) in
      let t = tests_right (j ∷ is') here mark subject c.after few near (c.kept here near ∙ is)
      (and_right (is_sized i.item l.widths) (are_items (j ∷ is') l.widths) legal)
      (each_right (IsKnown l) (constants_of i.item ++ i.ignored ∷ []) (item_constants (j ∷ is')) known) (still_ready l rs n apart c.after w same r) in
      more i j is' here mark subject w c (subst (λ env. Tests (tests l (j ∷ is') here mark) c.after mark (matches_any subject (j ∷ is') env)) (same_signals l rs n apart c.after w same) t)

  -- ---- assignments

  target_inside : (t : SizedTarget) (ws : List ℕ) → is_target t ws ≡ true → signal_of t < length ws
  target_inside (Fixed lane) ws legal = (span_lies lane.span ws (and_right (nat_lt lane.shift 128) (is_span lane.span ws) legal)).0
  target_inside (Moving reach index) ws legal =
      let rest = and_right (nat_lt reach.shift 128 && (is_width reach.width && is_width reach.total)) (is_signal reach.signal reach.total ws && is_sized index ws) legal in
      (signal_is reach.signal reach.total ws (and_left (is_signal reach.signal reach.total ws) (is_sized index ws) rest)).0

  -- all parts in place; the value stands where no signal does
  parts_put : (ts : List SizedTarget) (from here mark x : ℕ) (w : Valuation) → n ≤ here → here < mark → w here ≡ x → x < 2 ^ from
      → are_targets ts l.widths ≡ true → Each (λ (p : Span). IsAlone l p.signal) (map span_of ts) → Each (IsKnown l) (target_constants ts) → IsReady l rs w
      → Does (parts_code l l.slot ts from here mark) w mark (written ts x (signals l w)) []
  parts_put [] from here mark x w few near is fits legal alone known r = does_none w mark r
  parts_put (t ∷ ts) from here mark x w few near is fits legal alone known r =
      let s = signal_of t in
      let env = signals l w in
      let ht = and_left (is_target t l.widths) (are_targets ts l.widths) legal in
      let kt = each_left (IsKnown l) (part_constants t) (target_constants ts) known in
      let small_to = r.fits s (target_inside t l.widths ht) in
      let below : l.slot s < mark = (let p = apart.slots s in omega (arith, p, few, near)) in
      let g = part_right l rs n apart t (l.slot s) from here mark x w (omega (arith, few, near)) near below is fits ht kt r small_to in
      let d = does_put (part_code l (l.slot s) t from here mark) w s mark (part_value t x (env s) env) (omega (arith, few, near)) r alone.0
      (part_fits l rs n apart t x (env s) env ht small_to) g in
      let rest = parts_put ts from here mark x d.after few near
      (d.kept here near (λ i e. let p = apart.slots i in omega (arith, p, e, few)) (λ i h e. let p = apart.nexts i h in omega (arith, p, e, few)) ∙ is)
      fits (and_right (is_target t l.widths) (are_targets ts l.widths) legal) alone.1 (each_right (IsKnown l) (part_constants t) (target_constants ts) known) d.ready in
      does_both (part_code l (l.slot s) t from here mark) (parts_code l l.slot ts from here mark) w mark (put env s (part_value t x (env s) env))
      (written ts x (all_applied (update_of t x env) env)) [] [] d
      (subst (λ e. Does (parts_code l l.slot ts from here mark) d.after mark (written ts x e) []) (now_is _ _ _ _ _ d ∙ sym (applied_part t x env env)) rest)

  -- all parts as next values
  parts_note : (ts : List SizedTarget) (from here mark x : ℕ) (w : Valuation) → n ≤ here → here < mark → w here ≡ x → x < 2 ^ from
      → are_targets ts l.widths ≡ true → Each (λ (p : Span). Member p.signal rs) (map span_of ts) → Each (IsKnown l) (target_constants ts) → IsReady l rs w
      → Does (parts_code l l.next ts from here mark) w mark (signals l w) (updates_of ts x (signals l w))
  parts_note [] from here mark x w few near is fits legal among known r = does_none w mark r
  parts_note (t ∷ ts) from here mark x w few near is fits legal among known r =
      let s = signal_of t in
      let env = signals l w in
      let f : Valuation = λ i. w (l.next i) in
      let ht = and_left (is_target t l.widths) (are_targets ts l.widths) legal in
      let kt = each_left (IsKnown l) (part_constants t) (target_constants ts) known in
      let small_to = r.next_fits s among.0 in
      let below : l.next s < mark = (let p = apart.nexts s among.0 in omega (arith, p, few, near)) in
      let g = part_right l rs n apart t (l.next s) from here mark x w (omega (arith, few, near)) near below is fits ht kt r small_to in
      let d = does_note (part_code l (l.next s) t from here mark) w s mark (part_value t x (f s) env) (update_of t x env) (omega (arith, few, near)) r among.0
      (part_fits l rs n apart t x (f s) env ht small_to) (applied_part t x env f) g in
      let rest = parts_note ts from here mark x d.after few near
      (d.kept here near (λ i e. let p = apart.slots i in omega (arith, p, e, few)) (λ i h e. let p = apart.nexts i h in omega (arith, p, e, few)) ∙ is)
      fits (and_right (is_target t l.widths) (are_targets ts l.widths) legal) among.1 (each_right (IsKnown l) (part_constants t) (target_constants ts) known) d.ready in
      does_both (part_code l (l.next s) t from here mark) (parts_code l l.next ts from here mark) w mark env env (update_of t x env) (updates_of ts x env) d
      (subst (λ e. Does (parts_code l l.next ts from here mark) d.after mark e (updates_of ts x e)) (now_is _ _ _ _ _ d) rest)

  gives_after : (ps qs : List Step) (w : Valuation) (to mark mark' x : ℕ) (r : Runs ps w mark) → mark ≤ mark' → Gives qs r.after to mark' x → Gives (ps ++ qs) w to mark x
  gives_after ps qs w to mark mark' x r less g = record {
    after = g.after;
    ends = walk-append ps qs (at 0 w) ∙ ap (walk qs) r.ends ∙ g.ends;
    value = g.value;
    kept = λ k h other. g.kept k (omega (arith, h, less)) other ∙ r.kept k h;
  }

  -- a value that is a signal's own
  direct_value : (t : SizedTarget) (from x m : ℕ) (env : Valuation) → is_direct l t from ≡ true → x < 2 ^ from → m < 2 ^ width_at l (signal_of t) → x ≡ part_value t x m env
  direct_value (Moving reach index) from x m env h fits small_to = absurd (false_true h)
    where
      false_true : false ≡ true → ⊥
      false_true e = cc
  direct_value (Fixed lane) from x m env h fits small_to =
      let span = lane.span in
      let width = span.width in
      let rest = and_right (lane.shift == 0) (is_whole l span && nat_le from width) h in
      let whole = and_left (is_whole l span) (nat_le from width) rest in
      let less = leb-true from width (and_right (is_whole l span) (nat_le from width) rest) in
      let unshifted : lane.shift ≡ 0 = eqb-true lane.shift 0 (and_left (lane.shift == 0) (is_whole l span && nat_le from width) h) in
      let bottom : span.low ≡ 0 = eqb-true span.low 0 (and_left (span.low == 0) (width == width_at l span.signal) whole) in
      let all : width ≡ width_at l span.signal = eqb-true width (width_at l span.signal) (and_right (span.low == 0) (width == width_at l span.signal) whole) in
      let one : x / 2 ^ 0 ≡ x = omega arith in
      sym (ap (λ k. replaced m k width (x / 2 ^ lane.shift)) bottom
      ∙ ap (λ k. replaced m 0 width (x / 2 ^ k)) unshifted
      ∙ ap (λ y. replaced m 0 width y) one
      ∙ whole_right m width x (subst (λ k. m < 2 ^ k) (sym all) small_to)
      ∙ small x width (fits_wider x from width fits less))

  one_gives : (t : SizedTarget) (e : Sized) (to mark : ℕ) (w : Valuation) → n ≤ mark → to < n → Fine l rs n apart e → is_target t l.widths ≡ true
      → Each (IsKnown l) (part_constants t) → IsReady l rs w → w to < 2 ^ width_at l (signal_of t)
      → Gives (if is_direct l t (width_of e) then code l e to mark
      else before l e mark (code l e mark mark) ++ part_code l to t (width_of e) (operand l e mark) (mark + 1)) w to mark
      (part_value t (value_of e (signals l w)) (w to) (signals l w))
  unfolding stands_runs
  one_gives t e to mark w few inside f legal known r small_to =
      let env = signals l w in
      let x = value_of e env in
      let W = width_of e in
      let ps = before l e mark (code l e mark mark) in
      let here = operand l e mark in
      let fits = value_fits l.widths env r.fits e f.agree f.fit in
      let s = stands l rs n apart e mark w few f r (gives l rs n apart e mark mark w few f r) in
      let run = stands_runs ps w here mark x s in
      let same : (k : ℕ) → k < n → s.after k ≡ w k = λ k h. s.kept k (omega (arith, h, few)) in
      let to_is : s.after to ≡ w to = same to inside in
      let near = s.near in
      gives_by (is_direct l t W) (code l e to mark) (ps ++ part_code l to t W here (mark + 1)) w to mark (part_value t x (w to) env)
      (λ direct. subst (Gives (code l e to mark) w to mark) (direct_value t W x (w to) env direct fits small_to) (gives l rs n apart e to mark w few f r))
      (λ other.
      let g = part_right l rs n apart t to W here (mark + 1) x s.after (omega (arith, few)) (omega (arith, near)) (omega (arith, inside, few)) s.value fits legal known
      (still_ready l rs n apart s.after w same r) (subst (λ z. z < 2 ^ width_at l (signal_of t)) (sym to_is) small_to) in
      subst (λ env'. Gives (ps ++ part_code l to t W here (mark + 1)) w to mark (part_value t x (w to) env')) (same_signals l rs n apart s.after w same)
      (subst (λ m. Gives (ps ++ part_code l to t W here (mark + 1)) w to mark (part_value t x m (signals l s.after))) to_is
      (gives_after ps (part_code l to t W here (mark + 1)) w to mark (mark + 1) (part_value t x (s.after to) (signals l s.after)) run (omega arith) g)))

  assign_put : (ts : List SizedTarget) (e : Sized) (mark : ℕ) (w : Valuation) → n ≤ mark → Fine l rs n apart e → are_targets ts l.widths ≡ true
      → Each (λ (p : Span). IsAlone l p.signal) (map span_of ts) → Each (IsKnown l) (target_constants ts) → IsReady l rs w
      → Does (assign_code l l.slot ts e mark) w mark (written ts (value_of e (signals l w)) (signals l w)) []
  unfolding gives_runs
  assign_put [] e mark w few f legal alone known r = does_none w mark r
  assign_put (t ∷ []) e mark w few f legal alone known r =
      let s = signal_of t in
      let env = signals l w in
      let x = value_of e env in
      let ht = and_left (is_target t l.widths) true legal in
      let small_to = r.fits s (target_inside t l.widths ht) in
      let g = one_gives t e (l.slot s) mark w few (apart.slots s) f ht (each_left (IsKnown l) (part_constants t) [] known) r small_to in
      subst (λ E. Does (one_code l l.slot t e mark) w mark E []) (sym (applied_part t x env env))
      (does_put (one_code l l.slot t e mark) w s mark (part_value t x (env s) env) few r alone.0 (part_fits l rs n apart t x (env s) env ht small_to) g)
  assign_put (t ∷ u ∷ ts) e mark w few f legal alone known r =
      let all = t ∷ u ∷ ts in
      let env = signals l w in
      let x = value_of e env in
      let g = gives l rs n apart e mark mark w few f r in
      let run = gives_runs (code l e mark mark) w mark x g in
      let same : (k : ℕ) → k < n → g.after k ≡ w k = λ k h. run.kept k (omega (arith, h, few)) in
      let d = parts_put all (width_of e) mark (mark + 1) x g.after few (omega arith) g.value (value_fits l.widths env r.fits e f.agree f.fit) legal alone known
      (still_ready l rs n apart g.after w same r) in
      does_after (code l e mark mark) (parts_code l l.slot all (width_of e) mark (mark + 1)) w mark (written all x env) [] run few
      (does_less (parts_code l l.slot all (width_of e) mark (mark + 1)) g.after mark (mark + 1) (written all x env) [] (omega arith)
      (subst (λ E. Does (parts_code l l.slot all (width_of e) mark (mark + 1)) g.after (mark + 1) (written all x E) []) (same_signals l rs n apart g.after w same) d))

  assign_note : (ts : List SizedTarget) (e : Sized) (mark : ℕ) (w : Valuation) → n ≤ mark → Fine l rs n apart e → are_targets ts l.widths ≡ true
      → Each (λ (p : Span). Member p.signal rs) (map span_of ts) → Each (IsKnown l) (target_constants ts) → IsReady l rs w
      → Does (assign_code l l.next ts e mark) w mark (signals l w) (updates_of ts (value_of e (signals l w)) (signals l w))
  unfolding gives_runs
  assign_note [] e mark w few f legal among known r = does_none w mark r
  assign_note (t ∷ []) e mark w few f legal among known r =
      let s = signal_of t in
      let env = signals l w in
      let x = value_of e env in
      let m : Valuation = λ i. w (l.next i) in
      let ht = and_left (is_target t l.widths) true legal in
      let small_to = r.next_fits s among.0 in
      let g = one_gives t e (l.next s) mark w few (apart.nexts s among.0) f ht (each_left (IsKnown l) (part_constants t) [] known) r small_to in
      subst (Does (one_code l l.next t e mark) w mark env) (sym (append-nil (update_of t x env)))
      (does_note (one_code l l.next t e mark) w s mark (part_value t x (m s) env) (update_of t x env) few r among.0
      (part_fits l rs n apart t x (m s) env ht small_to) (applied_part t x env m) g)
  assign_note (t ∷ u ∷ ts) e mark w few f legal among known r =
      let all = t ∷ u ∷ ts in
      let env = signals l w in
      let x = value_of e env in
      let g = gives l rs n apart e mark mark w few f r in
      let run = gives_runs (code l e mark mark) w mark x g in
      let same : (k : ℕ) → k < n → g.after k ≡ w k = λ k h. run.kept k (omega (arith, h, few)) in
      let d = parts_note all (width_of e) mark (mark + 1) x g.after few (omega arith) g.value (value_fits l.widths env r.fits e f.agree f.fit) legal among known
      (still_ready l rs n apart g.after w same r) in
      does_after (code l e mark mark) (parts_code l l.next all (width_of e) mark (mark + 1)) w mark env (updates_of all x env) run few
      (does_less (parts_code l l.next all (width_of e) mark (mark + 1)) g.after mark (mark + 1) env (updates_of all x env) (omega arith)
      (subst (λ E. Does (parts_code l l.next all (width_of e) mark (mark + 1)) g.after (mark + 1) E (updates_of all x E)) (same_signals l rs n apart g.after w same) d))

  -- ---- statements

  record FitArms (arms : SizedArms) : Type 0 where
    legal : are_legal_arms arms l.widths ≡ true
    alone : Each (λ (p : Span). IsAlone l p.signal) (arm_targets arms)
    among : Each (λ (p : Span). Member p.signal rs) (later_arm_targets arms)
    known : Each (IsKnown l) (arm_constants arms)

  fine_now : (e : Sized) → is_sized e l.widths ≡ true → Each (IsKnown l) (constants_of e) → Fine l rs n apart e
  fine_now e sized known = record {
    agree = and_left (agrees e) (fits_signals e l.widths) sized;
    fit = and_right (agrees e) (fits_signals e l.widths) sized;
    known = known;
  }

  mutual
    unfolding stands_runs

    pub does : (st : SizedStmt) (mark : ℕ) (w : Valuation) → n ≤ mark → IsLaid l rs st → IsReady l rs w
        → Does (stmt_code l st mark) w mark (exec st (signals l w)) (pending st (signals l w))
    does Nothing mark w few f r = does_none w mark r
    does (Assign ts e) mark w few f r =
        assign_put ts e mark w few
        (fine_now e (and_right (are_targets ts l.widths) (is_sized e l.widths) f.legal) (each_left (IsKnown l) (constants_of e) (target_constants ts) f.known))
        (and_left (are_targets ts l.widths) (is_sized e l.widths) f.legal) f.alone (each_right (IsKnown l) (constants_of e) (target_constants ts) f.known) r
    does (Later ts e) mark w few f r =
        assign_note ts e mark w few
        (fine_now e (and_right (are_targets ts l.widths) (is_sized e l.widths) f.legal) (each_left (IsKnown l) (constants_of e) (target_constants ts) f.known))
        (and_left (are_targets ts l.widths) (is_sized e l.widths) f.legal) f.among (each_right (IsKnown l) (constants_of e) (target_constants ts) f.known) r
    does (Then a b) mark w few f r =
        let env = signals l w in
        let fa : IsLaid l rs a = record {
          legal = and_left (is_legal a l.widths) (is_legal b l.widths) f.legal;
          alone = each_left (λ (p : Span). IsAlone l p.signal) (targets a) (targets b) f.alone;
          among = each_left (λ (p : Span). Member p.signal rs) (later_targets a) (later_targets b) f.among;
          known = each_left (IsKnown l) (stmt_constants a) (stmt_constants b) f.known;
        } in
        let fb : IsLaid l rs b = record {
          legal = and_right (is_legal a l.widths) (is_legal b l.widths) f.legal;
          alone = each_right (λ (p : Span). IsAlone l p.signal) (targets a) (targets b) f.alone;
          among = each_right (λ (p : Span). Member p.signal rs) (later_targets a) (later_targets b) f.among;
          known = each_right (IsKnown l) (stmt_constants a) (stmt_constants b) f.known;
        } in
        let one = does a mark w few fa r in
        let two = does b mark one.after few fb one.ready in
        does_both (stmt_code l a mark) (stmt_code l b mark) w mark (exec a env) (exec b (exec a env)) (pending a env) (pending b (exec a env)) one
        (subst (λ E. Does (stmt_code l b mark) one.after mark (exec b E) (pending b E)) (now_is (stmt_code l a mark) w mark (exec a env) (pending a env) one) two)
    does (If c a b) mark w few f r =
        let env = signals l w in
        let z = value_of c env == 0 in
        let known = each_right (IsKnown l) (constants_of c) (stmt_constants a ++ stmt_constants b) f.known in
        let legal = and_right (is_sized c l.widths) (is_legal a l.widths && is_legal b l.widths) f.legal in
        let fc = fine_now c (and_left (is_sized c l.widths) (is_legal a l.widths && is_legal b l.widths) f.legal) (each_left (IsKnown l) (constants_of c) (stmt_constants a ++ stmt_constants b) f.known) in
        let fa : IsLaid l rs a = record {
          legal = and_left (is_legal a l.widths) (is_legal b l.widths) legal;
          alone = each_left (λ (p : Span). IsAlone l p.signal) (targets a) (targets b) f.alone;
          among = each_left (λ (p : Span). Member p.signal rs) (later_targets a) (later_targets b) f.among;
          known = each_left (IsKnown l) (stmt_constants a) (stmt_constants b) known;
        } in
        let fb : IsLaid l rs b = record {
          legal = and_right (is_legal a l.widths) (is_legal b l.widths) legal;
          alone = each_right (λ (p : Span). IsAlone l p.signal) (targets a) (targets b) f.alone;
          among = each_right (λ (p : Span). Member p.signal rs) (later_targets a) (later_targets b) f.among;
          known = each_right (IsKnown l) (stmt_constants a) (stmt_constants b) known;
        } in
        let t = condition_right c mark w few fc r in
        let same : (k : ℕ) → k < n → t.after k ≡ w k = λ k h. t.kept k (omega (arith, h, few)) in
        let r1 = still_ready l rs n apart t.after w same r in
        let is = same_signals l rs n apart t.after w same in
        let xs = stmt_code l a mark in
        let ys = stmt_code l b mark in
        let one = subst (λ E. Does xs t.after mark (exec a E) (pending a E)) is (does a mark t.after few fa r1) in
        let two = subst (λ E. Does ys t.after mark (exec b E) (pending b E)) is (does b mark t.after few fb r1) in
        let whole = branch (condition l c mark) xs ys in
        subst (Does whole w mark (if z then exec b env else exec a env)) (chosen z (pending a env) (pending b env))
        (subst (λ E. Does whole w mark E (if not z then pending a env else pending b env)) (chosen z (exec a env) (exec b env))
        (does_branch (condition l c mark) xs ys w mark (not z) (exec a env) (exec b env) (pending a env) (pending b env) t few one two))
    does (Case e arms) mark w few f r =
        let env = signals l w in
        let x = value_of e env in
        let fe = fine_now e (and_left (is_sized e l.widths) (are_legal_arms arms l.widths) f.legal) (each_left (IsKnown l) (constants_of e) (arm_constants arms) f.known) in
        let fs : FitArms arms = record {
          legal = and_right (is_sized e l.widths) (are_legal_arms arms l.widths) f.legal;
          alone = f.alone;
          among = f.among;
          known = each_right (IsKnown l) (constants_of e) (arm_constants arms) f.known;
        } in
        let ps = before l e mark (code l e mark mark) in
        let here = operand l e mark in
        let s = stands l rs n apart e mark w few fe r (gives l rs n apart e mark mark w few fe r) in
        let near = s.near in
        let same : (k : ℕ) → k < n → s.after k ≡ w k = λ k h. s.kept k (omega (arith, h, few)) in
        let xs = arms_code l arms here (mark + 1) in
        let d = does_arms arms here x (mark + 1) s.after (omega (arith, few)) (omega (arith, near)) s.value fs (still_ready l rs n apart s.after w same r) in
        does_after ps xs w mark (exec_arms arms x env) (pending_arms arms x env) (stands_runs ps w here mark x s) few
        (does_less xs s.after mark (mark + 1) (exec_arms arms x env) (pending_arms arms x env) (omega arith)
        (subst (λ E. Does xs s.after (mark + 1) (exec_arms arms x E) (pending_arms arms x E)) (same_signals l rs n apart s.after w same) d))

    does_arms : (arms : SizedArms) (here subject mark : ℕ) (w : Valuation) → n ≤ mark → here < mark → w here ≡ subject → FitArms arms → IsReady l rs w
        → Does (arms_code l arms here mark) w mark (exec_arms arms subject (signals l w)) (pending_arms arms subject (signals l w))
    does_arms (Arm items body rest) here subject mark w few near is f r =
        let env = signals l w in
        let m = matches_any subject items env in
        let legal = and_right (are_items items l.widths) (is_legal body l.widths && are_legal_arms rest l.widths) f.legal in
        let known = each_right (IsKnown l) (item_constants items) (stmt_constants body ++ arm_constants rest) f.known in
        let fb : IsLaid l rs body = record {
          legal = and_left (is_legal body l.widths) (are_legal_arms rest l.widths) legal;
          alone = each_left (λ (p : Span). IsAlone l p.signal) (targets body) (arm_targets rest) f.alone;
          among = each_left (λ (p : Span). Member p.signal rs) (later_targets body) (later_arm_targets rest) f.among;
          known = each_left (IsKnown l) (stmt_constants body) (arm_constants rest) known;
        } in
        let fr : FitArms rest = record {
          legal = and_right (is_legal body l.widths) (are_legal_arms rest l.widths) legal;
          alone = each_right (λ (p : Span). IsAlone l p.signal) (targets body) (arm_targets rest) f.alone;
          among = each_right (λ (p : Span). Member p.signal rs) (later_targets body) (later_arm_targets rest) f.among;
          known = each_right (IsKnown l) (stmt_constants body) (arm_constants rest) known;
        } in
        let t = tests_right items here mark subject w few near is (and_left (are_items items l.widths) (is_legal body l.widths && are_legal_arms rest l.widths) f.legal)
        (each_left (IsKnown l) (item_constants items) (stmt_constants body ++ arm_constants rest) f.known) r in
        let same : (k : ℕ) → k < n → t.after k ≡ w k = λ k h. t.kept k (omega (arith, h, few)) in
        let r1 = still_ready l rs n apart t.after w same r in
        let eq = same_signals l rs n apart t.after w same in
        let xs = stmt_code l body mark in
        let ys = arms_code l rest here mark in
        let one = subst (λ E. Does xs t.after mark (exec body E) (pending body E)) eq (does body mark t.after few fb r1) in
        let two = subst (λ E. Does ys t.after mark (exec_arms rest subject E) (pending_arms rest subject E)) eq
        (does_arms rest here subject mark t.after few near (t.kept here near ∙ is) fr r1) in
        does_branch (tests l items here mark) xs ys w mark m (exec body env) (exec_arms rest subject env) (pending body env) (pending_arms rest subject env) t few one two
    does_arms (Default otherwise) here subject mark w few near is f r =
        does otherwise mark w few (record { legal = f.legal; alone = f.alone; among = f.among; known = f.known }) r
