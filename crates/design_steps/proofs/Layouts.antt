-- The steps of an expression give its value.
use Rattle.std.proofs.Common.{◌≡◌, ℕ, ◌+◌, ◌*◌, ◌/◌, ◌%◌, ◌^◌, ◌<◌, ◌≤◌, max, Bool, true, false, ◌==◌, nat_le, nat_lt, List, [], ◌∷◌, ◌++◌, length, refl, sym, ap, ap₂, ◌∙◌, subst, arith}
use Rattle.std.specs.Prelude.{bit_or, if◌then◌else◌}
use Rattle.std.proofs.lemmas.Bool.{eqb-true, leb-true, ltb-true}
use Rattle.std.proofs.lemmas.Nat.{pow_below, mul-le}
use Rattle.bits.specs.Runs.{selected}
use Rattle.bits.proofs.Modulo.{fits_wider}
use Rattle.typed_ir.specs.Valuations.{Valuation, put}
use Rattle.typed_ir.specs.Orders.{Each}
use Rattle.typed_ir.specs.Sized.{Sized, Constant, Name, Part, Pick as Pick', Unary, Binary, Choice, Concat, Repeat, Resized, width_of, value_of, is_width, takes_widths, agrees, fits_signals, copies, place_of}
use Rattle.typed_ir.proofs.Copies.{copies_fit}
use Rattle.typed_ir.proofs.Cases.{and_left, and_right}
use Rattle.typed_ir.proofs.Lists.{each_left, each_right}
use Rattle.word_steps.specs.declared.step.Step.{Step}
use Rattle.word_steps.specs.declared.op.Op.TheVariants.{Copy, Choose, Select, Join, Product, Pick}
use Rattle.word_steps.specs.Walks.{apply, skips, writes, seen, at, walk, located, place_at}
use Rattle.word_steps.specs.Sound.{is_long}
use Rattle.word_steps.proofs.Words.{put-same, put-other}
use Rattle.word_steps.proofs.Steps.{walk-append, act-writes}
use Rattle.design_steps.specs.Plans.{Plan, IsApart, IsReady, IsKnown, signals, width_at}
use Rattle.design_steps.specs.Expressions.{step, is_wide, unary_op, binary_op, swaps, locate_op, resize_op, resize_low, is_plain, operand, before, code, constants_of}
use Rattle.design_steps.proofs.Seen.{seen_whole, seen_part}
use Rattle.design_steps.proofs.Fits.{a_width, widths_right, agree_both, agree_three, value_fits}
use Rattle.design_steps.proofs.Applying.{unary_none, unary_writes, unary_right, binary_none, binary_writes, binary_right, join_right, repeat_right, resize_none, resize_writes, resize_right, plain_right, pick_right, locate_none, locate_writes, locate_right}
use Rattle.design_steps.proofs.Ready.{same_signals, still_ready}

-- the steps end with no step to pass over, and leave what stands below the mark
pub record Runs (steps : List Step) (w : Valuation) (mark : ℕ) : Type 0 where
  pub after : Valuation
  pub ends : walk steps (at 0 w) ≡ at 0 after
  pub kept : (k : ℕ) → k < mark → after k ≡ w k

-- the same, and x stands at the place `here`
pub record Stands (steps : List Step) (w : Valuation) (here mark x : ℕ) : Type 0 where
  pub after : Valuation
  pub ends : walk steps (at 0 w) ≡ at 0 after
  pub near : here ≤ mark
  pub value : after here ≡ x
  pub kept : (k : ℕ) → k < mark → after k ≡ w k

-- x stands at the place `to`, and all else below the mark is as before
pub record Gives (steps : List Step) (w : Valuation) (to mark x : ℕ) : Type 0 where
  pub after : Valuation
  pub ends : walk steps (at 0 w) ≡ at 0 after
  pub value : after to ≡ x
  pub kept : (k : ℕ) → k < mark → (k ≡ to → ⊥) → after k ≡ w k

unfoldable pub runs_none : (w : Valuation) (mark : ℕ) → Runs [] w mark
runs_none w mark = record { after = w; ends = refl; kept = λ k h. refl }

unfoldable pub join : (ps qs : List Step) (w : Valuation) (mark here mark' x : ℕ) (r : Runs ps w mark) → Stands qs r.after here mark' x → mark ≤ mark' → Runs (ps ++ qs) w mark
join ps qs w mark here mark' x r s few = record {
  after = s.after;
  ends = walk-append ps qs (at 0 w) ∙ ap (walk qs) r.ends ∙ s.ends;
  kept = λ k h. s.kept k (omega (arith, h, few)) ∙ r.kept k h;
}

unfoldable pub stands_runs : (ps : List Step) (w : Valuation) (here mark x : ℕ) → Stands ps w here mark x → Runs ps w mark
stands_runs ps w here mark x s = record { after = s.after; ends = s.ends; kept = s.kept }

-- the last step of an expression
unfoldable pub finish : (ps : List Step) (s : Step) (w : Valuation) (mark x : ℕ) (r : Runs ps w mark) → ((v n y z : ℕ) → skips s.op v n y z ≡ 0) → writes s.op ≡ true
    → apply s.op s.width s.low (seen s.wide (r.after s.a)) (seen s.wide (r.after s.b)) (seen s.wide (r.after s.c)) ≡ x → Gives (ps ++ s ∷ []) w s.to mark x
finish ps s w mark x r none writing e =
    let y = apply s.op s.width s.low (seen s.wide (r.after s.a)) (seen s.wide (r.after s.b)) (seen s.wide (r.after s.c)) in
    record {
      after = put r.after s.to y;
      ends = walk-append ps (s ∷ []) (at 0 w) ∙ ap (walk (s ∷ [])) r.ends
          ∙ ap₂ at (none s.width s.c (r.after s.a) (r.after s.b)) (act-writes s r.after writing);
      value = put-same r.after s.to y ∙ e;
      kept = λ k h other. put-other r.after s.to y k other ∙ r.kept k h;
    }

-- what is put at the mark stands there
unfoldable pub at_mark : (steps : List Step) (mark x : ℕ) (w : Valuation) → Gives steps w mark mark x → Stands steps w mark mark x
at_mark steps mark x w g = record {
  after = g.after;
  ends = g.ends;
  near = omega arith;
  value = g.value;
  kept = λ k h. g.kept k h (λ e. omega (arith, h, e));
}

unfoldable pub gives_runs : (steps : List Step) (w : Valuation) (mark x : ℕ) → Gives steps w mark mark x → Runs steps w mark
gives_runs steps w mark x g = record { after = g.after; ends = g.ends; kept = λ k h. g.kept k h (λ e. omega (arith, h, e)) }

-- what stands in one way or the other
stands_by : (b : Bool) (xs ys : List Step) (w : Valuation) (here mark x : ℕ) → (b ≡ true → Stands xs w here mark x) → (b ≡ false → Stands ys w mark mark x)
    → Stands (if b then xs else ys) w (if b then here else mark) mark x
stands_by true xs ys w here mark x f g = f refl
stands_by false xs ys w here mark x f g = g refl

one_fits : (w : ℕ) → 1 ≤ w → 1 < 2 ^ w
one_fits w some = let more : 2 ^ 0 < 2 ^ w = pow_below 0 w (omega (arith, some)) in omega (arith, more)

-- two operands of a step, one way or the other
swapped : (b : Bool) (f : ℕ → ℕ) (x y : ℕ) → f (if b then y else x) ≡ (if b then f y else f x)
swapped true f x y = refl
swapped false f x y = refl

module _ (l : Plan) (rs : List ℕ) (n : ℕ) (apart : IsApart l rs n) where
  -- what an expression needs
  pub record Fine (e : Sized) : Type 0 where
    pub agree : agrees e ≡ true
    pub fit : fits_signals e l.widths ≡ true
    pub known : Each (IsKnown l) (constants_of e)

  fits_now : (e : Sized) (w : Valuation) → Fine e → IsReady l rs w → value_of e (signals l w) < 2 ^ width_of e
  fits_now e w f r = value_fits l.widths (signals l w) r.fits e f.agree f.fit

  mutual
    unfolding runs_none stands_runs join finish at_mark gives_runs

    -- where the value of an expression stands, as soon as its own steps are right
    pub stands : (e : Sized) (mark : ℕ) (w : Valuation) → n ≤ mark → Fine e → IsReady l rs w
        → Gives (code l e mark mark) w mark mark (value_of e (signals l w))
        → Stands (before l e mark (code l e mark mark)) w (operand l e mark) mark (value_of e (signals l w))
    stands (Constant width value) mark w few f r g =
        record { after = w; ends = refl; near = (let p = apart.places value in omega (arith, p, few)); value = r.holds value f.known.0; kept = λ k h. refl }
    stands (Name signal width) mark w few f r g =
        record { after = w; ends = refl; near = (let p = apart.slots signal in omega (arith, p, few)); value = refl; kept = λ k h. refl }
    stands (Part span) mark w few f r g = at_mark (code l (Part span) mark mark) mark (value_of (Part span) (signals l w)) w g
    stands (Pick' signal width below signed index) mark w few f r g =
        at_mark (code l (Pick' signal width below signed index) mark mark) mark (value_of (Pick' signal width below signed index) (signals l w)) w g
    stands (Unary op a) mark w few f r g = at_mark (code l (Unary op a) mark mark) mark (value_of (Unary op a) (signals l w)) w g
    stands (Binary op a b) mark w few f r g = at_mark (code l (Binary op a b) mark mark) mark (value_of (Binary op a b) (signals l w)) w g
    stands (Choice c a b) mark w few f r g = at_mark (code l (Choice c a b) mark mark) mark (value_of (Choice c a b) (signals l w)) w g
    stands (Concat width a b) mark w few f r g = at_mark (code l (Concat width a b) mark mark) mark (value_of (Concat width a b) (signals l w)) w g
    stands (Repeat width count a) mark w few f r g = at_mark (code l (Repeat width count a) mark mark) mark (value_of (Repeat width count a) (signals l w)) w g
    stands (Resized a width signed) mark w few f r g =
        let fa : Fine a = record { agree = and_right (is_width width) (agrees a) f.agree; fit = f.fit; known = f.known } in
        stands_by (is_plain (width_of a) width signed) (before l a mark (code l a mark mark)) (code l (Resized a width signed) mark mark) w
        (operand l a mark) mark (value_of (Resized a width signed) (signals l w))
        (λ plain. subst (λ x. Stands (before l a mark (code l a mark mark)) w (operand l a mark) mark x)
        (plain_right (width_of a) (value_of a (signals l w)) width signed (fits_now a w fa r) plain)
        (stands a mark w few fa r (gives a mark mark w few fa r)))
        (λ other. at_mark (code l (Resized a width signed) mark mark) mark (value_of (Resized a width signed) (signals l w)) w g)

    -- the value stands at the place, and nothing else below the mark has changed
    pub gives : (e : Sized) (to mark : ℕ) (w : Valuation) → n ≤ mark → Fine e → IsReady l rs w → Gives (code l e to mark) w to mark (value_of e (signals l w))
    gives (Constant width value) to mark w few f r =
        finish [] (step Copy 1 0 (is_wide Copy width) to (l.place value) 0 0) w mark value (runs_none w mark) (λ v n y z. refl) refl
        (ap (seen (is_wide Copy width)) (r.holds value f.known.0)
        ∙ seen_whole false value width width (fits_now (Constant width value) w f r) (omega arith))
    gives (Name signal width) to mark w few f r =
        finish [] (step Copy 1 0 (is_wide Copy width) to (l.slot signal) 0 0) w mark (w (l.slot signal)) (runs_none w mark) (λ v n y z. refl) refl
        (seen_whole false (w (l.slot signal)) width width (fits_now (Name signal width) w f r) (omega arith))
    gives (Part span) to mark w few f r =
        finish [] (step Select span.width span.low (is_wide Select (span.low + span.width)) to (l.slot span.signal) 0 0) w mark
        (w (l.slot span.signal) / 2 ^ span.low % 2 ^ span.width) (runs_none w mark) (λ v n y z. refl) refl
        (seen_part (w (l.slot span.signal)) span.low span.width)
    gives (Pick' signal width below signed index) to mark w few f r =
        let W = width_of index in
        let fi : Fine index = record {
          agree = and_right (is_width width) (agrees index) f.agree;
          fit = and_right (nat_lt signal (length l.widths)) (fits_signals index l.widths) f.fit;
          known = each_left (IsKnown l) (constants_of index) (below ∷ []) f.known;
        } in
        let known = (each_right (IsKnown l) (constants_of index) (below ∷ []) f.known).0 in
        let pi = before l index mark (code l index mark mark) in
        let A = operand l index mark in
        let x = value_of index (signals l w) in
        let place = place_of below signed W x in
        let si = stands index mark w few fi r (gives index mark mark w few fi r) in
        let below_is : si.after (l.place below) ≡ below =
        (let p = apart.places below in si.kept (l.place below) (omega (arith, p, few)) ∙ r.holds below known) in
        let find = step (locate_op signed) W 0 true mark A (l.place below) 0 in
        let g = finish pi find w mark (located place) (stands_runs pi w A mark x si) (locate_none signed) (locate_writes signed)
        (ap₂ (λ u v. apply (locate_op signed) W 0 u v (si.after 0)) si.value below_is ∙ locate_right signed W x below (si.after 0) (fits_now index w fi r)) in
        let run = gives_runs (pi ++ find ∷ []) w mark (located place) g in
        let kept : run.after (l.slot signal) ≡ w (l.slot signal) = (let p = apart.slots signal in run.kept (l.slot signal) (omega (arith, p, few))) in
        let inside : signal < length l.widths = ltb-true signal (length l.widths) (and_left (nat_lt signal (length l.widths)) (fits_signals index l.widths) f.fit) in
        let most = (a_width width (and_left (is_width width) (agrees index) f.agree)).1 in
        finish (pi ++ find ∷ []) (step Pick width 0 true to (l.slot signal) mark 0) w mark (selected (w (l.slot signal)) place width) run (λ v n y z. refl) refl
        (ap₂ (λ u v. selected u (place_at v) width) kept g.value
        ∙ pick_right (w (l.slot signal)) place width (fits_wider (w (l.slot signal)) (width_at l signal) 128 (r.fits signal inside) (apart.few signal)) most)
    gives (Unary op a) to mark w few f r =
        let W = width_of a in
        let fa : Fine a = record { agree = f.agree; fit = f.fit; known = f.known } in
        let pa = before l a mark (code l a mark mark) in
        let A = operand l a mark in
        let wide = is_wide (unary_op op) W in
        let x = value_of a (signals l w) in
        let sa = stands a mark w few fa r (gives a mark mark w few fa r) in
        finish pa (step (unary_op op) W 0 wide to A 0 0) w mark (value_of (Unary op a) (signals l w)) (stands_runs pa w A mark x sa)
        (unary_none op) (unary_writes op)
        (ap (λ y. apply (unary_op op) W 0 y (seen wide (sa.after 0)) (seen wide (sa.after 0)))
        (ap (seen wide) sa.value ∙ seen_whole (is_long (unary_op op)) x W W (fits_now a w fa r) (omega arith))
        ∙ unary_right op W x (seen wide (sa.after 0)) (seen wide (sa.after 0)) (fits_now a w fa r))
    gives (Binary op a b) to mark w few f r =
        let W = width_of a in
        let V = width_of b in
        let p = agree_both (takes_widths op W V) (agrees a) (agrees b) f.agree in
        let fa : Fine a = record { agree = p.1; fit = and_left (fits_signals a l.widths) (fits_signals b l.widths) f.fit; known = each_left (IsKnown l) (constants_of a) (constants_of b) f.known } in
        let fb : Fine b = record { agree = p.2; fit = and_right (fits_signals a l.widths) (fits_signals b l.widths) f.fit; known = each_right (IsKnown l) (constants_of a) (constants_of b) f.known } in
        let wide = is_wide (binary_op op) (max W V) in
        let pa = before l a mark (code l a mark mark) in
        let pb = before l b (mark + 1) (code l b (mark + 1) (mark + 1)) in
        let A = operand l a mark in
        let B = operand l b (mark + 1) in
        let x = value_of a (signals l w) in
        let y = value_of b (signals l w) in
        let sa = stands a mark w few fa r (gives a mark mark w few fa r) in
        let same : (k : ℕ) → k < n → sa.after k ≡ w k = λ k h. sa.kept k (omega (arith, h, few)) in
        let r1 = still_ready l rs n apart sa.after w same r in
        let sb = stands b (mark + 1) sa.after (omega (arith, few)) fb r1 (gives b (mark + 1) (mark + 1) sa.after (omega (arith, few)) fb r1) in
        let run = join pa pb w mark B (mark + 1) (value_of b (signals l sa.after)) (stands_runs pa w A mark x sa) sb (omega arith) in
        let first : seen wide (sb.after A) ≡ x = ap (seen wide) (sb.kept A (omega (arith, sa.near)) ∙ sa.value) ∙ seen_whole (is_long (binary_op op)) x W (max W V) (fits_now a w fa r) (omega arith) in
        let second : seen wide (sb.after B) ≡ y = ap (seen wide) (sb.value ∙ ap (value_of b) (same_signals l rs n apart sa.after w same)) ∙ seen_whole (is_long (binary_op op)) y V (max W V) (fits_now b w fb r) (omega arith) in
        let s = swaps op in
        let z = seen wide (sb.after 0) in
        finish (pa ++ pb) (step (binary_op op) W 0 wide to (if s then B else A) (if s then A else B) 0) w mark (value_of (Binary op a b) (signals l w)) run
        (binary_none op) (binary_writes op)
        (ap₂ (λ u v. apply (binary_op op) W 0 u v z) (swapped s (λ k. seen wide (sb.after k)) A B) (swapped s (λ k. seen wide (sb.after k)) B A)
        ∙ ap₂ (λ u v. apply (binary_op op) W 0 (if s then v else u) (if s then u else v) z) first second
        ∙ binary_right op W V x y z p.0 (fits_now a w fa r) (fits_now b w fb r))
    gives (Choice c a b) to mark w few f r =
        let p = agree_three (width_of a == width_of b) (agrees c) (agrees a) (agrees b) f.agree in
        let q = agree_both (fits_signals c l.widths) (fits_signals a l.widths) (fits_signals b l.widths) f.fit in
        let known = each_right (IsKnown l) (constants_of c) (constants_of a ++ constants_of b) f.known in
        let fc : Fine c = record { agree = p.1; fit = q.0; known = each_left (IsKnown l) (constants_of c) (constants_of a ++ constants_of b) f.known } in
        let fa : Fine a = record { agree = p.2; fit = q.1; known = each_left (IsKnown l) (constants_of a) (constants_of b) known } in
        let fb : Fine b = record { agree = p.3; fit = q.2; known = each_right (IsKnown l) (constants_of a) (constants_of b) known } in
        let most = max (width_of c) (max (width_of a) (width_of b)) in
        let wide = is_wide Choose most in
        let pc = before l c mark (code l c mark mark) in
        let pa = before l a (mark + 1) (code l a (mark + 1) (mark + 1)) in
        let pb = before l b (mark + 1 + 1) (code l b (mark + 1 + 1) (mark + 1 + 1)) in
        let C = operand l c mark in
        let A = operand l a (mark + 1) in
        let B = operand l b (mark + 1 + 1) in
        let t = value_of c (signals l w) in
        let x = value_of a (signals l w) in
        let y = value_of b (signals l w) in
        let sc = stands c mark w few fc r (gives c mark mark w few fc r) in
        let same : (k : ℕ) → k < n → sc.after k ≡ w k = λ k h. sc.kept k (omega (arith, h, few)) in
        let r1 = still_ready l rs n apart sc.after w same r in
        let sa = stands a (mark + 1) sc.after (omega (arith, few)) fa r1 (gives a (mark + 1) (mark + 1) sc.after (omega (arith, few)) fa r1) in
        let run = join pc pa w mark A (mark + 1) (value_of a (signals l sc.after)) (stands_runs pc w C mark t sc) sa (omega arith) in
        let same2 : (k : ℕ) → k < n → sa.after k ≡ w k = λ k h. run.kept k (omega (arith, h, few)) in
        let r2 = still_ready l rs n apart sa.after w same2 r in
        let sb = stands b (mark + 1 + 1) sa.after (omega (arith, few)) fb r2
        (gives b (mark + 1 + 1) (mark + 1 + 1) sa.after (omega (arith, few)) fb r2) in
        let run2 = join (pc ++ pa) pb w mark B (mark + 1 + 1) (value_of b (signals l sa.after)) run sb (omega arith) in
        let zeroth : seen wide (sb.after C) ≡ t = ap (seen wide) (sb.kept C (omega (arith, sc.near)) ∙ sa.kept C (omega (arith, sc.near)) ∙ sc.value)
        ∙ seen_whole false t (width_of c) most (fits_now c w fc r) (omega arith) in
        let first : seen wide (sb.after A) ≡ x = ap (seen wide) (sb.kept A (omega (arith, sa.near)) ∙ sa.value ∙ ap (value_of a) (same_signals l rs n apart sc.after w same))
        ∙ seen_whole false x (width_of a) most (fits_now a w fa r) (omega arith) in
        let second : seen wide (sb.after B) ≡ y = ap (seen wide) (sb.value ∙ ap (value_of b) (same_signals l rs n apart sa.after w same2))
        ∙ seen_whole false y (width_of b) most (fits_now b w fb r) (omega arith) in
        finish ((pc ++ pa) ++ pb) (step Choose 1 0 wide to C A B) w mark (value_of (Choice c a b) (signals l w)) run2 (λ v n y z. refl) refl
        (ap₂ (λ u v. if u == 0 then seen wide (sb.after B) else v) zeroth first ∙ ap (λ v. if t == 0 then v else x) second)
    gives (Concat width a b) to mark w few f r =
        let W = width_of a in
        let V = width_of b in
        let p = agree_three (width == W + V) (nat_le width 128) (agrees a) (agrees b) f.agree in
        let sum : width ≡ W + V = eqb-true width (W + V) p.0 in
        let fa : Fine a = record { agree = p.2; fit = and_left (fits_signals a l.widths) (fits_signals b l.widths) f.fit; known = each_left (IsKnown l) (constants_of a) (constants_of b) f.known } in
        let fb : Fine b = record { agree = p.3; fit = and_right (fits_signals a l.widths) (fits_signals b l.widths) f.fit; known = each_right (IsKnown l) (constants_of a) (constants_of b) f.known } in
        let wide = is_wide Join width in
        let pa = before l a mark (code l a mark mark) in
        let pb = before l b (mark + 1) (code l b (mark + 1) (mark + 1)) in
        let A = operand l a mark in
        let B = operand l b (mark + 1) in
        let x = value_of a (signals l w) in
        let y = value_of b (signals l w) in
        let sa = stands a mark w few fa r (gives a mark mark w few fa r) in
        let same : (k : ℕ) → k < n → sa.after k ≡ w k = λ k h. sa.kept k (omega (arith, h, few)) in
        let r1 = still_ready l rs n apart sa.after w same r in
        let sb = stands b (mark + 1) sa.after (omega (arith, few)) fb r1 (gives b (mark + 1) (mark + 1) sa.after (omega (arith, few)) fb r1) in
        let run = join pa pb w mark B (mark + 1) (value_of b (signals l sa.after)) (stands_runs pa w A mark x sa) sb (omega arith) in
        let first : seen wide (sb.after A) ≡ x = ap (seen wide) (sb.kept A (omega (arith, sa.near)) ∙ sa.value) ∙ seen_whole false x W width (fits_now a w fa r) (omega (arith, sum)) in
        let second : seen wide (sb.after B) ≡ y = ap (seen wide) (sb.value ∙ ap (value_of b) (same_signals l rs n apart sa.after w same)) ∙ seen_whole false y V width (fits_now b w fb r) (omega (arith, sum)) in
        finish (pa ++ pb) (step Join width V wide to A B 0) w mark (value_of (Concat width a b) (signals l w)) run (λ v n y z. refl) refl
        (ap₂ (λ u v. bit_or (u * 2 ^ V % 2 ^ width) v) first second
        ∙ join_right x y W V width (fits_now a w fa r) (fits_now b w fb r) (omega (arith, sum)))
    gives (Repeat width count a) to mark w few f r =
        let W = width_of a in
        let p = agree_three (width == count * W) (nat_le 1 count) (nat_le width 128) (agrees a) f.agree in
        let product : width ≡ count * W = eqb-true width (count * W) p.0 in
        let one = copies count W 1 in
        let fa : Fine a = record { agree = p.3; fit = f.fit; known = each_left (IsKnown l) (constants_of a) (one ∷ []) f.known } in
        let known = (each_right (IsKnown l) (constants_of a) (one ∷ []) f.known).0 in
        let wide = is_wide Product width in
        let pa = before l a mark (code l a mark mark) in
        let A = operand l a mark in
        let x = value_of a (signals l w) in
        let sa = stands a mark w few fa r (gives a mark mark w few fa r) in
        let one_is : sa.after (l.place one) ≡ one = (let q = apart.places one in sa.kept (l.place one) (omega (arith, q, few)) ∙ r.holds one known) in
        let some = (widths_right a p.3).0 in
        let enough : 1 * W ≤ count * W = mul-le 1 W count W (leb-true 1 count p.1) (omega arith) in
        let first : seen wide (sa.after A) ≡ x = ap (seen wide) sa.value ∙ seen_whole false x W width (fits_now a w fa r) (omega (arith, product, enough)) in
        let small_one : one < 2 ^ width = subst (λ k. one < 2 ^ k) (sym product) (copies_fit count W 1 (one_fits W some)) in
        let second : seen wide (sa.after (l.place one)) ≡ one = ap (seen wide) one_is ∙ seen_whole false one width width small_one (omega arith) in
        finish pa (step Product width 0 wide to A (l.place one) 0) w mark (copies count W x) (stands_runs pa w A mark x sa) (λ v n y z. refl) refl
        (ap₂ (λ u v. (u * v) % 2 ^ width) first second ∙ repeat_right count W width x product (fits_now a w fa r))
    gives (Resized a width signed) to mark w few f r =
        let W = width_of a in
        let fa : Fine a = record { agree = and_right (is_width width) (agrees a) f.agree; fit = f.fit; known = f.known } in
        let pa = before l a mark (code l a mark mark) in
        let A = operand l a mark in
        let op = resize_op W width signed in
        let low = resize_low W width signed in
        let wide = is_wide op (max W width) in
        let x = value_of a (signals l w) in
        let sa = stands a mark w few fa r (gives a mark mark w few fa r) in
        finish pa (step op width low wide to A 0 0) w mark (value_of (Resized a width signed) (signals l w)) (stands_runs pa w A mark x sa)
        (resize_none W width signed) (resize_writes W width signed)
        (ap (λ y. apply op width low y (seen wide (sa.after 0)) (seen wide (sa.after 0)))
        (ap (seen wide) sa.value ∙ seen_whole (is_long op) x W (max W width) (fits_now a w fa r) (omega arith))
        ∙ resize_right W x width signed (seen wide (sa.after 0)) (seen wide (sa.after 0)) (fits_now a w fa r) (widths_right a fa.agree).0)

  -- the place of a select at run time is found
  pub finds : (index : Sized) (below : ℕ) (signed : Bool) (mark : ℕ) (w : Valuation) → n ≤ mark → Fine index → IsKnown l below → IsReady l rs w
      → Gives (before l index mark (code l index mark mark)
      ++ step (locate_op signed) (width_of index) 0 true mark (operand l index mark) (l.place below) 0 ∷ []) w mark mark
      (located (place_of below signed (width_of index) (value_of index (signals l w))))
  unfolding stands_runs
  finds index below signed mark w few f known r =
      let W = width_of index in
      let x = value_of index (signals l w) in
      let pi = before l index mark (code l index mark mark) in
      let A = operand l index mark in
      let si = stands index mark w few f r (gives index mark mark w few f r) in
      let below_is : si.after (l.place below) ≡ below =
      (let p = apart.places below in si.kept (l.place below) (omega (arith, p, few)) ∙ r.holds below known) in
      finish pi (step (locate_op signed) W 0 true mark A (l.place below) 0) w mark (located (place_of below signed W x)) (stands_runs pi w A mark x si)
      (locate_none signed) (locate_writes signed)
      (ap₂ (λ u v. apply (locate_op signed) W 0 u v (si.after 0)) si.value below_is ∙ locate_right signed W x below (si.after 0) (fits_now index w f r))
