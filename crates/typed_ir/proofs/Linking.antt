-- The flat design of a tree of sound units keeps all that a flat design keeps beside its widths.
use Rattle.std.proofs.Common.{◌≡◌, ℕ, ◌+◌, ◌-◌, ◌<◌, ◌≤◌, ◌==◌, ◌&&◌, ◌||◌, nat_le, nat_lt, eqb-true, true≢false, Bool, true, false, ◌⊎◌, inl, inr, List, [], ◌∷◌, ◌++◌, map, length, slice_index, cond, refl, sym, ◌∙◌, ap, ap₂, subst, arith}
use Rattle.std.proofs.lemmas.Bool.{cases_lt}
use Rattle.typed_ir.specs.Stmts.{SizedStmt, later_targets}
use Rattle.typed_ir.specs.declared.span.Span.{Span}
use Rattle.typed_ir.specs.Valuations.{within, any_within}
use Rattle.typed_ir.proofs.Cases.{by_cases, and_left, only_right}
use Rattle.typed_ir.specs.Nodes.{FlatNode, Drive, Block, node_drives, IsComplete}
use Rattle.typed_ir.specs.Orders.{Each, Member, Distinct, any_drives}
use Rattle.typed_ir.proofs.Members.{member_left, member_right, member_append, distinct_append}
use Rattle.typed_ir.specs.Cycles.{WritesRegisters, block_writes}
use Rattle.typed_ir.specs.Flats.{NodeWritesFirst, IsFlat}
use Rattle.typed_ir.proofs.Lists.{each_append, each_map}
use Rattle.typed_ir.specs.Shifts.{shifted_span, shifted_stmt}
use Rattle.typed_ir.specs.Trees.{UnitNode, Own, Into, From, SizedUnit, Instances, Nothing, One, Standing, signals_in, firsts, copied_out, node_there, nodes_at, blocks_at, top_inputs, flat_of_tree, count, IsNodeSound, IsSoundUnit, AreSound}
use Rattle.typed_ir.proofs.Pulled.{complete_shifted, first_shifted, spans_below, spans_shifted}
use Rattle.typed_ir.proofs.Fitting.{later_shifted, one_each}
use Rattle.typed_ir.proofs.Counted.{count_append, count_map, count_none, driven, nodes_given, registers_of, registers_range, InRange, no_register, Hit, member_there, member_back}

-- what holds of all that each instance gives holds of all that the tree gives
each_copied : {A : Type 0} (P : A → Type 0) (own : Standing → SizedUnit → List A) → ((at : Standing) (u : SizedUnit) (within : Instances) → IsSoundUnit u within → Each P (own at u))
    → (path : List ℕ) (first : ℕ) (tree : Instances) → AreSound tree → Each P (copied_out own path first tree)
each_copied P own each path first Nothing sound = tt
each_copied P own each path first (One name u within after) sound =
    each_append P _ _ (each (record { path = path ++ name ∷ []; first = first; kids = firsts (first + length u.signals) within }) u within sound.0)
    (each_append P _ _ (each_copied P own each (path ++ name ∷ []) (first + length u.signals) within sound.1)
    (each_copied P own each path (first + length u.signals + signals_in within) after sound.2))

node_complete : (first : ℕ) (kid : ℕ → ℕ) (x : UnitNode) → IsNodeSound x → IsComplete (node_there first kid x)
unfolding IsComplete
node_complete first kid (Own node) h = complete_shifted first node h.0
node_complete first kid (Into c form lanes e) h = tt
node_complete first kid (From c form lanes e) h = tt

node_first : (first : ℕ) (kid : ℕ → ℕ) (x : UnitNode) → IsNodeSound x → NodeWritesFirst (node_there first kid x)
node_first first kid (Own (Drive form lanes e)) h = tt
node_first first kid (Own (Block shown body)) h = first_shifted first body h.1
node_first first kid (Into c form lanes e) h = tt
node_first first kid (From c form lanes e) h = tt

-- ---- registers

distinct_map : (first : ℕ) (rs : List ℕ) → Distinct rs → Distinct (map (λ r. first + r) rs)
distinct_map first [] h = tt
distinct_map first (r ∷ rs) h = (
  (λ m. let b = member_back first (first + r) rs m in let same : b.t ≡ r = omega (arith, b.there) in h.0 (subst (λ z. Member z rs) same b.is)),
  distinct_map first rs h.1,
)

registers_distinct : (path : List ℕ) (first : ℕ) (tree : Instances) → AreSound tree → Distinct (registers_of path first tree)
registers_distinct path first Nothing sound = tt
registers_distinct path first (One name u within after) sound =
    let here = path ++ name ∷ [] in
    let second = first + length u.signals in
    let third = first + length u.signals + signals_in within in
    let inner = registers_of here second within in
    let later = registers_of path third after in
    distinct_append (map (λ r. first + r) u.registers) (inner ++ later) (distinct_map first u.registers sound.0.unit.registers_once)
    (distinct_append inner later (registers_distinct here second within sound.1) (registers_distinct path third after sound.2)
    (λ s m k. past s (registers_range here second s within sound.1 m) (registers_range path third s after sound.2 k)))
    (λ s m k. let b = member_back first s u.registers m in own s b.t b.there (sound.0.unit.registers_there b.t b.is) (member_append s inner later k))
  where
    past : (s : ℕ) → InRange (first + length u.signals) (first + length u.signals + signals_in within) s
        → InRange (first + length u.signals + signals_in within) (first + length u.signals + signals_in within + signals_in after) s → ⊥
    past s a b = omega (arith, a.to, b.from)

    own : (s t : ℕ) → first + t ≡ s → t < length u.signals
        → Member s (registers_of (path ++ name ∷ []) (first + length u.signals) within)
        ⊎ Member s (registers_of path (first + length u.signals + signals_in within) after) → ⊥
    own s t e small (inl k) = let r = registers_range (path ++ name ∷ []) (first + length u.signals) s within sound.1 k in omega (arith, e, small, r.from)
    own s t e small (inr k) =
        let r = registers_range path (first + length u.signals + signals_in within) s after sound.2 k in omega (arith, e, small, r.from)

-- ---- clocked blocks

each_more : (rs rs' : List ℕ) (ps : List Span) → ((s : ℕ) → Member s rs → Member s rs') → Each (λ (p : Span). Member p.signal rs) ps
    → Each (λ (p : Span). Member p.signal rs') ps
each_more rs rs' [] h all = tt
each_more rs rs' (p ∷ ps) h all = (h p.signal all.0, each_more rs rs' ps h all.1)

writes_more : (rs rs' : List ℕ) (sts : List SizedStmt) → ((s : ℕ) → Member s rs → Member s rs') → WritesRegisters rs sts → WritesRegisters rs' sts
writes_more rs rs' [] h all = tt
writes_more rs rs' (st ∷ sts) h all = (each_more rs rs' (later_targets st) h all.0, writes_more rs rs' sts h all.1)

writes_append : (rs : List ℕ) (xs ys : List SizedStmt) → WritesRegisters rs xs → WritesRegisters rs ys → WritesRegisters rs (xs ++ ys)
writes_append rs [] ys h k = k
writes_append rs (x ∷ xs) ys h k = (h.0, writes_append rs xs ys h.1 k)

writes_shifted : (first : ℕ) (rs : List ℕ) (sts : List SizedStmt) → WritesRegisters rs sts → WritesRegisters (map (λ r. first + r) rs) (map (shifted_stmt first) sts)
writes_shifted first rs [] h = tt
writes_shifted first rs (st ∷ sts) h =
    (subst (Each (λ (p : Span). Member p.signal (map (λ r. first + r) rs))) (sym (later_shifted first st)) (shifted_each (later_targets st) h.0), writes_shifted first rs sts h.1)
  where
    shifted_each : (ps : List Span) → Each (λ (p : Span). Member p.signal rs) ps
        → Each (λ (p : Span). Member p.signal (map (λ r. first + r) rs)) (map (shifted_span first) ps)
    shifted_each [] all = tt
    shifted_each (p ∷ ps) all = (member_there first p.signal rs all.0, shifted_each ps all.1)

registers_written : (path : List ℕ) (first : ℕ) (tree : Instances) → AreSound tree
    → WritesRegisters (registers_of path first tree) (copied_out blocks_at path first tree)
registers_written path first Nothing sound = tt
registers_written path first (One name u within after) sound =
    let here = path ++ name ∷ [] in
    let second = first + length u.signals in
    let third = first + length u.signals + signals_in within in
    let own = map (λ r. first + r) u.registers in
    let inner = registers_of here second within in
    let later = registers_of path third after in
    writes_append (own ++ (inner ++ later)) _ _
    (writes_more own (own ++ (inner ++ later)) _ (λ s m. member_left s own (inner ++ later) m) (writes_shifted first u.registers u.clocked sound.0.unit.registers_only))
    (writes_append (own ++ (inner ++ later)) _ _
    (writes_more inner (own ++ (inner ++ later)) _ (λ s m. member_right s own (inner ++ later) (member_left s inner later m)) (registers_written here second within sound.1))
    (writes_more later (own ++ (inner ++ later)) _ (λ s m. member_right s own (inner ++ later) (member_right s inner later m)) (registers_written path third after sound.2)))

-- ---- one block a bit

abbrev pub blocks_given : List ℕ → ℕ → Instances → List SizedStmt
blocks_given path first tree = copied_out blocks_at path first tree

abbrev writes : ℕ → ℕ → SizedStmt → Bool
writes s i st = block_writes st s i

-- what the blocks of instances write: nothing outside of their signals, and no bit twice
record Wrote (first count_of : ℕ) (blocks : List SizedStmt) : Type 0 where
  none : (s i : ℕ) → (s < first) ⊎ (first + count_of ≤ s) → count (writes s i) blocks ≡ 0
  few : (s i : ℕ) → count (writes s i) blocks ≤ 1

-- a bit that is written is one of a register
span_member : (rs : List ℕ) (ps : List Span) (s i : ℕ) → Each (λ (p : Span). Member p.signal rs) ps → any_within ps s i ≡ true → Member s rs
span_member rs [] s i all h = absurd (true≢false (sym h))
span_member rs (p ∷ ps) s i all h = by_cases (within p s i)
    (λ here. subst (λ z. Member z rs) (sym (eqb-true s p.signal (and_left (s == p.signal) (nat_le p.low i && nat_lt i (p.low + p.width)) here))) all.0)
    (λ out. span_member rs ps s i all.1 (only_right (within p s i) (any_within ps s i) out h))

-- a block that writes registers alone
abbrev WritesIn : List ℕ → SizedStmt → Type 0
WritesIn rs st = Each (λ (p : Span). Member p.signal rs) (later_targets st)

each_writes : (rs : List ℕ) (sts : List SizedStmt) → WritesRegisters rs sts → Each (WritesIn rs) sts
each_writes rs [] h = tt
each_writes rs (st ∷ sts) h = (h.0, each_writes rs sts h.1)

shifted_writes : (first s i : ℕ) (st : SizedStmt) → block_writes (shifted_stmt first st) s i ≡ any_within (map (shifted_span first) (later_targets st)) s i
shifted_writes first s i st = ap (λ ps. any_within ps s i) (later_shifted first st)

own_none : (first n : ℕ) (rs : List ℕ) (sts : List SizedStmt) → Each (WritesIn rs) sts → ((t : ℕ) → Member t rs → t < n)
    → (s i : ℕ) → (s < first) ⊎ (first + n ≤ s) → count (writes s i) (map (shifted_stmt first) sts) ≡ 0
own_none first n rs sts all there s i out =
    count_map (writes s i) (shifted_stmt first) sts
    ∙ count_none (WritesIn rs) (λ st. block_writes (shifted_stmt first st) s i) sts all (λ st only h. case out st only (sym (shifted_writes first s i st) ∙ h))
  where
    case : (s < first) ⊎ (first + n ≤ s) → (st : SizedStmt) → WritesIn rs st → any_within (map (shifted_span first) (later_targets st)) s i ≡ true → ⊥
    case (inl low) st only h = true≢false (sym h ∙ spans_below first (later_targets st) s i low)
    case (inr far) st only h =
        let e : first + (s - first) ≡ s = omega arith in
        let here : any_within (later_targets st) (s - first) i ≡ true =
        sym (spans_shifted first (later_targets st) (s - first) i) ∙ ap (λ z. any_within (map (shifted_span first) (later_targets st)) z i) e ∙ h in
        let small : s - first < n = there (s - first) (span_member rs (later_targets st) (s - first) i only here) in
        omega (arith, small, far, e)

own_few : (first : ℕ) (sts : List SizedStmt) → ((s i : ℕ) → count (writes s i) sts ≤ 1)
    → (s i : ℕ) → count (writes s i) (map (shifted_stmt first) sts) ≤ 1
own_few first sts few s i =
    subst (λ z. z ≤ 1) (sym (count_map (writes s i) (shifted_stmt first) sts)) (at (cases_lt s first))
  where
    none_low : s < first → (xs : List SizedStmt) → count (λ st. block_writes (shifted_stmt first st) s i) xs ≡ 0
    none_low low [] = refl
    none_low low (x ∷ xs) =
        ap (λ b. cond b 1 0 + count (λ st. block_writes (shifted_stmt first st) s i) xs)
        (shifted_writes first s i x ∙ spans_below first (later_targets x) s i low)
        ∙ ap (λ n. 0 + n) (none_low low xs)

    same_far : first + (s - first) ≡ s → (xs : List SizedStmt)
        → count (λ st. block_writes (shifted_stmt first st) s i) xs ≡ count (writes (s - first) i) xs
    same_far e [] = refl
    same_far e (x ∷ xs) =
        ap₂ (λ b n. cond b 1 0 + n)
        (shifted_writes first s i x ∙ ap (λ z. any_within (map (shifted_span first) (later_targets x)) z i) (sym e)
        ∙ spans_shifted first (later_targets x) (s - first) i)
        (same_far e xs)

    at : (s < first) ⊎ (first ≤ s) → count (λ st. block_writes (shifted_stmt first st) s i) sts ≤ 1
    at (inl low) = let e = none_low low sts in omega (arith, e)
    at (inr far) =
        let e : first + (s - first) ≡ s = omega arith in
        subst (λ z. z ≤ 1) (sym (same_far e sts)) (few (s - first) i)

writers_few : (path : List ℕ) (first : ℕ) (tree : Instances) → AreSound tree → Wrote first (signals_in tree) (blocks_given path first tree)
writers_few path first Nothing sound = record { none = λ s i h. refl; few = λ s i. omega arith }
writers_few path first (One name u within after) sound =
    let here = path ++ name ∷ [] in
    let n = length u.signals in
    let own = map (shifted_stmt first) u.clocked in
    let inner = blocks_given here (first + n) within in
    let later = blocks_given path (first + n + signals_in within) after in
    let mine : (s i : ℕ) → (s < first) ⊎ (first + n ≤ s) → count (writes s i) own ≡ 0 =
    own_none first n u.registers u.clocked (each_writes u.registers u.clocked sound.0.unit.registers_only) sound.0.unit.registers_there in
    let one : (s i : ℕ) → count (writes s i) own ≤ 1 = own_few first u.clocked sound.0.unit.writers in
    let two : Wrote (first + n) (signals_in within) inner = writers_few here (first + n) within sound.1 in
    let three : Wrote (first + n + signals_in within) (signals_in after) later = writers_few path (first + n + signals_in within) after sound.2 in
    let sum : (s i : ℕ) → count (writes s i) (own ++ (inner ++ later)) ≡ count (writes s i) own + (count (writes s i) inner + count (writes s i) later) =
    (λ (s i : ℕ). count_append (writes s i) own (inner ++ later)
    ∙ ap (λ z. count (writes s i) own + z) (count_append (writes s i) inner later)) in
    record {
      none = λ s i h. sum s i ∙ none_of first n (signals_in within) (signals_in after) s _ _ _ (mine s i) (two.none s i) (three.none s i) h;
      few = λ s i. subst (λ z. z ≤ 1) (sym (sum s i)) (few_of first n (signals_in within) s _ _ _ (mine s i) (one s i) (two.none s i) (two.few s i) (three.none s i) (three.few s i));
    }
  where
    none_of : (first n m k s a b c : ℕ) → ((s < first) ⊎ (first + n ≤ s) → a ≡ 0) → ((s < first + n) ⊎ (first + n + m ≤ s) → b ≡ 0)
        → ((s < first + n + m) ⊎ (first + n + m + k ≤ s) → c ≡ 0) → (s < first) ⊎ (first + (n + m + k) ≤ s) → a + (b + c) ≡ 0
    none_of first n m k s a b c f g h (inl low) = omega (arith, f (inl low), g (inl (omega (arith, low))), h (inl (omega (arith, low))))
    none_of first n m k s a b c f g h (inr far) =
        omega (arith, f (inr (omega (arith, far))), g (inr (omega (arith, far))), h (inr (omega (arith, far))))

    few_of : (first n m s a b c : ℕ) → ((s < first) ⊎ (first + n ≤ s) → a ≡ 0) → a ≤ 1 → ((s < first + n) ⊎ (first + n + m ≤ s) → b ≡ 0) → b ≤ 1
        → {k : ℕ} → ((s < first + n + m) ⊎ (k ≤ s) → c ≡ 0) → c ≤ 1 → a + (b + c) ≤ 1
    few_of first n m s a b c f fa g gb h hc = at (cases_lt s (first + n))
      where
        inner_or_later : first + n ≤ s → (s < first + n + m) ⊎ (first + n + m ≤ s) → a + (b + c) ≤ 1
        inner_or_later from (inl low) = omega (arith, f (inr from), gb, h (inl low))
        inner_or_later from (inr far) = omega (arith, f (inr from), g (inr far), hc)

        at : (s < first + n) ⊎ (first + n ≤ s) → a + (b + c) ≤ 1
        at (inl low) = omega (arith, fa, g (inl low), h (inl (omega (arith, low))))
        at (inr from) = inner_or_later from (cases_lt s (first + n + m))

-- ---- the whole

one_none : (b : Bool) (n : ℕ) → cond b 1 0 + n ≡ 0 → b ≡ false
one_none true n h = absurd (omega (arith, h))
one_none false n h = refl

rest_none : (b : Bool) (n : ℕ) → cond b 1 0 + n ≡ 0 → n ≡ 0
rest_none true n h = absurd (omega (arith, h))
rest_none false n h = omega (arith, h)

undriven : (nodes : List FlatNode) (s i : ℕ) → count (λ k. node_drives k s i) nodes ≡ 0 → any_drives node_drives nodes s i ≡ false
undriven [] s i h = refl
undriven (n ∷ ns) s i h =
    ap₂ (λ x y. x || y) (one_none (node_drives n s i) (count (λ k. node_drives k s i) ns) h)
    (undriven ns s i (rest_none (node_drives n s i) (count (λ k. node_drives k s i) ns) h))

pub flat_sound : (tree : Instances) → AreSound tree → IsFlat (flat_of_tree tree)
flat_sound tree sound =
    let d = driven [] 0 tree sound in
    record {
      sound = record {
        one_driver = one_each node_drives (nodes_given [] 0 tree) d.few;
        complete = each_copied IsComplete nodes_at (λ at u within s. each_map IsComplete IsNodeSound (node_there at.first (slice_index at.kids)) u.nodes
            (node_complete at.first (slice_index at.kids)) s.unit.nodes) [] 0 tree sound;
      };
      first = each_copied NodeWritesFirst nodes_at (λ at u within s. each_map NodeWritesFirst IsNodeSound (node_there at.first (slice_index at.kids)) u.nodes
          (node_first at.first (slice_index at.kids)) s.unit.nodes) [] 0 tree sound;
      one_writer = one_each block_writes (blocks_given [] 0 tree) (writers_few [] 0 tree sound).few;
      registers_only = registers_written [] 0 tree sound;
      registers_once = registers_distinct [] 0 tree sound;
      inputs_once = once tree sound;
      apart = λ s m k. no_register [] 0 s tree sound m (top_hit tree s k);
      held = λ s i m. undriven (nodes_given [] 0 tree) s i (none s i m);
    }
  where
    once : (tree : Instances) → AreSound tree → Distinct (top_inputs tree)
    once Nothing sound = tt
    once (One name u within after) sound = sound.0.unit.inputs_once

    top_hit : (tree : Instances) (s : ℕ) → Member s (top_inputs tree) → Hit 0 tree s
    top_hit Nothing s k = absurd k
    top_hit (One name u within after) s k = record { c = 0; p = s; is = k; there = omega arith }

    none : (s i : ℕ) → Member s (registers_of [] 0 tree) ⊎ Member s (top_inputs tree) → count (λ k. node_drives k s i) (nodes_given [] 0 tree) ≡ 0
    none s i (inl m) = (driven [] 0 tree sound).registers s i m
    none s i (inr m) =
        let h = top_hit tree s m in
        subst (λ z. count (λ k. node_drives k z i) (nodes_given [] 0 tree) ≡ 0) h.there ((driven [] 0 tree sound).inputs h.c h.p i h.is)
