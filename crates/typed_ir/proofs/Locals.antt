-- What an expression, a statement and a node give depends on the bits that they read.
use Rattle.std.proofs.Common.{◌≡◌, ℕ, suc, ◌+◌, ◌-◌, ◌*◌, ◌/◌, ◌%◌, ◌^◌, ◌<◌, ◌≤◌, min, Bool, true, false, ◌||◌, ◌&&◌, not, ◌==◌, nat_le, nat_lt, cond, List, [], ◌∷◌, ◌++◌, map, refl, sym, ◌∙◌, ap, ap₂, arith, true≢false, ℤ, pos}
use Rattle.std.proofs.Math.Bool.{or_assoc}
use Rattle.std.specs.Prelude.{bit_or, negsuc}
use Rattle.std.proofs.lemmas.Bool.{eqb-true, eq-eqb, leb-true, le-leb, ltb-true, lt-ltb, ltb-false, cond-true, cond-false, or_from, and_from}
use Rattle.std.proofs.lemmas.Nat.Bits.{same_from_bits}
use Rattle.bits.specs.Values.{resized}
use Rattle.bits.specs.Runs.{selected}
use Rattle.bits.proofs.Runs.{bit_at-shr, bit_at-mod_in, bit_at-mod_out}
use Rattle.typed_ir.specs.declared.span.Span.{Span}
use Rattle.typed_ir.specs.declared.lane.Lane.{Lane}
use Rattle.typed_ir.specs.declared.reach.Reach.{Reach}
use Rattle.typed_ir.specs.declared.shown_target.ShownTarget.{ShownTarget}
use Rattle.typed_ir.specs.declared.update.Update.{Update}
use Rattle.typed_ir.specs.Valuations.{Valuation, Places, look, placed, within, any_within, nowhere, Same}
use Rattle.typed_ir.specs.Sized.{Sized, Constant, Name, Part, Pick, Unary, Binary, Choice, Concat, Repeat, Resized, value_of, width_of, apply_unary, apply_binary, place_of, copies, reads}
use Rattle.typed_ir.specs.Stmts.{SizedTarget, Fixed, Moving, SizedItem, SizedStmt, SizedArms, Skip, Assign, Later, Then, If, Case, Arm, Default, moved, all_applied, update_of, written, matches_item, matches_any, exec, exec_arms, span_of, targets, arm_targets, certain, known_after, known_after_arms, index_reads, open_indices, item_reads, open_reads, open_arm_reads}
use Rattle.typed_ir.specs.Nodes.{FlatNode, Drive, Block, spread, lane_spans, copied, drive, node_drives, node_reads, IsComplete}
use Rattle.typed_ir.specs.Orders.{NodeLaws}
use Rattle.typed_ir.proofs.Cases.{by_cases, or_left, or_right, left_or, right_or, and_left, and_right, cond_same, only_left}
use Rattle.typed_ir.proofs.BitRuns.{placed-inside, placed-outside}
use Rattle.typed_ir.proofs.Settled.{same_valuation}

-- ---- expressions

-- a signal whose bits are all the same
pub same_signal : (v w : Valuation) (t : ℕ) → ((s i : ℕ) → (s == t) ≡ true → look v s i ≡ look w s i) → v t ≡ w t
same_signal v w t h = same_from_bits (v t) (w t) (λ i. h t i (eq-eqb t t refl))

pub part_local : (p : Span) (v w : Valuation) → Same (within p) v w
    → v p.signal / 2 ^ p.low % 2 ^ p.width ≡ w p.signal / 2 ^ p.low % 2 ^ p.width
part_local p v w h = same_from_bits (v p.signal / 2 ^ p.low % 2 ^ p.width) (w p.signal / 2 ^ p.low % 2 ^ p.width) (λ i.
    by_cases (nat_lt i p.width)
    (λ inside. let small : i < p.width = ltb-true i p.width inside in
    bit_at-mod_in (v p.signal / 2 ^ p.low) p.width i small ∙ bit_at-shr (v p.signal) p.low i
    ∙ h p.signal (p.low + i) (and_from (p.signal == p.signal) (nat_le p.low (p.low + i) && nat_lt (p.low + i) (p.low + p.width))
    (eq-eqb p.signal p.signal refl)
    (and_from (nat_le p.low (p.low + i)) (nat_lt (p.low + i) (p.low + p.width))
    (le-leb p.low (p.low + i) (omega arith)) (lt-ltb (p.low + i) (p.low + p.width) (omega (arith, small)))))
    ∙ sym (bit_at-shr (w p.signal) p.low i) ∙ sym (bit_at-mod_in (w p.signal / 2 ^ p.low) p.width i small))
    (λ outside. let large : p.width ≤ i = ltb-false i p.width outside in
    bit_at-mod_out (v p.signal / 2 ^ p.low) p.width i large ∙ sym (bit_at-mod_out (w p.signal / 2 ^ p.low) p.width i large)))

pub value_local : (e : Sized) (v w : Valuation) → Same (reads e) v w → value_of e v ≡ value_of e w
value_local (Constant width value) v w h = refl
value_local (Name signal width) v w h = same_signal v w signal h
value_local (Part span) v w h = part_local span v w h
value_local (Pick signal width below signed index) v w h =
    ap₂ (λ n x. selected n (place_of below signed (width_of index) x) width)
    (same_signal v w signal (λ s i r. h s i (left_or (s == signal) (reads index s i) r)))
    (value_local index v w (λ s i r. h s i (right_or (s == signal) (reads index s i) r)))
value_local (Unary op a) v w h = ap (apply_unary op (width_of a)) (value_local a v w h)
value_local (Binary op a b) v w h =
    ap₂ (apply_binary op (width_of a))
    (value_local a v w (λ s i r. h s i (left_or (reads a s i) (reads b s i) r)))
    (value_local b v w (λ s i r. h s i (right_or (reads a s i) (reads b s i) r)))
value_local (Choice c a b) v w h =
    cond_same (value_of c v == 0) (value_of c w == 0) (value_of b v) (value_of a v) (value_of b w) (value_of a w)
    (ap (λ n. n == 0) (value_local c v w (λ s i r. h s i (left_or (reads c s i) (reads a s i || reads b s i) r))))
    (λ t. value_local b v w (λ s i r. h s i (right_or (reads c s i) (reads a s i || reads b s i) (right_or (reads a s i) (reads b s i) r))))
    (λ t. value_local a v w (λ s i r. h s i (right_or (reads c s i) (reads a s i || reads b s i) (left_or (reads a s i) (reads b s i) r))))
value_local (Concat width a b) v w h =
    ap₂ (λ x y. x * 2 ^ width_of b + y)
    (value_local a v w (λ s i r. h s i (left_or (reads a s i) (reads b s i) r)))
    (value_local b v w (λ s i r. h s i (right_or (reads a s i) (reads b s i) r)))
value_local (Repeat width count a) v w h = ap (copies count (width_of a)) (value_local a v w h)
value_local (Resized a width signed) v w h = ap (λ x. resized (width_of a) x width signed) (value_local a v w h)

-- ---- assignments

-- the same updates keep the same bits the same
pub applied_same : (us : List Update) (A : Places) (v w : Valuation) → Same A v w → Same A (all_applied us v) (all_applied us w)
applied_same [] A v w h = h
applied_same (u ∷ us) A v w h = applied_same us A (placed u.span u.value v) (placed u.span u.value w) (λ s i a.
    by_cases (within u.span s i)
    (λ inside. placed-inside u.span u.value v s i inside ∙ sym (placed-inside u.span u.value w s i inside))
    (λ outside. placed-outside u.span u.value v s i outside ∙ h s i a ∙ sym (placed-outside u.span u.value w s i outside)))

pub update_local : (t : SizedTarget) (x y : ℕ) (v w : Valuation) → x ≡ y → Same (index_reads (t ∷ [])) v w → update_of t x v ≡ update_of t y w
update_local (Fixed lane) x y v w e h = ap (λ z. record { span = lane.span; value = z / 2 ^ lane.shift } ∷ []) e
update_local (Moving reach index) x y v w e h =
    ap₂ (λ n z. moved reach (place_of reach.below reach.signed (width_of index) n) (z / 2 ^ reach.shift))
    (value_local index v w (λ s i r. h s i (left_or (reads index s i) false r))) e

-- what is read is known or read openly
pub read_same : (A known : Places) (B : Places) (v w : Valuation) → ((s i : ℕ) → (A s i && not (known s i)) ≡ true → B s i ≡ true)
    → Same known v w → Same B v w → Same A v w
read_same A known B v w sub hk hb s i a =
    by_cases (known s i) (hk s i) (λ no. hb s i (sub s i (and_from (A s i) (not (known s i)) a (ap not no))))

-- the bits of a part become known
lane_certain : (p : Span) (z : ℕ) (A : Places) (v w : Valuation) → Same A v w
    → Same (λ s i. A s i || within p s i) (placed p z v) (placed p z w)
lane_certain p z A v w k s i a =
    by_cases (within p s i)
    (λ inside. placed-inside p z v s i inside ∙ sym (placed-inside p z w s i inside))
    (λ outside. placed-outside p z v s i outside
    ∙ by_cases (A s i) (k s i) (λ no. absurd (true≢false (sym a ∙ or_from (A s i) (within p s i) no outside)))
    ∙ sym (placed-outside p z w s i outside))

-- the same value written to the same parts makes those bits the same that are written for certain, and keeps bits B the same, where
-- all that the indices read openly is among B
pub written_local : (ts : List SizedTarget) (x y : ℕ) (known B : Places) (v w : Valuation) → x ≡ y
    → ((s i : ℕ) → open_indices ts known s i ≡ true → B s i ≡ true) → Same known v w → Same B v w
    → Same (λ s i. known s i || certain ts s i) (written ts x v) (written ts y w) × Same B (written ts x v) (written ts y w)
written_local [] x y known B v w e sub hk hb = (λ s i a. hk s i (only_left (known s i) false refl a), hb)
written_local (Fixed lane ∷ ts) x y known B v w e sub hk hb =
    let us = update_of (Fixed lane) x v in
    let more : Places = λ s i. known s i || within lane.span s i in
    let same : us ≡ update_of (Fixed lane) y w = update_local (Fixed lane) x y v w e (λ s i r. absurd (true≢false (sym r))) in
    let both : Same (λ s i. more s i || certain ts s i) (written ts x (all_applied us v)) (written ts y (all_applied us w))
    × Same B (written ts x (all_applied us v)) (written ts y (all_applied us w)) =
    written_local ts x y more B (all_applied us v) (all_applied us w) e sub
    (lane_certain lane.span (x / 2 ^ lane.shift) known v w hk) (applied_same us B v w hb) in (
      (λ s i a. both.0 s i (or_assoc (known s i) (within lane.span s i) (certain ts s i) ∙ a)
          ∙ ap (λ z. look (written ts y (all_applied z w)) s i) same),
      (λ s i a. both.1 s i a ∙ ap (λ z. look (written ts y (all_applied z w)) s i) same),
    )
written_local (Moving reach index ∷ ts) x y known B v w e sub hk hb =
    let us = update_of (Moving reach index) x v in
    let read : Same (reads index) v w = read_same (reads index) known B v w
    (λ s i r. sub s i (left_or (reads index s i && not (known s i)) (open_indices ts known s i) r)) hk hb in
    let same : us ≡ update_of (Moving reach index) y w =
    update_local (Moving reach index) x y v w e (λ s i r. read s i (only_left (reads index s i) false refl r)) in
    let both : Same (λ s i. known s i || certain ts s i) (written ts x (all_applied us v)) (written ts y (all_applied us w))
    × Same B (written ts x (all_applied us v)) (written ts y (all_applied us w)) =
    written_local ts x y known B (all_applied us v) (all_applied us w) e
    (λ s i r. sub s i (right_or (reads index s i && not (known s i)) (open_indices ts known s i) r))
    (applied_same us known v w hk) (applied_same us B v w hb) in (
      (λ s i a. both.0 s i a ∙ ap (λ z. look (written ts y (all_applied z w)) s i) same),
      (λ s i a. both.1 s i a ∙ ap (λ z. look (written ts y (all_applied z w)) s i) same),
    )

-- ---- statements

pub if_same : (A : Places) (s t : Bool) (x y x' y' : Valuation) → s ≡ t → Same A x x' → Same A y y' → Same A (cond s x y) (cond t x' y')
if_same A true true x y x' y' e h k = h
if_same A false false x y x' y' e h k = k
if_same A true false x y x' y' e h k = absurd (true≢false e)
if_same A false true x y x' y' e h k = absurd (true≢false (sym e))

pub item_local : (subject : ℕ) (x : SizedItem) (v w : Valuation) → Same (reads x.item) v w → matches_item subject x v ≡ matches_item subject x w
item_local subject x v w h = ap (λ n. bit_or subject x.ignored == bit_or n x.ignored) (value_local x.item v w h)

pub items_local : (subject : ℕ) (xs : List SizedItem) (v w : Valuation) → Same (item_reads xs) v w → matches_any subject xs v ≡ matches_any subject xs w
items_local subject [] v w h = refl
items_local subject (x ∷ xs) v w h =
    ap₂ (λ a b. a || b) (item_local subject x v w (λ s i r. h s i (left_or (reads x.item s i) (item_reads xs s i) r)))
    (items_local subject xs v w (λ s i r. h s i (right_or (reads x.item s i) (item_reads xs s i) r)))

-- bits written for certain, and bits B, stay the same where all that is read openly is among B
mutual
  pub exec_local : (st : SizedStmt) (known B : Places) (v w : Valuation) → ((s i : ℕ) → open_reads st known s i ≡ true → B s i ≡ true)
      → Same known v w → Same B v w → Same (known_after st known) (exec st v) (exec st w) × Same B (exec st v) (exec st w)
  exec_local Skip known B v w sub hk hb = (hk, hb)
  exec_local (Later parts e) known B v w sub hk hb = (hk, hb)
  exec_local (Assign parts e) known B v w sub hk hb =
      let same : value_of e v ≡ value_of e w = value_local e v w (read_same (reads e) known B v w
      (λ s i r. sub s i (left_or (reads e s i && not (known s i)) (open_indices parts known s i) r)) hk hb) in
      written_local parts (value_of e v) (value_of e w) known B v w same
      (λ s i r. sub s i (right_or (reads e s i && not (known s i)) (open_indices parts known s i) r)) hk hb
  exec_local (Then a b) known B v w sub hk hb =
      let first : Same (known_after a known) (exec a v) (exec a w) × Same B (exec a v) (exec a w) =
      exec_local a known B v w (λ s i r. sub s i (left_or (open_reads a known s i) (open_reads b (known_after a known) s i) r)) hk hb in
      exec_local b (known_after a known) B (exec a v) (exec a w)
      (λ s i r. sub s i (right_or (open_reads a known s i) (open_reads b (known_after a known) s i) r)) first.0 first.1
  exec_local (If c a b) known B v w sub hk hb =
      let test : (value_of c v == 0) ≡ (value_of c w == 0) = ap (λ n. n == 0) (value_local c v w (read_same (reads c) known B v w
      (λ s i r. sub s i (left_or (reads c s i && not (known s i)) (open_reads a known s i || open_reads b known s i) r)) hk hb)) in
      let yes : Same (known_after a known) (exec a v) (exec a w) × Same B (exec a v) (exec a w) =
      exec_local a known B v w (λ s i r. sub s i (right_or (reads c s i && not (known s i)) (open_reads a known s i || open_reads b known s i)
      (left_or (open_reads a known s i) (open_reads b known s i) r))) hk hb in
      let no : Same (known_after b known) (exec b v) (exec b w) × Same B (exec b v) (exec b w) =
      exec_local b known B v w (λ s i r. sub s i (right_or (reads c s i && not (known s i)) (open_reads a known s i || open_reads b known s i)
      (right_or (open_reads a known s i) (open_reads b known s i) r))) hk hb in (
        if_same (λ s i. known_after a known s i && known_after b known s i) (value_of c v == 0) (value_of c w == 0)
            (exec b v) (exec a v) (exec b w) (exec a w) test
            (λ s i k. no.0 s i (and_right (known_after a known s i) (known_after b known s i) k))
            (λ s i k. yes.0 s i (and_left (known_after a known s i) (known_after b known s i) k)),
        if_same B (value_of c v == 0) (value_of c w == 0) (exec b v) (exec a v) (exec b w) (exec a w) test no.1 yes.1,
      )
  exec_local (Case e arms) known B v w sub hk hb =
      let same : value_of e v ≡ value_of e w = value_local e v w (read_same (reads e) known B v w
      (λ s i r. sub s i (left_or (reads e s i && not (known s i)) (open_arm_reads arms known s i) r)) hk hb) in
      let inner : Same (known_after_arms arms known) (exec_arms arms (value_of e v) v) (exec_arms arms (value_of e v) w)
      × Same B (exec_arms arms (value_of e v) v) (exec_arms arms (value_of e v) w) =
      exec_arms_local arms (value_of e v) known B v w
      (λ s i r. sub s i (right_or (reads e s i && not (known s i)) (open_arm_reads arms known s i) r)) hk hb in (
        (λ s i a. inner.0 s i a ∙ ap (λ n. look (exec_arms arms n w) s i) same),
        (λ s i a. inner.1 s i a ∙ ap (λ n. look (exec_arms arms n w) s i) same),
      )

  exec_arms_local : (arms : SizedArms) (subject : ℕ) (known B : Places) (v w : Valuation) → ((s i : ℕ) → open_arm_reads arms known s i ≡ true → B s i ≡ true)
      → Same known v w → Same B v w
      → Same (known_after_arms arms known) (exec_arms arms subject v) (exec_arms arms subject w) × Same B (exec_arms arms subject v) (exec_arms arms subject w)
  exec_arms_local (Arm items body rest) subject known B v w sub hk hb =
      let test : matches_any subject items v ≡ matches_any subject items w = items_local subject items v w (read_same (item_reads items) known B v w
      (λ s i r. sub s i (left_or (item_reads items s i && not (known s i)) (open_reads body known s i || open_arm_reads rest known s i) r)) hk hb) in
      let yes : Same (known_after body known) (exec body v) (exec body w) × Same B (exec body v) (exec body w) =
      exec_local body known B v w (λ s i r. sub s i (right_or (item_reads items s i && not (known s i)) (open_reads body known s i || open_arm_reads rest known s i)
      (left_or (open_reads body known s i) (open_arm_reads rest known s i) r))) hk hb in
      let no : Same (known_after_arms rest known) (exec_arms rest subject v) (exec_arms rest subject w) × Same B (exec_arms rest subject v) (exec_arms rest subject w) =
      exec_arms_local rest subject known B v w (λ s i r. sub s i (right_or (item_reads items s i && not (known s i)) (open_reads body known s i || open_arm_reads rest known s i)
      (right_or (open_reads body known s i) (open_arm_reads rest known s i) r))) hk hb in (
        if_same (λ s i. known_after body known s i && known_after_arms rest known s i) (matches_any subject items v) (matches_any subject items w)
            (exec body v) (exec_arms rest subject v) (exec body w) (exec_arms rest subject w) test
            (λ s i k. yes.0 s i (and_left (known_after body known s i) (known_after_arms rest known s i) k))
            (λ s i k. no.0 s i (and_right (known_after body known s i) (known_after_arms rest known s i) k)),
        if_same B (matches_any subject items v) (matches_any subject items w) (exec body v) (exec_arms rest subject v) (exec body w) (exec_arms rest subject w) test yes.1 no.1,
      )
  exec_arms_local (Default otherwise) subject known B v w sub hk hb = exec_local otherwise known B v w sub hk hb

-- spans of two lists
pub any_within-append : (xs ys : List Span) (s i : ℕ) → any_within (xs ++ ys) s i ≡ (any_within xs s i || any_within ys s i)
any_within-append [] ys s i = refl
any_within-append (x ∷ xs) ys s i =
    ap (λ t. within x s i || t) (any_within-append xs ys s i) ∙ sym (or_assoc (within x s i) (any_within xs s i) (any_within ys s i))

pub first_of_two : (xs ys : List Span) (s i : ℕ) → any_within (xs ++ ys) s i ≡ false → any_within xs s i ≡ false
first_of_two xs ys s i h = or_left (any_within xs s i) (any_within ys s i) (sym (any_within-append xs ys s i) ∙ h)

pub second_of_two : (xs ys : List Span) (s i : ℕ) → any_within (xs ++ ys) s i ≡ false → any_within ys s i ≡ false
second_of_two xs ys s i h = or_right (any_within xs s i) (any_within ys s i) (sym (any_within-append xs ys s i) ∙ h)

-- a run of bits of a signal is among its bits
pub run_among : (signal low width total : ℕ) (s i : ℕ) → low + width ≤ total → within (record { signal = signal; low = low; width = width }) s i ≡ true
    → within (record { signal = signal; low = 0; width = total }) s i ≡ true
run_among signal low width total s i few h =
    let run : (nat_le low i && nat_lt i (low + width)) ≡ true = and_right (s == signal) (nat_le low i && nat_lt i (low + width)) h in
    let high : i < low + width = ltb-true i (low + width) (and_right (nat_le low i) (nat_lt i (low + width)) run) in
    and_from (s == signal) (nat_le 0 i && nat_lt i (0 + total)) (and_left (s == signal) (nat_le low i && nat_lt i (low + width)) h)
    (and_from (nat_le 0 i) (nat_lt i (0 + total)) (le-leb 0 i (omega arith)) (lt-ltb i (0 + total) (omega (arith, high, few))))

run_outside : (signal low width total x : ℕ) (env : Valuation) (s i : ℕ) → low + width ≤ total
    → within (record { signal = signal; low = 0; width = total }) s i ≡ false
    → look (placed (record { signal = signal; low = low; width = width }) x env) s i ≡ look env s i
run_outside signal low width total x env s i few h =
    placed-outside (record { signal = signal; low = low; width = width }) x env s i
    (by_cases (within (record { signal = signal; low = low; width = width }) s i)
    (λ inside. absurd (true≢false (sym (run_among signal low width total s i few inside) ∙ h)))
    (λ no. no))

pub moved_outside : (reach : Reach) (z : ℤ) (x : ℕ) (env : Valuation) (s i : ℕ)
    → within (record { signal = reach.signal; low = 0; width = reach.total }) s i ≡ false
    → look (all_applied (moved reach z x) env) s i ≡ look env s i
moved_outside reach (pos low) x env s i h =
    by_cases (nat_lt low reach.total)
    (λ t. ap (λ us. look (all_applied us env) s i) (cond-true (nat_lt low reach.total) (record { span = record { signal = reach.signal; low = low; width = min reach.width (reach.total - low) }; value = x } ∷ []) [] t)
    ∙ (let small : low < reach.total = ltb-true low reach.total t in
    run_outside reach.signal low (min reach.width (reach.total - low)) reach.total x env s i (omega (arith, small)) h))
    (λ t. ap (λ us. look (all_applied us env) s i) (cond-false (nat_lt low reach.total) (record { span = record { signal = reach.signal; low = low; width = min reach.width (reach.total - low) }; value = x } ∷ []) [] t))
moved_outside reach (negsuc below) x env s i h =
    by_cases (nat_lt (suc below) reach.width)
    (λ t. ap (λ us. look (all_applied us env) s i) (cond-true (nat_lt (suc below) reach.width) (record { span = record { signal = reach.signal; low = 0; width = min (reach.width - suc below) reach.total }; value = x / 2 ^ suc below } ∷ []) [] t)
    ∙ run_outside reach.signal 0 (min (reach.width - suc below) reach.total) reach.total (x / 2 ^ suc below) env s i (omega arith) h)
    (λ t. ap (λ us. look (all_applied us env) s i) (cond-false (nat_lt (suc below) reach.width) (record { span = record { signal = reach.signal; low = 0; width = min (reach.width - suc below) reach.total }; value = x / 2 ^ suc below } ∷ []) [] t))

-- an assignment leaves what lies outside its parts
pub update_outside : (t : SizedTarget) (x : ℕ) (u env : Valuation) (s i : ℕ) → within (span_of t) s i ≡ false
    → look (all_applied (update_of t x u) env) s i ≡ look env s i
update_outside (Fixed lane) x u env s i h = placed-outside lane.span (x / 2 ^ lane.shift) env s i h
update_outside (Moving reach index) x u env s i h =
    moved_outside reach (place_of reach.below reach.signed (width_of index) (value_of index u)) (x / 2 ^ reach.shift) env s i h

pub written_outside : (ts : List SizedTarget) (x : ℕ) (env : Valuation) (s i : ℕ) → any_within (map span_of ts) s i ≡ false
    → look (written ts x env) s i ≡ look env s i
written_outside [] x env s i h = refl
written_outside (t ∷ ts) x env s i h =
    written_outside ts x (all_applied (update_of t x env) env) s i (or_right (within (span_of t) s i) (any_within (map span_of ts) s i) h)
    ∙ update_outside t x env env s i (or_left (within (span_of t) s i) (any_within (map span_of ts) s i) h)

mutual
  pub exec_outside : (st : SizedStmt) (env : Valuation) (s i : ℕ) → any_within (targets st) s i ≡ false → look (exec st env) s i ≡ look env s i
  exec_outside Skip env s i h = refl
  exec_outside (Later parts e) env s i h = refl
  exec_outside (Assign parts e) env s i h = written_outside parts (value_of e env) env s i h
  exec_outside (Then a b) env s i h =
      exec_outside b (exec a env) s i (second_of_two (targets a) (targets b) s i h) ∙ exec_outside a env s i (first_of_two (targets a) (targets b) s i h)
  exec_outside (If c a b) env s i h =
      by_cases (value_of c env == 0)
      (λ t. ap (λ e. look e s i) (cond-true (value_of c env == 0) (exec b env) (exec a env) t) ∙ exec_outside b env s i (second_of_two (targets a) (targets b) s i h))
      (λ t. ap (λ e. look e s i) (cond-false (value_of c env == 0) (exec b env) (exec a env) t) ∙ exec_outside a env s i (first_of_two (targets a) (targets b) s i h))
  exec_outside (Case e arms) env s i h = exec_arms_outside arms (value_of e env) env s i h

  exec_arms_outside : (arms : SizedArms) (subject : ℕ) (env : Valuation) (s i : ℕ) → any_within (arm_targets arms) s i ≡ false
      → look (exec_arms arms subject env) s i ≡ look env s i
  exec_arms_outside (Arm items body rest) subject env s i h =
      by_cases (matches_any subject items env)
      (λ t. ap (λ e. look e s i) (cond-true (matches_any subject items env) (exec body env) (exec_arms rest subject env) t) ∙ exec_outside body env s i (first_of_two (targets body) (arm_targets rest) s i h))
      (λ t. ap (λ e. look e s i) (cond-false (matches_any subject items env) (exec body env) (exec_arms rest subject env) t) ∙ exec_arms_outside rest subject env s i (second_of_two (targets body) (arm_targets rest) s i h))
  exec_arms_outside (Default otherwise) subject env s i h = exec_outside otherwise env s i h

-- ---- nodes

pub spread_outside : (ls : List Lane) (x : ℕ) (env : Valuation) (s i : ℕ) → any_within (lane_spans ls) s i ≡ false → look (spread ls x env) s i ≡ look env s i
spread_outside [] x env s i h = refl
spread_outside (l ∷ ls) x env s i h =
    spread_outside ls x (placed l.span (x / 2 ^ l.shift) env) s i (or_right (within l.span s i) (any_within (lane_spans ls) s i) h)
    ∙ placed-outside l.span (x / 2 ^ l.shift) env s i (or_left (within l.span s i) (any_within (lane_spans ls) s i) h)

pub spread_inside : (ls : List Lane) (x : ℕ) (env env' : Valuation) (s i : ℕ) → any_within (lane_spans ls) s i ≡ true
    → look (spread ls x env) s i ≡ look (spread ls x env') s i
spread_inside [] x env env' s i h = absurd (true≢false (sym h))
spread_inside (l ∷ ls) x env env' s i h =
    let z = x / 2 ^ l.shift in
    by_cases (any_within (lane_spans ls) s i)
    (λ later. spread_inside ls x (placed l.span z env) (placed l.span z env') s i later)
    (λ last. spread_outside ls x (placed l.span z env) s i last
    ∙ by_cases (within l.span s i)
    (λ inside. placed-inside l.span z env s i inside ∙ sym (placed-inside l.span z env' s i inside))
    (λ outside. absurd (true≢false (sym h ∙ or_from (within l.span s i) (any_within (lane_spans ls) s i) outside last)))
    ∙ sym (spread_outside ls x (placed l.span z env') s i last))

pub copied_outside : (ps : List Span) (from env : Valuation) (s i : ℕ) → any_within ps s i ≡ false → look (copied ps from env) s i ≡ look env s i
copied_outside [] from env s i h = refl
copied_outside (p ∷ ps) from env s i h =
    copied_outside ps from (placed p (from p.signal / 2 ^ p.low) env) s i (or_right (within p s i) (any_within ps s i) h)
    ∙ placed-outside p (from p.signal / 2 ^ p.low) env s i (or_left (within p s i) (any_within ps s i) h)

pub copied_inside : (ps : List Span) (from env : Valuation) (s i : ℕ) → any_within ps s i ≡ true → look (copied ps from env) s i ≡ look from s i
copied_inside [] from env s i h = absurd (true≢false (sym h))
copied_inside (p ∷ ps) from env s i h =
    by_cases (any_within ps s i)
    (λ later. copied_inside ps from (placed p (from p.signal / 2 ^ p.low) env) s i later)
    (λ last. copied_outside ps from (placed p (from p.signal / 2 ^ p.low) env) s i last
    ∙ by_cases (within p s i)
    (λ inside. placed-inside p (from p.signal / 2 ^ p.low) env s i inside
    ∙ bit_at-shr (from p.signal) p.low (i - p.low)
    ∙ (let run : (nat_le p.low i && nat_lt i (p.low + p.width)) ≡ true = and_right (s == p.signal) (nat_le p.low i && nat_lt i (p.low + p.width)) inside in
    let from_low : p.low ≤ i = leb-true p.low i (and_left (nat_le p.low i) (nat_lt i (p.low + p.width)) run) in
    let whole : p.low + (i - p.low) ≡ i = omega (arith, from_low) in
    ap (look from p.signal) whole)
    ∙ ap (λ t. look from t i) (sym (eqb-true s p.signal (and_left (s == p.signal) (nat_le p.low i && nat_lt i (p.low + p.width)) inside))))
    (λ outside. absurd (true≢false (sym h ∙ or_from (within p s i) (any_within ps s i) outside last))))

pub drive_local : (k : FlatNode) (v w env env' : Valuation) → IsComplete k → Same (node_reads k) v w
    → (s i : ℕ) → node_drives k s i ≡ true → look (drive k v env) s i ≡ look (drive k w env') s i
unfolding drive node_drives node_reads IsComplete
drive_local (Drive form lanes e) v w env env' c h s i d =
    spread_inside lanes (value_of e v) env env' s i d ∙ ap (λ x. look (spread lanes x env') s i) (value_local e v w h)
drive_local (Block shown body) v w env env' c h s i d =
    copied_inside (targets body) (exec body v) env s i d
    ∙ (exec_local body nowhere (open_reads body nowhere) v w (λ t j r. r) (λ t j r. absurd (true≢false (sym r))) h).0 s i (c s i d)
    ∙ sym (copied_inside (targets body) (exec body w) env' s i d)

pub drive_outside : (k : FlatNode) (v env : Valuation) (s i : ℕ) → node_drives k s i ≡ false → look (drive k v env) s i ≡ look env s i
unfolding drive node_drives
drive_outside (Drive form lanes e) v env s i d = spread_outside lanes (value_of e v) env s i d
drive_outside (Block shown body) v env s i d = copied_outside (targets body) (exec body v) env s i d

pub node_laws : NodeLaws node_drives node_reads drive IsComplete
node_laws = record { local = drive_local; outside = drive_outside }

-- a block may run in place
pub block_in_place : (shown : ShownTarget) (body : SizedStmt) (env : Valuation) → drive (Block shown body) env env ≡ exec body env
unfolding drive
block_in_place shown body env = same_valuation (copied (targets body) (exec body env) env) (exec body env) (λ s i.
    by_cases (any_within (targets body) s i)
    (λ inside. copied_inside (targets body) (exec body env) env s i inside)
    (λ outside. copied_outside (targets body) (exec body env) env s i outside ∙ sym (exec_outside body env s i outside)))
