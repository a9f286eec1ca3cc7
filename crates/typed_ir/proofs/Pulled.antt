-- What is driven and read by other numbers: where all numbers are shifted by `first`, bit i of signal first + s is what bit i of signal s
-- was, and below `first` there is nothing.
use Rattle.std.proofs.Common.{◌≡◌, ℕ, ◌+◌, ◌<◌, ◌≤◌, ◌==◌, ◌||◌, ◌&&◌, not, true, false, List, [], ◌∷◌, ◌++◌, map, nat_le, nat_lt, refl, sym, ◌∙◌, ap, ap₂, ◌-◌, subst, ltb-true, ltb-false, ne_eqb, eqb-true, eq-eqb, true≢false, arith}
use Rattle.std.proofs.lemmas.Bool.{eqb-false}
use Rattle.std.proofs.lemmas.List.{map-append}
use Rattle.typed_ir.specs.declared.span.Span.{Span}
use Rattle.typed_ir.specs.declared.lane.Lane.{Lane}
use Rattle.typed_ir.specs.Valuations.{Places, within, any_within, nowhere}
use Rattle.typed_ir.specs.Sized.{Sized, Constant, Name, Part, Pick, Unary, Binary, Choice, Concat, Repeat, Resized, reads}
use Rattle.typed_ir.specs.Stmts.{SizedTarget, Fixed, Moving, SizedItem, SizedStmt, SizedArms, Skip, Assign, Later, Then, If, Case, Arm, Default, span_of, targets, arm_targets, certain, known_after, known_after_arms, index_reads, open_indices, item_reads, open_reads, open_arm_reads, IsWhole, WritesFirst}
use Rattle.typed_ir.specs.Nodes.{FlatNode, Drive, Block, lane_spans, node_drives, IsComplete}
use Rattle.typed_ir.specs.Shifts.{shifted_span, shifted, shifted_lane, shifted_target, shifted_item, shifted_stmt, shifted_arms, shifted_node}
use Rattle.typed_ir.proofs.Cases.{by_cases}

same_number : (first s t : ℕ) → (first + s == first + t) ≡ (s == t)
same_number first s t = by_cases (s == t)
    (λ yes. eq-eqb (first + s) (first + t) (ap (λ n. first + n) (eqb-true s t yes)) ∙ sym yes)
    (λ out. ne_eqb (first + s) (first + t) (λ e. eqb-false s t out (omega (arith, e))) ∙ sym out)

none_below : (first s t : ℕ) → s < first → (s == first + t) ≡ false
none_below first s t h = ne_eqb s (first + t) (λ e. omega (arith, e, h))

-- ---- spans and expressions

pub within_shifted : (first : ℕ) (p : Span) (s i : ℕ) → within (shifted_span first p) (first + s) i ≡ within p s i
within_shifted first p s i = ap (λ b. b && (nat_le p.low i && nat_lt i (p.low + p.width))) (same_number first s p.signal)

pub within_below : (first : ℕ) (p : Span) (s i : ℕ) → s < first → within (shifted_span first p) s i ≡ false
within_below first p s i h = ap (λ b. b && (nat_le p.low i && nat_lt i (p.low + p.width))) (none_below first s p.signal h)

pub spans_shifted : (first : ℕ) (ps : List Span) (s i : ℕ) → any_within (map (shifted_span first) ps) (first + s) i ≡ any_within ps s i
spans_shifted first [] s i = refl
spans_shifted first (p ∷ ps) s i = ap₂ (λ x y. x || y) (within_shifted first p s i) (spans_shifted first ps s i)

pub spans_below : (first : ℕ) (ps : List Span) (s i : ℕ) → s < first → any_within (map (shifted_span first) ps) s i ≡ false
spans_below first [] s i h = refl
spans_below first (p ∷ ps) s i h = ap₂ (λ x y. x || y) (within_below first p s i h) (spans_below first ps s i h)

pub reads_shifted : (first : ℕ) (e : Sized) (s i : ℕ) → reads (shifted first e) (first + s) i ≡ reads e s i
reads_shifted first (Constant width value) s i = refl
reads_shifted first (Name signal width) s i = same_number first s signal
reads_shifted first (Part span) s i = within_shifted first span s i
reads_shifted first (Pick signal width below signed index) s i = ap₂ (λ x y. x || y) (same_number first s signal) (reads_shifted first index s i)
reads_shifted first (Unary op a) s i = reads_shifted first a s i
reads_shifted first (Binary op a b) s i = ap₂ (λ x y. x || y) (reads_shifted first a s i) (reads_shifted first b s i)
reads_shifted first (Choice c a b) s i =
    ap₂ (λ x y. x || y) (reads_shifted first c s i) (ap₂ (λ x y. x || y) (reads_shifted first a s i) (reads_shifted first b s i))
reads_shifted first (Concat width a b) s i = ap₂ (λ x y. x || y) (reads_shifted first a s i) (reads_shifted first b s i)
reads_shifted first (Repeat width count a) s i = reads_shifted first a s i
reads_shifted first (Resized a width signed) s i = reads_shifted first a s i

-- ---- statements

pub parts_shifted : (first : ℕ) (ts : List SizedTarget) → map span_of (map (shifted_target first) ts) ≡ map (shifted_span first) (map span_of ts)
parts_shifted first [] = refl
parts_shifted first (Fixed lane ∷ ts) = ap (λ zs. shifted_span first lane.span ∷ zs) (parts_shifted first ts)
parts_shifted first (Moving reach index ∷ ts) = ap (λ zs. shifted_span first (span_of (Moving reach index)) ∷ zs) (parts_shifted first ts)

mutual
  pub targets_shifted : (first : ℕ) (st : SizedStmt) → targets (shifted_stmt first st) ≡ map (shifted_span first) (targets st)
  targets_shifted first Skip = refl
  targets_shifted first (Assign parts e) = parts_shifted first parts
  targets_shifted first (Later parts e) = refl
  targets_shifted first (Then a b) =
      ap₂ (λ (x y : List Span). x ++ y) (targets_shifted first a) (targets_shifted first b) ∙ sym (map-append (shifted_span first) (targets a) (targets b))
  targets_shifted first (If c a b) =
      ap₂ (λ (x y : List Span). x ++ y) (targets_shifted first a) (targets_shifted first b) ∙ sym (map-append (shifted_span first) (targets a) (targets b))
  targets_shifted first (Case e arms) = arm_targets_shifted first arms

  pub arm_targets_shifted : (first : ℕ) (arms : SizedArms) → arm_targets (shifted_arms first arms) ≡ map (shifted_span first) (arm_targets arms)
  arm_targets_shifted first (Arm items body rest) =
      ap₂ (λ (x y : List Span). x ++ y) (targets_shifted first body) (arm_targets_shifted first rest)
      ∙ sym (map-append (shifted_span first) (targets body) (arm_targets rest))
  arm_targets_shifted first (Default otherwise) = targets_shifted first otherwise

certain_shifted : (first : ℕ) (ts : List SizedTarget) (s i : ℕ) → certain (map (shifted_target first) ts) (first + s) i ≡ certain ts s i
certain_shifted first [] s i = refl
certain_shifted first (Fixed lane ∷ ts) s i = ap₂ (λ x y. x || y) (within_shifted first lane.span s i) (certain_shifted first ts s i)
certain_shifted first (Moving reach index ∷ ts) s i = certain_shifted first ts s i

indices_shifted : (first : ℕ) (ts : List SizedTarget) (s i : ℕ) → index_reads (map (shifted_target first) ts) (first + s) i ≡ index_reads ts s i
indices_shifted first [] s i = refl
indices_shifted first (Fixed lane ∷ ts) s i = indices_shifted first ts s i
indices_shifted first (Moving reach index ∷ ts) s i = ap₂ (λ x y. x || y) (reads_shifted first index s i) (indices_shifted first ts s i)

items_shifted : (first : ℕ) (xs : List SizedItem) (s i : ℕ) → item_reads (map (shifted_item first) xs) (first + s) i ≡ item_reads xs s i
items_shifted first [] s i = refl
items_shifted first (x ∷ xs) s i = ap₂ (λ x y. x || y) (reads_shifted first x.item s i) (items_shifted first xs s i)

-- places by other numbers
abbrev Pulled : ℕ → Places → Places → Type 0
Pulled first there here = (s i : ℕ) → there (first + s) i ≡ here s i

pub open_indices_shifted : (first : ℕ) (ts : List SizedTarget) (there here : Places) → Pulled first there here
    → Pulled first (open_indices (map (shifted_target first) ts) there) (open_indices ts here)
open_indices_shifted first [] there here h s i = refl
open_indices_shifted first (Fixed lane ∷ ts) there here h s i =
    open_indices_shifted first ts (λ t j. there t j || within (shifted_span first lane.span) t j) (λ t j. here t j || within lane.span t j)
    (λ t j. ap₂ (λ x y. x || y) (h t j) (within_shifted first lane.span t j)) s i
open_indices_shifted first (Moving reach index ∷ ts) there here h s i =
    ap₂ (λ x y. x || y) (ap₂ (λ x y. x && not y) (reads_shifted first index s i) (h s i)) (open_indices_shifted first ts there here h s i)

mutual
  pub known_shifted : (first : ℕ) (st : SizedStmt) (there here : Places) → Pulled first there here
      → Pulled first (known_after (shifted_stmt first st) there) (known_after st here)
  known_shifted first Skip there here h s i = h s i
  known_shifted first (Assign parts e) there here h s i = ap₂ (λ x y. x || y) (h s i) (certain_shifted first parts s i)
  known_shifted first (Later parts e) there here h s i = h s i
  known_shifted first (Then a b) there here h s i =
      known_shifted first b (known_after (shifted_stmt first a) there) (known_after a here) (known_shifted first a there here h) s i
  known_shifted first (If c a b) there here h s i = ap₂ (λ x y. x && y) (known_shifted first a there here h s i) (known_shifted first b there here h s i)
  known_shifted first (Case e arms) there here h s i = known_arms_shifted first arms there here h s i

  pub known_arms_shifted : (first : ℕ) (arms : SizedArms) (there here : Places) → Pulled first there here
      → Pulled first (known_after_arms (shifted_arms first arms) there) (known_after_arms arms here)
  known_arms_shifted first (Arm items body rest) there here h s i =
      ap₂ (λ x y. x && y) (known_shifted first body there here h s i) (known_arms_shifted first rest there here h s i)
  known_arms_shifted first (Default otherwise) there here h s i = known_shifted first otherwise there here h s i

mutual
  pub opens_shifted : (first : ℕ) (st : SizedStmt) (there here : Places) → Pulled first there here
      → Pulled first (open_reads (shifted_stmt first st) there) (open_reads st here)
  opens_shifted first Skip there here h s i = refl
  opens_shifted first (Assign parts e) there here h s i =
      ap₂ (λ x y. x || y) (ap₂ (λ x y. x && not y) (reads_shifted first e s i) (h s i)) (open_indices_shifted first parts there here h s i)
  opens_shifted first (Later parts e) there here h s i =
      ap₂ (λ x y. x && not y) (ap₂ (λ x y. x || y) (reads_shifted first e s i) (indices_shifted first parts s i)) (h s i)
  opens_shifted first (Then a b) there here h s i =
      ap₂ (λ x y. x || y) (opens_shifted first a there here h s i)
      (opens_shifted first b (known_after (shifted_stmt first a) there) (known_after a here) (known_shifted first a there here h) s i)
  opens_shifted first (If c a b) there here h s i =
      ap₂ (λ x y. x || y) (ap₂ (λ x y. x && not y) (reads_shifted first c s i) (h s i))
      (ap₂ (λ x y. x || y) (opens_shifted first a there here h s i) (opens_shifted first b there here h s i))
  opens_shifted first (Case e arms) there here h s i =
      ap₂ (λ x y. x || y) (ap₂ (λ x y. x && not y) (reads_shifted first e s i) (h s i)) (open_arms_shifted first arms there here h s i)

  pub open_arms_shifted : (first : ℕ) (arms : SizedArms) (there here : Places) → Pulled first there here
      → Pulled first (open_arm_reads (shifted_arms first arms) there) (open_arm_reads arms here)
  open_arms_shifted first (Arm items body rest) there here h s i =
      ap₂ (λ x y. x || y) (ap₂ (λ x y. x && not y) (items_shifted first items s i) (h s i))
      (ap₂ (λ x y. x || y) (opens_shifted first body there here h s i) (open_arms_shifted first rest there here h s i))
  open_arms_shifted first (Default otherwise) there here h s i = opens_shifted first otherwise there here h s i

-- each bit is below `first` or shifted
by_number : (P : ℕ → Type 0) (first s : ℕ) → (s < first → P s) → ((t : ℕ) → P (first + t)) → P s
by_number P first s f g = by_cases (nat_lt s first)
    (λ yes. f (ltb-true s first yes))
    (λ out. let far : first ≤ s = ltb-false s first out in let e : first + (s - first) ≡ s = omega arith in subst P e (g (s - first)))

target_there : (first : ℕ) (st : SizedStmt) (s i : ℕ) → any_within (targets (shifted_stmt first st)) (first + s) i ≡ any_within (targets st) s i
target_there first st s i = ap (λ ps. any_within ps (first + s) i) (targets_shifted first st) ∙ spans_shifted first (targets st) s i

target_below : (first : ℕ) (st : SizedStmt) (s i : ℕ) → s < first → any_within (targets (shifted_stmt first st)) s i ≡ false
target_below first st s i h = ap (λ ps. any_within ps s i) (targets_shifted first st) ∙ spans_below first (targets st) s i h

pub whole_shifted : (first : ℕ) (st : SizedStmt) → IsWhole st → IsWhole (shifted_stmt first st)
whole_shifted first st whole = λ s i.
    by_number (λ s. any_within (targets (shifted_stmt first st)) s i ≡ true → known_after (shifted_stmt first st) nowhere s i ≡ true) first s
    (λ below h. absurd (true≢false (sym h ∙ target_below first st s i below)))
    (λ t h. known_shifted first st nowhere nowhere (λ s i. refl) t i ∙ whole t i (sym (target_there first st t i) ∙ h))

pub first_shifted : (first : ℕ) (st : SizedStmt) → WritesFirst st → WritesFirst (shifted_stmt first st)
first_shifted first st writes = λ s i.
    by_number (λ s. any_within (targets (shifted_stmt first st)) s i ≡ true → open_reads (shifted_stmt first st) nowhere s i ≡ false) first s
    (λ below h. absurd (true≢false (sym h ∙ target_below first st s i below)))
    (λ t h. opens_shifted first st nowhere nowhere (λ s i. refl) t i ∙ writes t i (sym (target_there first st t i) ∙ h))

-- ---- nodes

pub lanes_shifted : (first : ℕ) (ls : List Lane) → lane_spans (map (shifted_lane first) ls) ≡ map (shifted_span first) (lane_spans ls)
lanes_shifted first [] = refl
lanes_shifted first (l ∷ ls) = ap (λ zs. shifted_span first l.span ∷ zs) (lanes_shifted first ls)

pub drives_shifted : (first : ℕ) (n : FlatNode) (s i : ℕ) → node_drives (shifted_node first n) (first + s) i ≡ node_drives n s i
unfolding node_drives
drives_shifted first (Drive form lanes e) s i = ap (λ ps. any_within ps (first + s) i) (lanes_shifted first lanes) ∙ spans_shifted first (lane_spans lanes) s i
drives_shifted first (Block shown body) s i = target_there first body s i

pub drives_below : (first : ℕ) (n : FlatNode) (s i : ℕ) → s < first → node_drives (shifted_node first n) s i ≡ false
unfolding node_drives
drives_below first (Drive form lanes e) s i h = ap (λ ps. any_within ps s i) (lanes_shifted first lanes) ∙ spans_below first (lane_spans lanes) s i h
drives_below first (Block shown body) s i h = target_below first body s i h

pub complete_shifted : (first : ℕ) (n : FlatNode) → IsComplete n → IsComplete (shifted_node first n)
unfolding IsComplete
complete_shifted first (Drive form lanes e) h = tt
complete_shifted first (Block shown body) h = whole_shifted first body h
