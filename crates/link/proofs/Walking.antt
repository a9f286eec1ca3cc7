-- One unit more, in the loops over all units.
use Rattle.std.proofs.Common.{◌≡◌, ℕ, suc, ◌+◌, ◌-◌, ◌<◌, ◌≤◌, false, nat_le, List, ◌++◌, map, length, get_or, drop, Global, true≢false, sym, ◌∙◌, ap, ap₂, leb-true, le-leb, arith}
use Rattle.std.specs.declared.sync.Arc.{Arc}
use Rattle.std.proofs.lemmas.List.{length-map, append-nil, at_drop_all}
use Rattle.typed_ir.proofs.Cases.{by_cases}
use Rattle.typed_ir.proofs.Lists.{drop_read}
use Rattle.typed_ir.specs.declared.unit.Unit.{Unit as Unit'}
use Rattle.typed_ir.specs.Trees.{SizedUnit, Standing}
use Rattle.typed_ir.specs.Units.{sized_unit, signal_within, unit_node_of}
use Rattle.link.specs.Copies.{all_sized, copied_from, nodes_in}
use Rattle.link.specs.Listings.{all_parts}
use Rattle.link.proofs.Steps.{stepped}

pub unit_stepped : {A : Type 0} (own : Standing → SizedUnit → List A) (at kids : ℕ → List ℕ) (units : List (Arc Unit' Global)) (i first next : ℕ) (x : Arc Unit' Global)
    (mid new whole : List A)
    → i < length units → x ≡ get_or units i x
    → next ≡ first + length x.value.parts.signals.items
    → new ≡ mid ++ own (record { path = at i; first = first; kids = kids i }) (sized_unit x.value.parts)
    → mid ++ copied_from own at kids i first (all_sized (all_parts (drop i units))) ≡ whole
    → new ++ copied_from own at kids (i + 1) next (all_sized (all_parts (drop (i + 1) units))) ≡ whole
unit_stepped own at kids units i first next x mid new whole h is next_is new_is left =
    let u = sized_unit x.value.parts in
    let more : suc i ≡ i + 1 = omega arith in
    let behind : first + length (map signal_within x.value.parts.signals.items) ≡ next =
    ap (λ n. first + n) (length-map x.value.parts.signals.items signal_within) ∙ sym next_is in
    stepped (λ (zs : List (Arc Unit' Global)). copied_from own at kids i first (all_sized (all_parts zs)))
    (λ (zs : List (Arc Unit' Global)). copied_from own at kids (i + 1) next (all_sized (all_parts zs)))
    units i x (own (record { path = at i; first = first; kids = kids i }) u) mid new whole h is
    (ap₂ (λ k f. own (record { path = at i; first = first; kids = kids i }) u ++ copied_from own at kids k f (all_sized (all_parts (drop (i + 1) units)))) more behind)
    new_is left

-- behind the last unit nothing is left
pub all_stepped : {A : Type 0} (own : Standing → SizedUnit → List A) (at kids : ℕ → List ℕ) (units : List (Arc Unit' Global)) (i first : ℕ) (mid whole : List A)
    → length units ≤ i
    → mid ++ copied_from own at kids i first (all_sized (all_parts (drop i units))) ≡ whole → mid ≡ whole
all_stepped own at kids units i first mid whole past left =
    sym (append-nil mid) ∙ sym (at_drop_all (λ (zs : List (Arc Unit' Global)). mid ++ copied_from own at kids i first (all_sized (all_parts zs))) units i past) ∙ left

-- ---- how many nodes

few_some : (n rest left r : ℕ) → n ≤ left → r ≡ left - n → nat_le rest r ≡ nat_le (n + rest) left
few_some n rest left r h is = by_cases (nat_le (n + rest) left)
    (λ yes. le-leb rest r (omega (arith, leb-true (n + rest) left yes, is, h)) ∙ sym yes)
    (λ no. by_cases (nat_le rest r)
    (λ more. absurd (true≢false (sym (le-leb (n + rest) left (omega (arith, leb-true rest r more, is, h))) ∙ no)))
    (λ less. less ∙ sym no))

few_none : (n rest left : ℕ) → left < n → nat_le (n + rest) left ≡ false
few_none n rest left h = by_cases (nat_le (n + rest) left) (λ yes. absurd (omega (arith, leb-true (n + rest) left yes, h))) (λ no. no)

pub few_next : (units : List (Arc Unit' Global)) (i n left r : ℕ) (x : Arc Unit' Global) → i < length units → x ≡ get_or units i x
    → n ≡ length x.value.parts.nodes.items → n ≤ left → r ≡ left - n
    → nat_le (nodes_in (all_sized (all_parts (drop (i + 1) units)))) r ≡ nat_le (nodes_in (all_sized (all_parts (drop i units)))) left
few_next units i n left r x h is count small rest =
    few_some n (nodes_in (all_sized (all_parts (drop (i + 1) units)))) left r small rest
    ∙ ap (λ k. nat_le (k + nodes_in (all_sized (all_parts (drop (i + 1) units)))) left) (count ∙ sym (length-map x.value.parts.nodes.items unit_node_of))
    ∙ ap (λ (zs : List (Arc Unit' Global)). nat_le (nodes_in (all_sized (all_parts zs))) left) (sym (drop_read units i x h is))

pub few_over : (units : List (Arc Unit' Global)) (i n left : ℕ) (x : Arc Unit' Global) → i < length units → x ≡ get_or units i x
    → n ≡ length x.value.parts.nodes.items → left < n
    → false ≡ nat_le (nodes_in (all_sized (all_parts (drop i units)))) left
few_over units i n left x h is count over =
    sym (few_none n (nodes_in (all_sized (all_parts (drop (i + 1) units)))) left over)
    ∙ ap (λ k. nat_le (k + nodes_in (all_sized (all_parts (drop (i + 1) units)))) left) (count ∙ sym (length-map x.value.parts.nodes.items unit_node_of))
    ∙ ap (λ (zs : List (Arc Unit' Global)). nat_le (nodes_in (all_sized (all_parts zs))) left) (sym (drop_read units i x h is))
