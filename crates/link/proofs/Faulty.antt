-- Faults, from what the calls below say.
use Rattle.std.proofs.Common.{◌≡◌, ℕ, ◌<◌, ◌≤◌, true, false, nat_le, List, [], map, length, All, Result, Ok, Err, MatchResult, IfOk, inl, inr, ◌⊎◌, true≢false, sym, ◌∙◌, ap, subst, leb-true, le-leb}
use Rattle.std.proofs.lemmas.Bool.{cases_lt}
use Rattle.ls_text.specs.declared.at.At.TheVariants.{Edit}
use Rattle.ls_text.specs.declared.fault.Fault.{Fault as Fault'}
use Rattle.ls_text.specs.declared.name_id.NameId.{NameId}
use Rattle.ls_text.specs.declared.refusal.Refusal.{Refusal}
use Rattle.ls_text.specs.declared.refusal.Refusal.TheVariants.{Fault, NoMemory}
use Rattle.ls_text.proofs.Growth.{IsKnown}
use Rattle.typed_ir.specs.declared.flat.Flat.{Flat as Flat'}
use Rattle.typed_ir.specs.declared.linked.Linked.{Linked}
use Rattle.typed_ir.specs.Cycles.{Flat}
use Rattle.typed_ir.specs.Linkeds.{flat}
use Rattle.comb_order.specs.declared.refusing.OrderRefusal.TheVariants.{Loop}
use Rattle.comb_order.specs.Loops.{HasNoLoop}
use Rattle.comb_order.specs.Refusals.{NodeBefore, IsRefusal}
use Rattle.typed_ir.specs.declared.instance.Instance.{Instance}
use Rattle.typed_ir.specs.declared.unit_parts.UnitParts.{UnitParts}
use Rattle.typed_ir.specs.Trees.{Instances, flat_of_tree}
use Rattle.link.specs.Copies.{all_sized, nodes_in}
use Rattle.link.specs.Faults.{HasNoLinkFault, IsLinkFault, too_many, loop_of, no_memory}
use Rattle.link.specs.Listings.{IsTreeOf}
use Rattle.ls_text.specs.TextViews.{text_of}
use Rattle.link.specs.Names.{node_text}
use Rattle.link.proofs.Making.{nodes_of_tree}

pub is_loop_fault : (most : ℕ) (old new : List (List ℕ)) (design : Flat) (f : Fault') (circle : List ℕ)
    → f ≡ record { code = 39; at = Edit; names = f.names } → map (text_of new) f.names ≡ map (node_text old design) circle → All (IsKnown (length new)) f.names
    → IsRefusal (NodeBefore design.nodes) (length design.nodes) (Loop circle) → length design.nodes ≤ most
    → IsLinkFault most old new design (Fault f)
is_loop_fault most old new design f circle is texts named loop few =
    subst (λ z. IsLinkFault most old new design (Fault z)) (sym is)
    (loop_of few loop.3 (texts ∙ ap (map (node_text old design)) loop.2) named)

pub no_memory_left : (most : ℕ) (old new : List (List ℕ)) (design : Flat) → IsLinkFault most old new design NoMemory
no_memory_left most old new design = no_memory

over : (n most : ℕ) → nat_le n most ≡ false → most < n
over n most h = at (cases_lt most n)
  where
    at : (most < n) ⊎ (n ≤ most) → most < n
    at (inl k) = k
    at (inr k) = absurd (true≢false (sym (le-leb n most k) ∙ h))

pub is_too_many : (most : ℕ) (texts : List (List ℕ)) (names : List NameId) (xs : List Instance) (us : List UnitParts) (t : Instances)
    → length us ≡ length xs → IsTreeOf xs us t → nat_le (nodes_in (all_sized us)) most ≡ false → names ≡ []
    → IsLinkFault most texts texts (flat_of_tree t) (Fault (record { code = 40; at = Edit; names = names }))
is_too_many most texts names xs us t long is many none =
    subst (λ z. IsLinkFault most texts texts (flat_of_tree t) (Fault (record { code = 40; at = Edit; names = z }))) (sym none)
    (too_many (subst (λ n. most < n) (sym (nodes_of_tree xs us t long is)) (over (nodes_in (all_sized us)) most many)))

are_within_limit : (most : ℕ) (xs : List Instance) (us : List UnitParts) (t : Instances)
    → length us ≡ length xs → IsTreeOf xs us t → nat_le (nodes_in (all_sized us)) most ≡ true → length (flat_of_tree t).nodes ≤ most
are_within_limit most xs us t long is few =
    subst (λ n. n ≤ most) (sym (nodes_of_tree xs us t long is)) (leb-true (nodes_in (all_sized us)) most few)

-- what is said of a design, of the tree of which it is the design
pub exactly_tree : (most : ℕ) (old new : List (List ℕ)) (design : Flat') (r : Result Linked Refusal) (xs : List Instance) (us : List UnitParts)
    → length us ≡ length xs → nat_le (nodes_in (all_sized us)) most ≡ true → ((t : Instances) → IsTreeOf xs us t → flat design ≡ flat_of_tree t)
    → MatchResult r (λ _. HasNoLoop (NodeBefore (flat design).nodes) (length (flat design).nodes))
    (λ refusal. (most : ℕ) → length (flat design).nodes ≤ most → IsLinkFault most old new (flat design) refusal)
    → MatchResult r (λ _. (t : Instances) → IsTreeOf xs us t → HasNoLinkFault most (flat_of_tree t))
    (λ refusal. (t : Instances) → IsTreeOf xs us t → IsLinkFault most old new (flat_of_tree t) refusal)
exactly_tree most old new design (Ok linked) xs us long few is said = λ t tree. record {
  few = are_within_limit most xs us t long tree few;
  no_loop = subst (λ (d : Flat). HasNoLoop (NodeBefore d.nodes) (length d.nodes)) (is t tree) said;
}
exactly_tree most old new design (Err refusal) xs us long few is said = λ t tree.
    subst (λ (d : Flat). IsLinkFault most old new d refusal) (is t tree)
    (said most (subst (λ (d : Flat). length d.nodes ≤ most) (sym (is t tree)) (are_within_limit most xs us t long tree few)))

pub linked_tree : (design : Flat') (r : Result Linked Refusal) (xs : List Instance) (us : List UnitParts)
    → ((t : Instances) → IsTreeOf xs us t → flat design ≡ flat_of_tree t) → IfOk r (λ (linked : Linked). linked.design ≡ design)
    → IfOk r (λ (linked : Linked). (t : Instances) → IsTreeOf xs us t → flat linked.design ≡ flat_of_tree t)
linked_tree design (Ok linked) xs us is same = λ t tree. ap flat same ∙ is t tree
linked_tree design (Err refusal) xs us is same = tt
