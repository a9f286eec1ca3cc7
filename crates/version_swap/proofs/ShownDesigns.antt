-- Each node of what is linked from units that are built from jobs is named by a target of its own, and so is each node of a loop.
use Rattle.std.proofs.Common.{◌≡◌, ℕ, true, false, List, ◌∷◌, length, sym, ◌∙◌, subst}
use Rattle.std.specs.List.{AllZip}
use Rattle.typed_ir.specs.Cycles.{Flat}
use Rattle.typed_ir.specs.Orders.{Each, Member, at_or}
use Rattle.typed_ir.specs.declared.instance.Instance.{Instance}
use Rattle.typed_ir.specs.declared.unit_parts.UnitParts.{UnitParts}
use Rattle.typed_ir.specs.Shapes.{AreOf}
use Rattle.typed_ir.specs.Trees.{Instances, flat_of_tree}
use Rattle.comb_order.specs.Loops.{IsLoop}
use Rattle.comb_order.specs.Refusals.{NodeBefore}
use Rattle.link.specs.Listings.{IsTreeOf}
use Rattle.link.specs.Names.{IsShown, has_target}
use Rattle.link.proofs.Alone.{one_tree}
use Rattle.link.proofs.Circles.{loop_named}
use Rattle.link.proofs.Sound.{same_long}
use Rattle.module_registry.specs.declared.build_job.BuildJob.{BuildJob}
use Rattle.version_swap.specs.JobUnits.{IsUnitOf}
use Rattle.version_swap.proofs.ShownNodes.{tree_shown}
use Rattle.version_swap.proofs.TableTrees.{table_copies}
use Rattle.version_swap.proofs.TableUnits.{table_built}

pub linked_shown : (xs : List Instance) (jobs : List BuildJob) (us : List UnitParts) (tree : Instances) → AllZip IsUnitOf jobs us → AreOf xs 0 xs us
    → IsTreeOf xs us tree → Each IsShown (flat_of_tree tree).nodes
linked_shown xs jobs us tree builds are is =
    let found = table_copies xs jobs us tree (same_long xs 0 xs us are) is builds in
    let there = table_built xs jobs us found.copies found.table builds are in
    subst (λ (other : Instances). Each IsShown (flat_of_tree other).nodes) (one_tree there.tree tree (there.table ∙ sym is))
    (tree_shown found.copies there.tree there.are_built)

-- each node of a loop has a target, by which it is named
pub linked_named : (xs : List Instance) (jobs : List BuildJob) (us : List UnitParts) (tree : Instances) (design : Flat) (first : ℕ) (rest : List ℕ)
    → AllZip IsUnitOf jobs us → AreOf xs 0 xs us → IsTreeOf xs us tree → design ≡ flat_of_tree tree
    → IsLoop (NodeBefore design.nodes) (length design.nodes) first rest
    → (k : ℕ) → Member k (first ∷ rest) → at_or has_target false design.nodes k ≡ true
linked_named xs jobs us tree design first rest builds are is linked loop =
    loop_named design.nodes first rest
    (subst (λ (d : Flat). Each IsShown d.nodes) (sym linked) (linked_shown xs jobs us tree builds are is)) loop
