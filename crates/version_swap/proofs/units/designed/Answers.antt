use Rattle.std.proofs.Common.{◌<◌, ℕ, List, subst}
use Rattle.std.specs.Prelude.{IfErr, Result, Ok, Err}
use Rattle.ls_text.specs.declared.refusal.Refusal.{Refusal}
use Rattle.ls_text.specs.declared.refusal.Refusal.TheVariants as refusal
use Rattle.typed_ir.specs.Cycles.{Flat}
use Rattle.typed_ir.specs.Trees.{flat_of_tree}
use Rattle.state_layout.specs.Words.{IsTooManyWhere, register_widths, words_of}
use Rattle.link.specs.Faults.{HasNoLinkFault, no_memory}
use Rattle.version_swap.specs.DesignFaults.{IsDesignFault, not_linked, too_wide}
use Rattle.version_swap.proofs.units.designed.Goals as goal

-- the refusal of a linked design
refused_by : (texts new : List (List ℕ)) (design : Flat) (r : Refusal) → HasNoLinkFault 1048576 design
    → IsTooManyWhere (65536 < words_of (register_widths design)) r → IsDesignFault texts new design r
refused_by texts new design (refusal.Fault f) linked wide = too_wide linked wide.1 wide.0
refused_by texts new design refusal.NoMemory linked wide = not_linked no_memory

each_refusal : {A : Type 0} {P Q : Refusal → Type 0} (r : Result A Refusal) → ((e : Refusal) → P e → Q e) → IfErr r P → IfErr r Q
each_refusal (Ok x) f h = tt
each_refusal (Err e) f h = f e h

pub returns-clause-refused : goal.returns-clause-refused
returns-clause-refused c =
    each_refusal c.make.result
    (λ e wide t tree. refused_by _ _ (flat_of_tree t) e (c.in_ok-linked.ensures.exactly t tree)
    (subst (λ (design : Flat). IsTooManyWhere (65536 < words_of (register_widths design)) e) (c.in_ok-linked.ensures.linked t tree) wide))
    c.make.ensures.refused
