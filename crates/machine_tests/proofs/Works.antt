-- The steps of a cycle, by the parts that a design is made of.
use Rattle.std.proofs.Common.{◌≡◌, ◌+◌, length, sym, ◌∙◌, ap, ap₂}
use Rattle.std.proofs.lemmas.List.{length-map}
use Rattle.comb_order.specs.declared.parts.Parts.{Parts}
use Rattle.typed_ir.specs.declared.flat.Flat.{Flat as Flat'}
use Rattle.typed_ir.specs.declared.linked.Linked.{Linked}
use Rattle.typed_ir.specs.Cycles.{Flat}
use Rattle.typed_ir.specs.Flats.{flat_from}
use Rattle.typed_ir.specs.FlatNodes.{node_of}
use Rattle.typed_ir.specs.Linkeds.{flat}
use Rattle.typed_ir.specs.Statements.{stmt_of}
use Rattle.cycle_eval.specs.Designs.{work_of}
use Rattle.cycle_eval.specs.declared.design.Design.{Design}

pub work_is : (d : Design) (l : Linked) (f : Flat') (p : Parts) → work_of d ≡ length l.design.nodes.items + length l.design.clocked.items → l.design ≡ f
    → flat f ≡ flat_from p.instances.rows.items p.signals.items p.registers.items p.inputs.items p.nodes.items p.clocked.items
    → work_of d ≡ length p.nodes.items + length p.clocked.items
work_is d l f p work lf e =
    work
    ∙ ap (λ (z : Flat'). length z.nodes.items + length z.clocked.items) lf
    ∙ ap₂ (λ m n. m + n)
    (sym (length-map f.nodes.items node_of) ∙ ap (λ (z : Flat). length z.nodes) e ∙ length-map p.nodes.items node_of)
    (sym (length-map f.clocked.items stmt_of) ∙ ap (λ (z : Flat). length z.clocked) e ∙ length-map p.clocked.items stmt_of)
