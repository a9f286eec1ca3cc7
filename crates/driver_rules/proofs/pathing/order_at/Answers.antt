use Rattle.std.proofs.Common.{ap, sym, ◌∙◌}
use Rattle.typed_ir.specs.Orders.{at_or}
use Rattle.typed_ir.specs.declared.signal_declaration.SignalDeclaration.{SignalDeclaration}
use Rattle.driver_rules.specs.Blocks.{order_at}
use Rattle.driver_rules.proofs.Lists.{at_or_get, at_or_past}
use Rattle.driver_rules.proofs.pathing.order_at.Goals as goal

pub returns-then-place-declarations : goal.returns-then-place-declarations
returns-then-place-declarations c =
    sym (at_or_get (λ (d : SignalDeclaration). d.order) 0 c.args.declarations.now c.index-place.result _ c.if-place-declarations.true)
    ∙ ap (order_at c.args.declarations.now) c.index-place.ensures

pub returns-else-place-declarations : goal.returns-else-place-declarations
returns-else-place-declarations c =
    sym (at_or_past (λ (d : SignalDeclaration). d.order) 0 c.args.declarations.now c.index-place.result c.if-place-declarations.false)
    ∙ ap (order_at c.args.declarations.now) c.index-place.ensures
