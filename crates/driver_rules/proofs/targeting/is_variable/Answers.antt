use Rattle.std.proofs.Common.{false, sym, ◌∙◌, ap}
use Rattle.typed_ir.specs.Orders.{at_or}
use Rattle.typed_ir.specs.declared.signal_declaration.SignalDeclaration.{SignalDeclaration}
use Rattle.driver_rules.specs.Targets.{is_variable_kind}
use Rattle.driver_rules.proofs.Lists.{at_or_get, at_or_past}
use Rattle.driver_rules.proofs.targeting.is_variable.Goals as goal

pub returns-then-place-declarations : goal.returns-then-place-declarations
returns-then-place-declarations c =
    c.is_variable_kind.ensures
    ∙ sym (at_or_get (λ (d : SignalDeclaration). is_variable_kind d.kind) false c.args.declarations.now c.index-place.result _ c.if-place-declarations.true)
    ∙ ap (at_or (λ (d : SignalDeclaration). is_variable_kind d.kind) false c.args.declarations.now) c.index-place.ensures

pub returns-else-place-declarations : goal.returns-else-place-declarations
returns-else-place-declarations c =
    sym (at_or_past (λ (d : SignalDeclaration). is_variable_kind d.kind) false c.args.declarations.now c.index-place.result c.if-place-declarations.false)
    ∙ ap (at_or (λ (d : SignalDeclaration). is_variable_kind d.kind) false c.args.declarations.now) c.index-place.ensures
