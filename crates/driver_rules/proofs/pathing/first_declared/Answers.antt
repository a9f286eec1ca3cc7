use Rattle.std.proofs.Common.{◌+◌, ℕ, List, Some, take, subst, sym}
use Rattle.std.proofs.lemmas.List.{take_all}
use Rattle.typed_ir.specs.Orders.{is_member}
use Rattle.driver_rules.proofs.Declared.{IsBest, listed_next, listed_all}
use Rattle.driver_rules.proofs.pathing.first_declared.Goals as goal

pub loop-signal-preserved : goal.loop-signal-preserved
loop-signal-preserved c =
    let ds = c.args.declarations.now in
    let xs = c.args.signals.now in
    let k = c.loop-signal.signal-index in
    subst (λ (n : ℕ). IsBest ds (λ t. is_member t (take (k + 1) xs)) (Some n)) (sym c.nearer.ensures)
    (listed_next ds xs k c.signal-item.result c.loop-signal.found c.loop-signal-test.true c.signal-item.is c.loop-signal.invariant)

pub returns : goal.returns
returns c =
    listed_all c.args.declarations.now c.args.signals.now c.loop-signal.found c.requires
    (subst (λ (xs : List ℕ). IsBest c.args.declarations.now (λ t. is_member t xs) c.loop-signal.found)
    (take_all c.loop-signal.signal-index c.args.signals.now c.loop-signal-test.false) c.loop-signal.invariant)
