use Rattle.std.proofs.Common.{◌≡◌, ◌+◌, ◌-◌}
use Rattle.machine.specs.Tally.{tally_after}
use Rattle.machine.specs.Rows.{between}
use Rattle.machine.proofs.tally.TallyMachineMachine.advance.Given as goal

abbrev pub invariant-loop-cycle : goal.invariant-loop-cycle
invariant-loop-cycle g l =
    (tally_after l.self.add (between l.rows l.cycle l.b) l.state ≡ tally_after l.self.add (between l.rows l.a l.b) l.from)
    × (l.steps ≡ l.initial.steps + (l.cycle - l.a))
