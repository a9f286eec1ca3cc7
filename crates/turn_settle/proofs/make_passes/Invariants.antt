use Rattle.std.proofs.Common.{◌≡◌, ◌-◌, ◌≤◌, true}
use Rattle.book_history.specs.Owned.{owned}
use Rattle.book_turn.specs.Passes.{IsOf, known}
use Rattle.segment_verify.specs.Workers.{IsFree}
use Rattle.turn_settle.specs.Passed.{HasPassedBeside}
use Rattle.turn_settle.proofs.make_passes.Given as goal

abbrev pub invariant-passes : goal.invariant-passes
invariant-passes g l =
    IsOf l.turn l.pass true × IsFree (known l.pass) × (owned (known l.pass).seen ≡ (known l.pass).own)
    × HasPassedBeside g.M.Machine.kit (known l.initial.pass) (known l.pass) l.count × (l.count ≤ l.most)

abbrev pub decreases-passes : goal.decreases-passes
decreases-passes g l = l.most - l.count
