use Rattle.std.proofs.Common.{◌≡◌, ◌+◌, drop}
use Rattle.stimulus.specs.Runs.{names_in}
use Rattle.stimulus.proofs.lasting.names_in.Given as goal

abbrev pub invariant-loop-run : goal.invariant-loop-run
invariant-loop-run l = l.names + names_in (drop l.run-index l.runs) ≡ names_in l.runs
