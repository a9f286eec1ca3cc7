use Rattle.machine.specs.Rows.{IsGapless}
use Rattle.book_tests.proofs.row_tests.equal_rows.Given as goal

abbrev pub invariant-loop-cycle : goal.invariant-loop-cycle
invariant-loop-cycle l = IsGapless 0 l.runs.items l.cycle
