use Rattle.std.proofs.Common.{◌≡◌, ℕ, List, ◌+◌, sym, subst, refl, arith}
use Rattle.machine.specs.declared.row_run.RowRun.{RowRun}
use Rattle.machine.specs.Rows.{IsGapless}
use Rattle.machine.proofs.Runs.{gapless-snoc}
use Rattle.book_tests.proofs.row_tests.equal_rows.Goals as goal

pub loop-cycle-preserved : goal.loop-cycle-preserved
loop-cycle-preserved c =
    let i = c.loop-cycle.cycle in
    let one : RowRun ℕ = record { start = i; end = i + 1; row = c.in_ok-new.field-0 } in
    subst (λ (l : List (RowRun ℕ)). IsGapless 0 l (i + 1)) (sym c.in_ok-push.ensures.items)
    (gapless-snoc 0 c.loop-cycle.runs.items i one c.loop-cycle.invariant refl (omega arith))
