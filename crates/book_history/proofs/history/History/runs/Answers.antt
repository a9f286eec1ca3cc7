use Rattle.std.proofs.Common.{List, ap, ◌∙◌}
use Rattle.machine.specs.declared.row_run.RowRun.{RowRun}
use Rattle.machine.specs.Rows.{expanded}
use Rattle.book_history.proofs.Readings.{gapless_kept}
use Rattle.book_history.proofs.Writings.{record_kept}
use Rattle.book_history.proofs.history.History.runs.Goals as goal

pub returns-clause-rows : goal.returns-clause-rows
returns-clause-rows g c =
    let m = g.M.Machine in
    ap (λ (l : List (RowRun g.row.M-Row.Denot)). expanded l) c.deref.ensures.value ∙ record_kept m.kit m.valid c.self.inside.written c.args.self.now c.self.view_is c.self.invariant

pub returns-clause-gapless : goal.returns-clause-gapless
returns-clause-gapless g c =
    let m = g.M.Machine in
    gapless_kept m.kit m.valid c.self.inside.written c.args.self.now c.deref.result.now c.self.view_is c.self.invariant c.deref.ensures.value
