use Rattle.std.proofs.Common.{◌∙◌, ◌-◌, List, ℕ, length, sym, ap}
use Rattle.std.specs.Prelude.{slice_get}
use Rattle.machine.specs.declared.row_run.RowRun.{RowRun}
use Rattle.stimulus.proofs.Joined.{last_got}
use Rattle.stimulus.proofs.recorded.Record.len.Goals as goal

pub returns-in-Some : goal.returns-in-Some
returns-in-Some c =
    last_got c.args.self.now.runs.items c.in-Some.run'.now c.args.self.now.in_runs
    (sym (c.in-Some.ensures.value ∙ ap (λ (rs : List (RowRun (List (ℕ × ℕ)))). slice_get rs (length rs - 1)) c.deref.ensures.value))
