use Rattle.std.proofs.Common.{◌≡◌, ℕ, ◌+◌, List, length, subst}
use Rattle.machine.proofs.Runs.{end_is}
use Rattle.machine.proofs.row_runs.RowRuns.end.Goals as goal

pub returns : goal.returns
returns g c =
    let P : ℕ × List g.row.R.Denot → Type 0 = λ r. c.self.inside.end ≡ r.0 + length r.1 in
    subst P c.self.view_is (end_is c.self.inside.start _ c.self.inside.end c.self.invariant)
