use Rattle.std.proofs.Common.{ap, length, List, arith}
use Rattle.machine.proofs.Runs.{end_is}
use Rattle.book_history.proofs.Writings.{record_kept}
use Rattle.book_history.proofs.history_writer.HistoryWriter.cycle.Goals as goal

pub returns : goal.returns
returns g c =
    let m = g.M.Machine in
    let w = c.self.inside.written in
    omega (
      arith,
      end_is 0 w.runs.items w.cycle c.self.invariant.0.gapless,
      ap (λ (l : List g.row.M-Row.Denot). length l) (record_kept m.kit m.valid w c.args.self.now c.self.view_is c.self.invariant.0),
    )
