use Rattle.std.proofs.Common.{◌≡◌, ◌-◌, refl, sym, ◌∙◌, arith}
use Rattle.book_history.specs.declared.written.Written.{Written}
use Rattle.book_history.proofs.Writings.{has_place, run_written}
use Rattle.book_history.proofs.history_writer.HistoryWriter.push_run.Goals as goal

pub push_reserved-requires : goal.push_reserved-requires
push_reserved-requires g c =
    let m = g.M.Machine in
    omega (arith, has_place m.kit m.valid c.self.inside.written c.args.self.now _ c.self.view_is c.requires.legal, c.self.invariant.1)

pub invariant_of-self-2 : goal.invariant_of-self-2
invariant_of-self-2 g c =
    let m = g.M.Machine in
    let w = c.self.inside.written in
    let same : c.in_ok-merged.merged ≡ c.args.rows.now = c.in_ok-merged.ensures in
    let new : Written g.row.M.Denot g.row.M-Row.Denot g.row.M-Ops.Denot =
    record { interval = w.interval; lookback = w.lookback; rooms = w.rooms; cycle = c.end-end.result; entries = c.push_reserved.new.self; loads = w.loads; runs = c.merge_at.new.list } in (
      (run_written m.kit m.valid w new c.append_to.new.list.items c.args.rows.now (c.end-end.result - c.start.result) c.append_to.result c.args.self.now c.self.view_is c.self.invariant.0 refl c.push_reserved.ensures.items refl
          (sym c.is_err.ensures.value ∙ c.if-is_err.false) (rw same at c.append_to.ensures.rows) (rw same at c.append_to.ensures.gapless) c.merge_at.ensures.rows c.merge_at.ensures.gapless c.requires.next c.end-end.ensures (omega (arith, c.end-end.ensures, c.start.ensures)) c.requires.legal).0,
      omega (arith, c.push_reserved.ensures.capacity, c.self.invariant.1),
    )

pub returns-clause-ok : goal.returns-clause-ok
returns-clause-ok g c =
    let m = g.M.Machine in
    let w = c.self.inside.written in
    let same : c.in_ok-merged.merged ≡ c.args.rows.now = c.in_ok-merged.ensures in
    let new : Written g.row.M.Denot g.row.M-Row.Denot g.row.M-Ops.Denot =
    record { interval = w.interval; lookback = w.lookback; rooms = w.rooms; cycle = c.end-end.result; entries = c.push_reserved.new.self; loads = w.loads; runs = c.merge_at.new.list } in
    (run_written m.kit m.valid w new c.append_to.new.list.items c.args.rows.now (c.end-end.result - c.start.result) c.append_to.result c.args.self.now c.self.view_is c.self.invariant.0 refl c.push_reserved.ensures.items refl
    (sym c.is_err.ensures.value ∙ c.if-is_err.false) (rw same at c.append_to.ensures.rows) (rw same at c.append_to.ensures.gapless) c.merge_at.ensures.rows c.merge_at.ensures.gapless c.requires.next c.end-end.ensures (omega (arith, c.end-end.ensures, c.start.ensures)) c.requires.legal).1
