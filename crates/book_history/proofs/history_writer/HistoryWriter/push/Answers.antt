use Rattle.std.proofs.Common.{[], refl, arith}
use Rattle.book_history.specs.declared.written.Written.{Written}
use Rattle.book_history.proofs.Writings.{more_written, has_place, bare_more}
use Rattle.book_history.proofs.history_writer.HistoryWriter.push.Goals as goal

pub push_reserved-requires : goal.push_reserved-requires
push_reserved-requires g c =
    let m = g.M.Machine in
    omega (arith, has_place m.kit m.valid c.self.inside.written c.args.self.now _ c.self.view_is c.requires.legal, c.self.invariant.1)

pub invariant_of-self : goal.invariant_of-self
invariant_of-self g c =
    let m = g.M.Machine in
    let w = c.self.inside.written in
    let new : Written g.row.M.Denot g.row.M-Row.Denot g.row.M-Ops.Denot =
    record { interval = w.interval; lookback = w.lookback; rooms = w.rooms; cycle = w.cycle; entries = c.push_reserved.new.self; loads = w.loads; runs = w.runs } in
    let more = bare_more m.kit m.valid w new c.args.entry c.self.invariant.0 c.requires.bare refl c.push_reserved.ensures.items refl refl refl in (
      (more_written m.kit m.valid w new c.args.entry [] [] c.args.self.now c.self.view_is c.self.invariant.0 more c.requires.legal).0,
      omega (arith, c.push_reserved.ensures.capacity, c.self.invariant.1),
    )

pub returns-clause-events : goal.returns-clause-events
returns-clause-events g c =
    let m = g.M.Machine in
    let w = c.self.inside.written in
    let new : Written g.row.M.Denot g.row.M-Row.Denot g.row.M-Ops.Denot =
    record { interval = w.interval; lookback = w.lookback; rooms = w.rooms; cycle = w.cycle; entries = c.push_reserved.new.self; loads = w.loads; runs = w.runs } in
    let more = bare_more m.kit m.valid w new c.args.entry c.self.invariant.0 c.requires.bare refl c.push_reserved.ensures.items refl refl refl in
    (more_written m.kit m.valid w new c.args.entry [] [] c.args.self.now c.self.view_is c.self.invariant.0 more c.requires.legal).1
