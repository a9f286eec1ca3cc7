use Rattle.std.proofs.Common.{◌≡◌, ◌∷◌, ◌++◌, [], List, refl, ◌∙◌, ap, arith}
use Rattle.book_history.specs.declared.written.Written.{Written}
use Rattle.book_history.specs.declared.version.Version.{Version}
use Rattle.book_history.specs.declared.load.Load.{Load}
use Rattle.book_history.specs.declared.load.Load.TheVariants as held
use Rattle.book_history.specs.declared.entry.Entry.TheVariants.{Reload}
use Rattle.book_history.specs.Book.{Reloads}
use Rattle.book_history.proofs.Writings.{has_place, loaded_written}
use Rattle.book_history.proofs.history_writer.HistoryWriter.push_reload.Goals as goal

pub push_reserved-requires-2 : goal.push_reserved-requires-2
push_reserved-requires-2 g c =
    let m = g.M.Machine in
    omega (arith, has_place m.kit m.valid c.self.inside.written c.args.self.now _ c.self.view_is c.requires.legal, c.self.invariant.1)

pub invariant_of-self-2 : goal.invariant_of-self-2
invariant_of-self-2 g c =
    let m = g.M.Machine in
    let w = c.self.inside.written in
    let new : Written g.row.M.Denot g.row.M-Row.Denot g.row.M-Ops.Denot =
    record { interval = w.interval; lookback = w.lookback; rooms = w.rooms; cycle = w.cycle; entries = c.push_reserved-2.new.self; loads = c.push_reserved.new.self; runs = w.runs } in
    let entries : new.entries.items ≡ w.entries.items ++ (Reload c.args.version.value.number c.args.from) ∷ [] =
    c.push_reserved-2.ensures.items ∙ ap (λ (x : Version g.row.M.Denot). w.entries.items ++ (Reload x.number c.args.from) ∷ []) c.deref.ensures in
    let loads : new.loads.items ≡ w.loads.items ++ (held.Reload c.args.version c.args.ops) ∷ [] =
    c.push_reserved.ensures.items ∙ ap (λ (l : List (Load g.row.M.Denot g.row.M-Ops.Denot)). l ++ (held.Reload c.args.version c.args.ops) ∷ []) c.reserve.ensures.items in (
      (loaded_written m.kit m.valid w new (Reload c.args.version.value.number c.args.from) (held.Reload c.args.version c.args.ops) (Reloads c.args.version.value.number c.args.version.value.machine.value c.args.ops.value c.args.from) c.args.self.now c.self.view_is c.self.invariant.0
          refl entries loads refl refl refl refl refl refl c.requires.legal).0,
      omega (arith, c.push_reserved-2.ensures.capacity, c.self.invariant.1),
    )

pub returns-clause-ok : goal.returns-clause-ok
returns-clause-ok g c =
    let m = g.M.Machine in
    let w = c.self.inside.written in
    let new : Written g.row.M.Denot g.row.M-Row.Denot g.row.M-Ops.Denot =
    record { interval = w.interval; lookback = w.lookback; rooms = w.rooms; cycle = w.cycle; entries = c.push_reserved-2.new.self; loads = c.push_reserved.new.self; runs = w.runs } in
    let entries : new.entries.items ≡ w.entries.items ++ (Reload c.args.version.value.number c.args.from) ∷ [] =
    c.push_reserved-2.ensures.items ∙ ap (λ (x : Version g.row.M.Denot). w.entries.items ++ (Reload x.number c.args.from) ∷ []) c.deref.ensures in
    let loads : new.loads.items ≡ w.loads.items ++ (held.Reload c.args.version c.args.ops) ∷ [] =
    c.push_reserved.ensures.items ∙ ap (λ (l : List (Load g.row.M.Denot g.row.M-Ops.Denot)). l ++ (held.Reload c.args.version c.args.ops) ∷ []) c.reserve.ensures.items in
    (loaded_written m.kit m.valid w new (Reload c.args.version.value.number c.args.from) (held.Reload c.args.version c.args.ops) (Reloads c.args.version.value.number c.args.version.value.machine.value c.args.ops.value c.args.from) c.args.self.now c.self.view_is c.self.invariant.0
    refl entries loads refl refl refl refl refl refl c.requires.legal).1
