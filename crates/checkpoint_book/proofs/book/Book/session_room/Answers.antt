use Rattle.std.proofs.Common.{◌≡◌, ◌+◌, ◌-◌, ap, subst, arith}
use Rattle.book_history.specs.declared.rooms.Rooms.{Rooms}
use Rattle.book_history.specs.Journal.{Journal}
use Rattle.book_history.specs.Rooms.{Counts}
use Rattle.book_history.proofs.Prefixes.{legal_rooms}
use Rattle.checkpoint_book.specs.Views.{counts_of}
use Rattle.checkpoint_book.proofs.Keeps.{small_of}
use Rattle.checkpoint_book.proofs.book.Book.session_room.Goals as goal

pub overflow_cast-result : goal.overflow_cast-result
overflow_cast-result g c =
    let m = g.M.Machine in
    omega (arith, (small_of m.kit m.valid c.self.inside.history c.self.inside.opened c.self.inside.counters c.self.invariant c.legal.ensures).session)

pub overflow_sub-result : goal.overflow_sub-result
overflow_sub-result g c =
    let m = g.M.Machine in
    let j = c.self.inside.history in
    omega (
      arith,
      (legal_rooms m.kit j.settings m.valid j.events c.legal.ensures).session,
      ap (λ (x : Counts). x.session) c.self.invariant.counted,
      ap (λ (x : Rooms). x.session) c.rooms-rooms.ensures,
    )

pub returns : goal.returns
returns g c =
    let m = g.M.Machine in
    let j = c.self.inside.history in
    let P : Journal g.row.M.Denot g.row.M-Row.Denot g.row.M-Ops.Denot → Type 0 = λ x. (counts_of x).session + (c.rooms-rooms.result.session - c.self.inside.counters.session) ≡ x.settings.rooms.session in
    let here : P j =
    omega (
      arith,
      (legal_rooms m.kit j.settings m.valid j.events c.legal.ensures).session,
      ap (λ (x : Counts). x.session) c.self.invariant.counted,
      ap (λ (x : Rooms). x.session) c.rooms-rooms.ensures,
    ) in
    subst P c.self.view_is here
