use Rattle.std.proofs.Common.{refl, arith}
use Rattle.book_tests.proofs.Tries.{keeps_others, room_for}
use Rattle.book_tests.proofs.ticket_calls.give_up.Goals as goal

pub release-requires-clause-room : goal.release-requires-clause-room
release-requires-clause-room c κs = room_for c.args.book.now c.args.held.by c.session_room.result c.session_room.ensures (omega (arith, c.if-session_room-lt1.false))

pub returns : goal.returns
returns c = keeps_others c.args.book.now c.release.new.self _ c.args.held.ticket c.args.held.ticket refl c.release.ensures.settings c.release.ensures.events refl (λ n. refl)
