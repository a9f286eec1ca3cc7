use Rattle.std.proofs.Common.{refl, arith}
use Rattle.book_tests.proofs.Tries.{keeps_others, room_for}
use Rattle.book_tests.proofs.ticket_calls.hand_in.Goals as goal

pub install-requires-clause-room : goal.install-requires-clause-room
install-requires-clause-room g c κs = room_for c.args.book.now c.args.held.by c.session_room.result c.session_room.ensures (omega (arith, c.if-session_room-lt1.false))

pub returns-in-Done : goal.returns-in-Done
returns-in-Done g c = keeps_others c.args.book.now c.install.new.self _ _ _ c.in-Done.ensures.ticket c.install.ensures.settings c.install.ensures.events refl (λ n. refl)
