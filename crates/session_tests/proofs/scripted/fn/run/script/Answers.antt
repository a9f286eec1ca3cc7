use Rattle.book_turn.specs.Passes.{known}
use Rattle.live_session.proofs.SettledAtTurn.{own_open}
use Rattle.session_tests.proofs.scripted.fn.run.script.Goals as goal

pub returns : goal.returns
returns g c = record {
  turn = record {
    turn = c.play_all.ensures.turn;
    free = c.play_all.ensures.at.free;
    still_open = own_open c.play_all.new.session (known c.play_all.new.pass) c.play_all.ensures.at;
  };
  goes = c.play_all.ensures.goes;
  at = c.play_all.ensures.at;
}
