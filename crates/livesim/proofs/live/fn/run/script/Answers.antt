use Rattle.book_turn.specs.Passes.{known}
use Rattle.live_session.proofs.SettledAtTurn.{own_open}
use Rattle.livesim.proofs.live.fn.run.script.Goals as goal

pub returns : goal.returns
returns g c = record {
  turn = record {
    turn = c.carry_out.ensures.turn;
    free = c.carry_out.ensures.at.free;
    still_open = own_open c.carry_out.new.session (known c.carry_out.new.pass) c.carry_out.ensures.at;
  };
  goes = c.carry_out.ensures.goes;
  works = record {
    lived = c.carry_out.ensures.lived;
    sees = c.carry_out.ensures.at.sees;
    read_fault = c.carry_out.ensures.read_fault;
    write_fault = c.carry_out.ensures.write_fault;
    known = c.carry_out.ensures.known;
    words = c.carry_out.ensures.words;
    source_once = c.carry_out.ensures.source_once;
    sink_once = c.carry_out.ensures.sink_once;
    source_kept = c.carry_out.ensures.source_kept;
    sink_kept = c.carry_out.ensures.sink_kept;
    few = c.carry_out.ensures.few;
    much = c.carry_out.ensures.much;
  };
}
