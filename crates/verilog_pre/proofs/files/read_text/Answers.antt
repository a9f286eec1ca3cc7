use Rattle.std.proofs.Common.{Result, sym, ap, subst, ◌∙◌, arith}
use Rattle.ls_text.specs.Readings.{TextFault, Refuses}
use Rattle.ls_text.specs.Places.{place_after}
use Rattle.ls_text.proofs.Growth.{grows_on}
use Rattle.verilog_pre.specs.States.{State, state}
use Rattle.verilog_pre.proofs.Uses.{text_on, text_refused}
use Rattle.verilog_pre.proofs.files.read_text.Goals as goal

pub returns-in-Err-clause-read : goal.returns-in-Err-clause-read
returns-in-Err-clause-read c =
    let R : Result State TextFault → Type 0 = λ r. Refuses c.read_turn.new.names c.in-Err.refusal r in
    subst R c.loop-rest.invariant.same (text_refused _ c.in-Err.refusal _ _ _ c.loop-rest.rest.now (grind arith) c.in-Err.ensures.read)

pub loop-rest-preserved : goal.loop-rest-preserved
loop-rest-preserved c = record {
  same =
      sym (text_on c.loop-rest.at c.place_after-at.result c.loop-rest.offset (state c.loop-rest.reader) (state c.read_turn.new.reader) c.loop-rest.rest.now c.split_at.result.1.now c.in-Ok.n
      (grind arith) c.in-Ok.ensures.some c.in-Ok.ensures.read (c.place_after-at.ensures ∙ ap (place_after c.loop-rest.at) c.split_at.ensures.front) c.split_at.ensures.back)
      ∙ c.loop-rest.invariant.same;
  sound = c.in-Ok.ensures.sound;
  room = omega (arith, c.split_at.ensures.back_len, c.loop-rest.invariant.room);
  grows = grows_on _ _ _ c.loop-rest.invariant.grows c.read_turn.ensures.grows;
}
