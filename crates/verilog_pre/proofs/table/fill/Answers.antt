use Rattle.std.proofs.Common.{◌≤◌, ◌<◌, length, ap, ◌∙◌, arith}
use Rattle.verilog_pre.specs.Tables.{table_of, found}
use Rattle.verilog_pre.proofs.Words.{table_none, push_none}
use Rattle.verilog_pre.proofs.table.fill.Goals as goal

pub loop-macros-preserved : goal.loop-macros-preserved
unfolding table_of
loop-macros-preserved c = record {
  table = ap (found c.loop-macros.macros.words) c.in_ok-push.ensures.items ∙ table_none c.loop-macros.macros.words c.loop-macros.macros.known.items ∙ c.loop-macros.invariant.table;
  words = c.loop-macros.invariant.words;
  parts = c.loop-macros.invariant.parts;
  places = c.loop-macros.invariant.places;
  sound = record {
    words = omega (arith, c.in_ok-push.ensures.len, c.loop-macros.invariant.sound.words, ap length c.loop-macros.invariant.words, c.requires.within);
    bodies = push_none (λ k. k.last ≤ length c.loop-macros.macros.parts.items) _ _ c.in_ok-push.ensures.items c.loop-macros.invariant.sound.bodies;
    places = push_none (λ k. k.number < length c.loop-macros.macros.places.items) _ _ c.in_ok-push.ensures.items c.loop-macros.invariant.sound.places;
    uses = c.loop-macros.invariant.sound.uses;
  };
}
