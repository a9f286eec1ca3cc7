use Rattle.std.proofs.Common.{◌≡◌, ◌+◌, ◌-◌, length}
use Rattle.verilog_pre.specs.Tables.{table_of, Sound}
use Rattle.verilog_pre.proofs.table.fill.Given as goal

abbrev pub invariant-loop-macros : goal.invariant-loop-macros
invariant-loop-macros l = record {
  table : table_of l.macros ≡ table_of l.fn.macros;
  words : l.macros.words ≡ l.fn.macros.words;
  parts : l.macros.parts ≡ l.fn.macros.parts;
  places : l.macros.places ≡ l.fn.macros.places;
  sound : Sound l.macros;
}

abbrev pub decreases-loop-macros : goal.decreases-loop-macros
decreases-loop-macros l = l.index + 1 - length l.macros.known.items
