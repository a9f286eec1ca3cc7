use Rattle.std.proofs.Common.{◌≡◌, ◌+◌, ◌-◌, ◌≤◌, ◌++◌, length}
use Rattle.verilog_pre.specs.Bodies.{trimmed_parts, trimmed_len}
use Rattle.verilog_pre.specs.Tables.{table_of, Sound}
use Rattle.verilog_pre.specs.Views.{parts_of}
use Rattle.verilog_pre.proofs.body.read_trimmed.Given as goal

-- the parts so far and those of the rest are those of the body
abbrev pub invariant-loop-rest : goal.invariant-loop-rest
invariant-loop-rest l = record {
  parts : parts_of l.macros ++ trimmed_parts l.file l.at l.rest ≡ parts_of l.fn.macros ++ trimmed_parts l.file l.offset l.text;
  table : table_of l.macros ≡ table_of l.fn.macros;
  places : l.macros.places ≡ l.fn.macros.places;
  sound : Sound l.macros;
  count : (length l.text - length l.rest) + trimmed_len l.rest ≡ trimmed_len l.text;
  less : length l.rest ≤ length l.text;
  place : l.at + length l.rest ≡ l.offset + length l.text;
}

abbrev pub decreases-loop-rest : goal.decreases-loop-rest
decreases-loop-rest l = length l.rest
