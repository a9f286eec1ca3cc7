use Rattle.std.proofs.Common.{◌≡◌, ◌+◌, ◌≤◌, length}
use Rattle.ls_text.specs.Texts.{Grows}
use Rattle.verilog_pre.specs.Reading.{text_read}
use Rattle.verilog_pre.specs.States.{state}
use Rattle.verilog_pre.specs.Tables.{Sound}
use Rattle.verilog_pre.proofs.files.read_text.Given as goal

-- what is left gives what the text gives
abbrev pub invariant-loop-rest : goal.invariant-loop-rest
invariant-loop-rest l = record {
  same : text_read l.at l.offset (state l.reader) l.rest ≡ text_read l.fn.start 0 (state l.fn.reader) l.text;
  sound : Sound l.reader.macros;
  room : l.offset + length l.rest ≤ 4194304;
  grows : Grows l.fn.names l.names;
}

abbrev pub decreases-loop-rest : goal.decreases-loop-rest
decreases-loop-rest l = length l.rest
