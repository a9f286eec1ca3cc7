use Rattle.std.proofs.Common.{◌≡◌, drop}
use Rattle.ls_text.specs.Texts.{Grows}
use Rattle.verilog_pre.specs.Reading.{files_from}
use Rattle.verilog_pre.specs.States.{state}
use Rattle.verilog_pre.specs.Tables.{Sound}
use Rattle.verilog_pre.proofs.files.read_files.Given as goal

-- the files that are left give what all give
abbrev pub invariant-loop-number : goal.invariant-loop-number
invariant-loop-number l = record {
  same : files_from l.number (state l.reader) (drop l.number l.files) ≡ files_from 0 (state l.fn.reader) l.files;
  sound : Sound l.reader.macros;
  grows : Grows l.fn.names l.names;
}
