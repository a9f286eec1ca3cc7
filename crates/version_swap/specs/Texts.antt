-- The tokens of files.
use Rattle.std.specs.Prelude.{List, Result}
use Rattle.ls_text.specs.declared.source_file.SourceFile.{SourceFile}
use Rattle.ls_text.specs.Readings.{TextFault, ◌>>=◌}
use Rattle.verilog_pre.specs.Reading.{pieces}
use Rattle.verilog_lex.specs.Tokens.{Said, tokens}

-- the tokens of files, or their first fault
unfoldable pub file_tokens : List SourceFile → Result (List Said) TextFault
file_tokens files = pieces files >>= λ ps. tokens files ps
