-- The modules that are read and parsed are spelled under the table of names.
use Rattle.std.proofs.Common.{ℕ, List, length, map, Ok}
use Rattle.std.specs.List.{All}
use Rattle.ls_text.specs.declared.piece.Piece.{Piece}
use Rattle.ls_text.specs.declared.source_file.SourceFile.{SourceFile}
use Rattle.verilog_lex.specs.declared.token.Token.{Token}
use Rattle.verilog_lex.specs.Ends.{EndsOnce}
use Rattle.verilog_lex.specs.Readings.{Reads}
use Rattle.verilog_lex.specs.Views.{said, IsNamed}
use Rattle.verilog_ast.specs.declared.module.Module.{Module}
use Rattle.verilog_parse.specs.Files.{Stands}
use Rattle.version_swap.specs.Spelled.{IsSpelledUnder}
use Rattle.version_swap.proofs.ProperTokens.{read_proper}
use Rattle.version_swap.proofs.SpelledModules.{modules_spelled}

pub parsed_spelled : (names : List (List ℕ)) (files : List SourceFile) (pieces : List Piece) (s : List Token) (xs : List Module)
    → Reads files pieces (Ok (map (said names) s)) → All (IsNamed (length names)) s → EndsOnce s → Stands names xs s → All (IsSpelledUnder names) xs
parsed_spelled names files pieces s xs reads named once stands =
    modules_spelled names xs s once (read_proper names files pieces s reads named) stands
