-- A module whose spelling is that of tokens as reading gives them.
use Rattle.std.specs.Prelude.{ℕ, List}
use Rattle.std.specs.List.{All}
use Rattle.verilog_lex.specs.declared.token.Token.{Token}
use Rattle.verilog_ast.specs.declared.module.Module.{Module}
use Rattle.verilog_parse.specs.Files.{IsSpelledAs}
use Rattle.version_swap.specs.Proper.{IsProper}

-- the module stands for such tokens by this table, and keeps their spelling
pub record IsSpelledUnder (names : List (List ℕ)) (x : Module) : Type 0 where
  pub tokens : List Token
  pub rest : List Token
  pub spelled : IsSpelledAs names x tokens rest
  pub proper : All (IsProper names) spelled.own
