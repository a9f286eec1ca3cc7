-- A whole text: what the grammar has of it (IEEE 1364-2005, annex A.1.2).
use Rattle.std.specs.Prelude.{◌≡◌, ◌≢◌, ℕ, List, [], ◌∷◌, ◌++◌, Ok}
use Rattle.verilog_lex.specs.declared.token.Token.{Token}
use Rattle.verilog_lex.specs.declared.kind.Kind.TheVariants as k
use Rattle.verilog_ast.specs.declared.module.Module.{Module}
use Rattle.verilog_expr.specs.Tokens.{next, Takes}
use Rattle.verilog_expr.specs.Grammar as grammar
use Rattle.verilog_expr.specs.Grammar.{Symbol, T, N}
use Rattle.verilog_expr.specs.Machine.{Run}
use Rattle.verilog_parse.specs.Modules as modules
use Rattle.verilog_spelling.specs.Spellings.{spelling}

-- the symbols that the machine begins with
abbrev pub file : List Symbol
file = N grammar.Modules 0 ∷ T k.End 0 ∷ []

-- the module stands at the front of the tokens, and keeps the spelling of just these
pub record IsSpelledAs (names : List (List ℕ)) (x : Module) (s r : List Token) : Type 0 where
  pub tree : modules.Spells (modules.AModule x.body) s r
  pub own : List Token
  pub cut : s ≡ own ++ r
  pub text : x.spelling ≡ spelling names own

-- modules up to what is none
pub data SpellsAll (names : List (List ℕ)) : List Module → List Token → List Token → Type 0 where
  no_module : {s : List Token}
      → next s ≢ k.Module
      → SpellsAll names [] s s
  another_module : {x : Module} {xs : List Module} {s a r : List Token}
      → k.Module ≡ next s
      → IsSpelledAs names x s a
      → SpellsAll names xs a r
      → SpellsAll names (x ∷ xs) s r

-- the modules stand for all the tokens up to their end, and the machine takes them
pub record Stands (names : List (List ℕ)) (xs : List Module) (s : List Token) : Type 0 where
  pub last : List Token
  pub end : Token
  pub tree : SpellsAll names xs s last
  pub ends : Takes k.End last [] end
  pub taken : Run file s (Ok [])

-- some modules stand for the tokens, up to an end
pub record IsSpelled (s : List Token) : Type 0 where
  pub names : List (List ℕ)
  pub modules : List Module
  pub last : List Token
  pub after : List Token
  pub end : Token
  pub tree : SpellsAll names modules s last
  pub ends : Takes k.End last after end
