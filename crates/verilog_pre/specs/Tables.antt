-- The macros that are known (IEEE 1364-2005, clause 19.3): which one each word names, if any.
use Rattle.std.specs.Prelude.{◌<◌, ◌≤◌, ℕ, if◌then◌else◌, List, [], ◌∷◌, length, Option, None, IfSome}
use Rattle.std.specs.List.{All}
use Rattle.std.specs.Str.{bytes_eq}
use Rattle.verilog_pre.specs.declared.macro_body.Macro.{Macro}
use Rattle.verilog_pre.specs.declared.macros.Macros.{Macros}
use Rattle.verilog_pre.specs.Views.{IsListed}

abbrev pub Table : Type 0
Table = List ℕ → Option Macro

abbrev pub no_macros : Table
no_macros = λ word. None

-- a later define (19.3.1) or undef (19.3.2) replaces an earlier one
abbrev pub with_macro : List ℕ → Option Macro → Table → Table
with_macro word m table = λ other. if bytes_eq word other then m else table other

-- what words and their macros, in the same order, say of a word
abbrev pub found : List (List ℕ) → List (Option Macro) → List ℕ → Option Macro
found [] ms word = None
found (w ∷ ws) [] word = None
found (w ∷ ws) (m ∷ ms) word = if bytes_eq w word then m else found ws ms word

unfoldable pub table_of : Macros → Table
table_of m = found m.words m.known.items

-- the bodies of all macros are parts of the list of parts, each macro has its place in the list of places, and the words
-- that parts use are in the table of words
pub record Sound (m : Macros) : Type 0 where
  pub words : length m.known.items ≤ length m.words
  pub bodies : All (λ (o : Option Macro). IfSome o (λ (k : Macro). k.last ≤ length m.parts.items)) m.known.items
  pub places : All (λ (o : Option Macro). IfSome o (λ (k : Macro). k.number < length m.places.items)) m.known.items
  pub uses : All (IsListed (length m.words)) m.parts.items
