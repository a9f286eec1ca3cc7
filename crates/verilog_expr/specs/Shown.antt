-- What a fault of the grammar shows.
use Rattle.std.specs.Prelude.{◌≡◌, ℕ, ◌-◌, List, [], ◌∷◌, length, Option, Some, None, Err, slice_get}
use Rattle.ls_text.specs.declared.place.Place.{Place}
use Rattle.ls_text.specs.declared.at.At.TheVariants.{Text}
use Rattle.ls_text.specs.declared.name_id.NameId.{NameId}
use Rattle.ls_text.specs.declared.fault.Fault.{Fault}
use Rattle.ls_text.specs.declared.refusal.Refusal.{Refusal}
use Rattle.ls_text.specs.declared.refusal.Refusal.TheVariants as refusal
use Rattle.verilog_lex.specs.declared.token.Token.{Token}
use Rattle.verilog_expr.specs.declared.fault.ParseFault.{ParseFault}
use Rattle.verilog_expr.specs.declared.fault.ParseFault.TheVariants.{Stuck, Heavy}
use Rattle.verilog_expr.specs.declared.stop.Stop.TheVariants.{Syntax, NotInProfile}
use Rattle.verilog_expr.specs.Grammar.{Symbol}
use Rattle.verilog_expr.specs.Machine.{Run}

abbrev pub code_of : ParseFault → ℕ
code_of (Stuck Syntax n) = 15
code_of (Stuck NotInProfile n) = 38
code_of (Heavy n) = 16

abbrev pub left_at : ParseFault → ℕ
left_at (Stuck stop n) = n
left_at (Heavy n) = n

-- the token where so many are left
abbrev pub token_at : List Token → ℕ → Option Token
token_at s n = slice_get s (length s - n)

abbrev pub place_of : Option Token → Place
place_of None = record { file = 0; line = 1; col = 1 }
place_of (Some t) = t.at

abbrev pub text_of : Option Token → List NameId
text_of None = []
text_of (Some t) = t.text ∷ []

-- what too much weight shows is the place alone
abbrev pub names_of : ParseFault → Option Token → List NameId
names_of (Stuck stop n) t = text_of t
names_of (Heavy n) t = []

pub record IsShownAs (s : List Token) (f : ParseFault) (fault : Fault) : Type 0 where
  pub code : fault.code ≡ code_of f
  pub at : fault.at ≡ Text (place_of (token_at s (left_at f)))
  pub names : fault.names ≡ names_of f (token_at s (left_at f))

-- memory ran out, or it is the fault of the machine that begins with these symbols
pub data Refuses (stack : List Symbol) (s : List Token) : Refusal → Type 0 where
  no_memory : Refuses stack s refusal.NoMemory
  at_fault : {f : ParseFault} {fault : Fault}
      → Run stack s (Err f)
      → IsShownAs s f fault
      → Refuses stack s (refusal.Fault fault)

-- memory ran out, or too much is open at some token
abbrev pub IsMemoryOrHeavy : Refusal → Type 0
IsMemoryOrHeavy refusal.NoMemory = Unit {0}
IsMemoryOrHeavy (refusal.Fault fault) = fault.code ≡ 16
