-- What the uses of macros give as one relation (IEEE 1364-2005, clause 19.3.1): each part of a body gives its pieces, one
-- behind the other, and the use of a word gives those of its macro's body.
use Rattle.std.specs.Prelude.{◌≡◌, ℕ, suc, ◌-◌, true, false, List, [], ◌∷◌, ◌++◌, take, drop, Some, None, Result, Ok, Err}
use Rattle.ls_text.specs.Readings.{TextFault, fault_at}
use Rattle.verilog_pre.specs.declared.stretch.Stretch.{Stretch}
use Rattle.verilog_pre.specs.declared.macro_body.Macro.{Macro}
use Rattle.verilog_pre.specs.Parts.{Part, Text, Use, Open}
use Rattle.verilog_pre.specs.Expansions.{Output, Context, emitted, stretch_piece, is_open}

abbrev pub macro_parts : List Part → Macro → List Part
macro_parts parts m = take (m.last - m.first) (drop m.first parts)

-- one use less is left
abbrev pub with_uses : ℕ → Output → Output
with_uses n out = record { uses = n; bytes = out.bytes; pieces = out.pieces }

-- What parts give within the uses whose numbers are in `nest`, from the pieces so far to those behind them, or their first fault.
pub data Expands (c : Context) : List ℕ → Output → List Part → Result Output TextFault → Type 0 where
  AtEnd : (nest : List ℕ) (out : Output) → Expands c nest out [] (Ok out)
  -- bytes are a piece
  Bytes : (nest : List ℕ) (out : Output) (s : Stretch) (parts : List Part) (next : Output) (r : Result Output TextFault)
      → emitted c.at (stretch_piece c.at s) (s.end - s.start) out ≡ Ok next
      → Expands c nest next parts r
      → Expands c nest out (Text s ∷ parts) r
  TooLong : (nest : List ℕ) (out : Output) (s : Stretch) (parts : List Part) (e : TextFault)
      → emitted c.at (stretch_piece c.at s) (s.end - s.start) out ≡ Err e
      → Expands c nest out (Text s ∷ parts) (Err e)
  -- a comment that isn't closed
  Unclosed : (nest : List ℕ) (out : Output) (parts : List Part) → Expands c nest out (Open ∷ parts) (Err (fault_at 12 c.at []))
  -- no use is left
  TooMany : (nest : List ℕ) (out : Output) (word : List ℕ) (parts : List Part)
      → out.uses ≡ 0
      → Expands c nest out (Use word ∷ parts) (Err (fault_at 10 c.at []))
  -- a word that no macro has
  Unknown : (nest : List ℕ) (out : Output) (word : List ℕ) (parts : List Part) (n : ℕ)
      → out.uses ≡ suc n
      → c.table word ≡ None
      → Expands c nest out (Use word ∷ parts) (Err (fault_at 12 c.at (word ∷ [])))
  -- a macro within its own body
  Within : (nest : List ℕ) (out : Output) (word : List ℕ) (parts : List Part) (n : ℕ) (m : Macro)
      → out.uses ≡ suc n
      → c.table word ≡ Some m
      → is_open nest m.number ≡ true
      → Expands c nest out (Use word ∷ parts) (Err (fault_at 12 c.at (word ∷ [])))
  -- the body of the macro, and what follows its use
  Body : (nest : List ℕ) (out : Output) (word : List ℕ) (parts : List Part) (n : ℕ) (m : Macro) (next : Output) (r : Result Output TextFault)
      → out.uses ≡ suc n
      → c.table word ≡ Some m
      → is_open nest m.number ≡ false
      → Expands c (nest ++ m.number ∷ []) (with_uses n out) (macro_parts c.parts m) (Ok next)
      → Expands c nest next parts r
      → Expands c nest out (Use word ∷ parts) r
  BodyFails : (nest : List ℕ) (out : Output) (word : List ℕ) (parts : List Part) (n : ℕ) (m : Macro) (e : TextFault)
      → out.uses ≡ suc n
      → c.table word ≡ Some m
      → is_open nest m.number ≡ false
      → Expands c (nest ++ m.number ∷ []) (with_uses n out) (macro_parts c.parts m) (Err e)
      → Expands c nest out (Use word ∷ parts) (Err e)
