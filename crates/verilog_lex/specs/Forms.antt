-- What a stretch of text is (IEEE 1364-2005, clauses 3.1 to 3.8).
use Rattle.std.specs.Prelude.{ℕ, Bool, true, false, List, Option, Some, None}
use Rattle.verilog_lex.specs.declared.kind.Kind.{Kind}
use Rattle.verilog_lex.specs.declared.shape.Shape.{Shape}
use Rattle.verilog_lex.specs.declared.shape.Shape.TheVariants as shape

pub data Form : Type 0 where
  -- white space (clause 3.2), or an attribute (clause 3.8)
  Gap : Form
  -- a word, reserved or not (clause 3.7)
  Letters : (text : List ℕ) → Form
  -- a plain decimal (clause 3.5.1)
  Digits : (digits : List ℕ) → Form
  -- a based part (clause 3.5.1): whether it is signed, its radix and its digits
  Part : (part : Bool × ℕ × List ℕ) → Form
  -- an operator (clause 3.4) or another sign (annex A)
  Sign : (kind : Kind) (text : List ℕ) → Form
  -- a byte that begins no token
  Unfit : Form

abbrev pub form : Shape → Form
form shape.Blank = Gap
form (shape.Word text) = Letters text.now
form (shape.Decimal digits) = Digits digits.now
form (shape.Based part) = Part (part.signed, part.radix, part.digits.now)
form (shape.Mark kind text) = Sign kind text.now
form shape.Stray = Unfit

abbrev pub is_gap : Form → Bool
is_gap Gap = true
is_gap (Letters text) = false
is_gap (Digits digits) = false
is_gap (Part part) = false
is_gap (Sign kind text) = false
is_gap Unfit = false

abbrev pub part_of : Form → Option (Bool × ℕ × List ℕ)
part_of Gap = None
part_of (Letters text) = None
part_of (Digits digits) = None
part_of (Part part) = Some part
part_of (Sign kind text) = None
part_of Unfit = None
