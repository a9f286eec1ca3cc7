-- What may be wrong with an expression, in the order of the text: a list of possible faults, of which the first is the answer.
use Rattle.std.specs.Prelude.{◌≡◌, ⊤, ℕ, ◌+◌, ◌-◌, ◌*◌, Bool, false, ◌&&◌, ◌==◌, not, nat_le, nat_lt, if◌then◌else◌, List, [], ◌∷◌, ◌++◌, Option, Some, None, ℤ, pos, negsuc, max}
use Rattle.ls_text.specs.declared.place.Place.{Place}
use Rattle.ls_text.specs.declared.at.At.TheVariants.{Text}
use Rattle.ls_text.specs.declared.name_id.NameId.{NameId}
use Rattle.ls_text.specs.declared.fault.Fault.{Fault}
use Rattle.ls_text.specs.declared.refusal.Refusal.{Refusal}
use Rattle.ls_text.specs.declared.refusal.Refusal.TheVariants as refusal
use Rattle.verilog_ast.specs.declared.identifier.Identifier.{Identifier}
use Rattle.verilog_ast.specs.Expressions.{Expression, Literal, Whole, BitSelect, PartSelect, UpwardSelect, DownwardSelect, Unary, Binary, Conditional, Concatenation, Replication, Bracketed, NoPart, Parts}
use Rattle.verilog_ast.specs.Places.{expression_place}
use Rattle.width_rules.specs.declared.due.Due.{Due}
use Rattle.width_rules.specs.declared.due.Due.TheVariants.{AnyValue, ConstantOnly}
use Rattle.width_rules.specs.Scopes.{Meaning, Signal, Constant, Turn, Genvar, Unknown, Scope}
use Rattle.width_rules.specs.Sizes.{length, literal_length, is_constant, count_of, bits_between}
use Rattle.width_rules.specs.Constants.{integer}

abbrev pub fault : ℕ → Place → List NameId → Fault
fault code at names = record { code = code; at = Text at; names = names }

abbrev pub first : List Fault → Option Fault
first [] = None
first (f ∷ fs) = Some f

-- a refusal is the first of these faults, or memory ran out
abbrev pub IsFirst : List Fault → Refusal → Type 0
IsFirst faults (refusal.Fault f) = first faults ≡ Some f
IsFirst faults refusal.NoMemory = ⊤

-- the name that a text begins with, which a fault at its place shows
abbrev pub first_name : Expression → List NameId
first_name (Literal at x) = []
first_name (Whole n) = n.name ∷ []
first_name (BitSelect n x) = n.name ∷ []
first_name (PartSelect n x y) = n.name ∷ []
first_name (UpwardSelect n x y) = n.name ∷ []
first_name (DownwardSelect n x y) = n.name ∷ []
first_name (Unary at op x) = []
first_name (Binary op x y) = first_name x
first_name (Conditional c x y) = first_name c
first_name (Concatenation at xs) = []
first_name (Replication at c xs) = []
first_name (Bracketed at x) = []
first_name NoPart = []
first_name (Parts x xs) = first_name x

-- a fault at the first token of an expression
abbrev pub fault_of : ℕ → Expression → Fault
fault_of code e = fault code (expression_place e) (first_name e)

-- a fault at a name
abbrev pub fault_at : ℕ → Identifier → Fault
fault_at code n = fault code n.at (n.name ∷ [])

-- a fault where this is so
abbrev pub fault_if : Bool → Fault → List Fault
fault_if b f = if b then f ∷ [] else []

-- ---- names

-- a name that no expression can use (29), and a net or variable where a constant is due (25)
abbrev pub name_faults : Meaning → Due → Identifier → List Fault
name_faults (Signal signal width lsb signed writer) AnyValue n = []
name_faults (Signal signal width lsb signed writer) ConstantOnly n = fault_at 25 n ∷ []
name_faults (Constant width value signed) due n = []
name_faults (Turn width value signed) due n = []
name_faults Genvar due n = fault_at 29 n ∷ []
name_faults Unknown due n = fault_at 29 n ∷ []

-- ---- selects

-- whether so many bits from an index on lie in a signal of `total` bits whose lowest one has the index `below`
abbrev pub lies : ℤ → ℕ → ℕ → ℕ → Bool
lies (pos at) below width total = nat_le below at && nat_le (at - below + width) total
lies (negsuc at) below width total = false

-- so many bits from an index on, less `down`, where the index is known and they don't lie in the declared range, or of a name that
-- has no bits to select (32)
abbrev pub run_faults : Meaning → Bool → ℤ → ℕ → ℕ → Identifier → List Fault
run_faults (Signal signal total lsb signed writer) constant at width down n =
    fault_if (constant && not (lies at (lsb + down) width total)) (fault_at 32 n)
run_faults (Constant own value signed) constant at width down n = fault_at 32 n ∷ []
run_faults (Turn own value signed) constant at width down n = fault_at 32 n ∷ []
run_faults Genvar constant at width down n = fault_at 32 n ∷ []
run_faults Unknown constant at width down n = fault_at 32 n ∷ []

-- the same of a run that begins at a known bit
abbrev pub range_faults : Meaning → ℤ → ℕ → Identifier → List Fault
range_faults (Signal signal total lsb signed writer) low width n = fault_if (not (lies low lsb width total)) (fault_at 32 n)
range_faults (Constant own value signed) low width n = fault_at 32 n ∷ []
range_faults (Turn own value signed) low width n = fault_at 32 n ∷ []
range_faults Genvar low width n = fault_at 32 n ∷ []
range_faults Unknown low width n = fault_at 32 n ∷ []

-- the width of a part-select: above 128 (31), else reversed (32), else what the run has
abbrev pub part_faults : Meaning → ℤ → ℕ → Identifier → List Fault
part_faults meaning low width n =
    fault_if (nat_lt 128 width) (fault_at 31 n) ++ (fault_if (width == 0) (fault_at 32 n) ++ range_faults meaning low width n)

-- the width behind `+:` or `-:`: below 1 (26, at the width), or above 128 (31)
abbrev pub width_faults : Identifier → Expression → ℕ → List Fault
width_faults n y width = fault_if (width == 0) (fault_of 26 y) ++ fault_if (nat_lt 128 width) (fault_at 31 n)

-- ---- expressions

-- a concatenation has 1 to 128 bits
abbrev pub total_faults : Place → ℕ → List Fault
total_faults at width = fault_if (width == 0) (fault 26 at []) ++ fault_if (nat_lt 128 width) (fault 31 at [])

-- from left to right; a constant is due in an index left of `assign`, a bound, a width and a count
abbrev pub faults : Scope → Due → Expression → List Fault
faults scope due (Literal at x) = fault_if (nat_lt 128 (literal_length x.size)) (fault 31 at [])
faults scope due (Whole n) = name_faults (scope n.name.0) due n
faults scope due (BitSelect n x) =
    name_faults (scope n.name.0) due n ++ (faults scope due x
    ++ run_faults (scope n.name.0) (is_constant scope x) (integer scope x) 1 0 n)
faults scope due (PartSelect n x y) =
    name_faults (scope n.name.0) due n ++ (faults scope ConstantOnly x ++ (faults scope ConstantOnly y
    ++ part_faults (scope n.name.0) (integer scope y) (bits_between (integer scope x) (integer scope y)) n))
faults scope due (UpwardSelect n x y) =
    name_faults (scope n.name.0) due n ++ (faults scope due x ++ (faults scope ConstantOnly y
    ++ (width_faults n y (count_of (integer scope y))
    ++ run_faults (scope n.name.0) (is_constant scope x) (integer scope x) (count_of (integer scope y)) 0 n)))
faults scope due (DownwardSelect n x y) =
    name_faults (scope n.name.0) due n ++ (faults scope due x ++ (faults scope ConstantOnly y
    ++ (width_faults n y (count_of (integer scope y))
    ++ run_faults (scope n.name.0) (is_constant scope x) (integer scope x) (count_of (integer scope y)) (count_of (integer scope y) - 1) n)))
faults scope due (Unary at op x) = faults scope due x
faults scope due (Binary op x y) = faults scope due x ++ faults scope due y
faults scope due (Conditional c x y) = faults scope due c ++ (faults scope due x ++ faults scope due y)
faults scope due (Concatenation at xs) = faults scope due xs ++ total_faults at (length scope xs)
faults scope due (Replication at c xs) =
    faults scope ConstantOnly c ++ (fault_if (count_of (integer scope c) == 0) (fault_of 26 c)
    ++ (faults scope due xs ++ total_faults at (count_of (integer scope c) * length scope xs)))
faults scope due (Bracketed at x) = faults scope due x
faults scope due NoPart = []
faults scope due (Parts x xs) = faults scope due x ++ faults scope due xs

-- the length that a context pushes: the larger one
abbrev pub pushed_length : Option ℕ → ℕ → ℕ
pushed_length None own = own
pushed_length (Some context) own = max context own

-- of an expression in a context: its own, and then a context above 128 bits
abbrev pub sizing_faults : Scope → Expression → Option ℕ → List Fault
sizing_faults scope e context =
    faults scope AnyValue e ++ fault_if (nat_lt 128 (pushed_length context (length scope e))) (fault_of 31 e)
