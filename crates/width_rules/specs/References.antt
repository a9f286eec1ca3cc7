-- Names and selects that are written: which bits they are, and what may be wrong with one (IEEE Std 1364-2005, 5.2.1, 6.1, 9.2).
use Rattle.std.specs.Prelude.{ℕ, ◌+◌, ◌-◌, Bool, List, [], ◌∷◌, ◌++◌, if◌then◌else◌, ℤ}
use Rattle.ls_text.specs.declared.fault.Fault.{Fault}
use Rattle.typed_ir.specs.Sized as s
use Rattle.typed_ir.specs.Sized.{Sized}
use Rattle.typed_ir.specs.Stmts.{SizedTarget, Fixed, Moving}
use Rattle.verilog_ast.specs.declared.identifier.Identifier.{Identifier}
use Rattle.verilog_ast.specs.Expressions as e
use Rattle.verilog_ast.specs.Expressions.{Expression}
use Rattle.width_rules.specs.declared.due.Due.{Due}
use Rattle.width_rules.specs.declared.due.Due.TheVariants.{ConstantOnly}
use Rattle.width_rules.specs.Scopes.{Meaning, Signal, Constant, Turn, Genvar, Unknown, Scope}
use Rattle.width_rules.specs.Signs.{is_signed}
use Rattle.width_rules.specs.Sizes.{is_constant, count_of, bits_between, low_of}
use Rattle.width_rules.specs.Constants.{integer}
use Rattle.width_rules.specs.Opened.{own}
use Rattle.width_rules.specs.Faults.{faults, fault_at, run_faults, part_faults, width_faults}

-- ---- the bits of a name; to them go the bits of the value from `shift` on

abbrev pub known_part : ℕ → ℕ → ℕ → ℕ → SizedTarget
known_part shift signal low width = Fixed (record { shift = shift; span = record { signal = signal; low = low; width = width } })

abbrev pub whole_part : Meaning → ℕ → SizedTarget
whole_part (Signal signal width lsb signed writer) shift = known_part shift signal 0 width
whole_part (Constant width value signed) shift = known_part shift 0 0 width
whole_part (Turn width value signed) shift = known_part shift 0 0 width
whole_part Genvar shift = known_part shift 0 0 1
whole_part Unknown shift = known_part shift 0 0 1

-- so many bits from an index on, less `down`: known ones where the index is constant; `at` is what it stands for then
abbrev pub part_at : Meaning → ℕ → ℕ → ℕ → Bool → ℤ → Bool → Sized → SizedTarget
part_at (Signal signal total lsb sign writer) shift width down constant at signed index =
    if constant then known_part shift signal (low_of at (lsb + down)) width
    else Moving (record { shift = shift; signal = signal; total = total; width = width; below = lsb + down; signed = signed }) index
part_at (Constant own value sign) shift width down constant at signed index = known_part shift 0 0 width
part_at (Turn own value sign) shift width down constant at signed index = known_part shift 0 0 width
part_at Genvar shift width down constant at signed index = known_part shift 0 0 width
part_at Unknown shift width down constant at signed index = known_part shift 0 0 width

abbrev pub part_from : Meaning → ℕ → ℤ → ℕ → SizedTarget
part_from (Signal signal total lsb signed writer) shift low width = known_part shift signal (low_of low lsb) width
part_from (Constant own value signed) shift low width = known_part shift 0 0 width
part_from (Turn own value signed) shift low width = known_part shift 0 0 width
part_from Genvar shift low width = known_part shift 0 0 width
part_from Unknown shift low width = known_part shift 0 0 width

-- what such bits are as an operand
abbrev pub read_part : SizedTarget → Sized
read_part (Fixed lane) = s.Part lane.span
read_part (Moving reach index) = s.Pick reach.signal reach.width reach.below reach.signed index

-- how many bits it takes
abbrev pub part_width : SizedTarget → ℕ
part_width (Fixed lane) = lane.span.width
part_width (Moving reach index) = reach.width

-- where known bits end in their signal
abbrev pub part_end : SizedTarget → ℕ
part_end (Fixed lane) = lane.span.low + lane.span.width
part_end (Moving reach index) = 0

-- a name with its select or without
abbrev pub reference_part : Scope → ℕ → Expression → SizedTarget
reference_part scope shift (e.Whole n) = whole_part (scope n.name.0) shift
reference_part scope shift (e.BitSelect n x) = part_at (scope n.name.0) shift 1 0 (is_constant scope x) (integer scope x) (is_signed scope x) (own scope x)
reference_part scope shift (e.PartSelect n x y) = part_from (scope n.name.0) shift (integer scope y) (bits_between (integer scope x) (integer scope y))
reference_part scope shift (e.UpwardSelect n x y) =
    part_at (scope n.name.0) shift (count_of (integer scope y)) 0 (is_constant scope x) (integer scope x) (is_signed scope x) (own scope x)
reference_part scope shift (e.DownwardSelect n x y) =
    part_at (scope n.name.0) shift (count_of (integer scope y)) (count_of (integer scope y) - 1) (is_constant scope x) (integer scope x) (is_signed scope x) (own scope x)
reference_part scope shift other = known_part shift 0 0 1

-- ---- what may be wrong with a name and its select; what is due are its indices: constants left of `assign`

-- a genvar or a parameter is no name of 29 here: it is a target of the wrong kind
abbrev pub target_name_faults : Meaning → Identifier → List Fault
target_name_faults (Signal signal width lsb signed writer) n = []
target_name_faults (Constant width value signed) n = []
target_name_faults (Turn width value signed) n = []
target_name_faults Genvar n = []
target_name_faults Unknown n = fault_at 29 n ∷ []

abbrev pub reference_faults : Scope → Due → Expression → List Fault
reference_faults scope due (e.Whole n) = target_name_faults (scope n.name.0) n
reference_faults scope due (e.BitSelect n x) =
    target_name_faults (scope n.name.0) n ++ (faults scope due x
    ++ run_faults (scope n.name.0) (is_constant scope x) (integer scope x) 1 0 n)
reference_faults scope due (e.PartSelect n x y) =
    target_name_faults (scope n.name.0) n ++ (faults scope ConstantOnly x ++ (faults scope ConstantOnly y
    ++ part_faults (scope n.name.0) (integer scope y) (bits_between (integer scope x) (integer scope y)) n))
reference_faults scope due (e.UpwardSelect n x y) =
    target_name_faults (scope n.name.0) n ++ (faults scope due x ++ (faults scope ConstantOnly y
    ++ (width_faults n y (count_of (integer scope y))
    ++ run_faults (scope n.name.0) (is_constant scope x) (integer scope x) (count_of (integer scope y)) 0 n)))
reference_faults scope due (e.DownwardSelect n x y) =
    target_name_faults (scope n.name.0) n ++ (faults scope due x ++ (faults scope ConstantOnly y
    ++ (width_faults n y (count_of (integer scope y))
    ++ run_faults (scope n.name.0) (is_constant scope x) (integer scope x) (count_of (integer scope y)) (count_of (integer scope y) - 1) n)))
reference_faults scope due other = []
