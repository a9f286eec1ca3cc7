-- Ranges of declarations, what the declaration of a parameter makes of its value, and which names a block declares (IEEE Std
-- 1364-2005, 3.3.1, 4.3, 4.10.1, 4.10.2 and 12.2).
use Rattle.std.specs.Prelude.{ℕ, ◌^◌, ◌==◌, nat_lt, Bool, false, ◌&&◌, ◌||◌, not, List, [], ◌∷◌, ◌++◌, map, Option, Some, None, Result, Ok, ℤ, pos, negsuc}
use Rattle.ls_text.specs.declared.fault.Fault.{Fault}
use Rattle.bits.specs.Values.{resized}
use Rattle.verilog_ast.specs.declared.identifier.Identifier.{Identifier}
use Rattle.verilog_ast.specs.Declarations.{RangeBounds, Kind, Declared, DeclaredReg, PortDeclaration, InputPort, OutputPort, NextPort, PortList, NoPorts, NamedPorts, DeclaredPorts}
use Rattle.verilog_ast.specs.Items as i
use Rattle.verilog_ast.specs.Items.{ModuleItem, ModuleInstance}
use Rattle.width_rules.specs.declared.due.Due.TheVariants.{ConstantOnly}
use Rattle.width_rules.specs.declared.writer.Writer.TheVariants as writer
use Rattle.width_rules.specs.Constants.{integer}
use Rattle.width_rules.specs.Faults.{faults, fault_if, fault_of}
use Rattle.width_rules.specs.Scopes.{Meaning, Signal, Constant, Genvar, Unknown, Scope, with_name}
use Rattle.width_rules.specs.Sizes.{bits_between}
use Rattle.ls_text.specs.Answers.{◌>>=◌}
use Rattle.gen_unroll.specs.Values.{ConstantValue, unless}

-- ---- ranges (3.3.1, 4.3.1)

-- a bound of a range lies from 0 to 2 ^ 31 - 1
abbrev pub is_bound : ℤ → Bool
is_bound (pos n) = nat_lt n (2 ^ 31)
is_bound (negsuc n) = false

abbrev pub lower_bound : ℤ → ℕ
lower_bound (pos n) = n
lower_bound (negsuc n) = 0

-- the high bound first, which isn't below the low one
abbrev pub is_range : ℤ → ℤ → Bool
is_range high low = is_bound high && (is_bound low && not (bits_between high low == 0))

-- the faults of both bounds, a bound that is none or a high one below the low one (26), and more than 128 bits (31)
unfoldable pub range_faults : Scope → RangeBounds → List Fault
range_faults scope r =
    faults scope ConstantOnly r.high ++ (faults scope ConstantOnly r.low
    ++ (fault_if (not (is_range (integer scope r.high) (integer scope r.low))) (fault_of 26 r.high)
    ++ fault_if (nat_lt 128 (bits_between (integer scope r.high) (integer scope r.low))) (fault_of 31 r.high)))

-- how many bits a range has, and its low bound
pub record BitRange : Type 0 where
  pub width : ℕ
  pub low : ℕ

-- how many bits a declaration with this range has: one without a range
abbrev pub declared_width : Option BitRange → ℕ
declared_width None = 1
declared_width (Some r) = r.width

unfoldable pub range_value : Scope → RangeBounds → Result BitRange Fault
range_value scope r =
    unless (range_faults scope r)
    (record { width = bits_between (integer scope r.high) (integer scope r.low); low = lower_bound (integer scope r.low) })

-- the range of a declaration, if it has one
abbrev pub range_of : Scope → RangeBounds → Result (Option BitRange) Fault
range_of scope r = range_value scope r >>= λ b. Ok (Some b)

abbrev pub range_or_none : Scope → Option RangeBounds → Result (Option BitRange) Fault
range_or_none scope None = Ok None
range_or_none scope (Some r) = range_of scope r

-- ---- parameters (4.10.1)

-- the width that a declaration gives, none without a range, and whether it has `signed`
pub record ParameterType : Type 0 where
  pub width : Option ℕ
  pub signed : Bool

abbrev pub typed_by : Scope → Bool → Option RangeBounds → Result ParameterType Fault
typed_by scope signed None = Ok (record { width = None; signed = signed })
typed_by scope signed (Some r) = range_value scope r >>= λ b. Ok (record { width = Some b.width; signed = signed })

abbrev pub parameter_type : Scope → Kind → Result ParameterType Fault
parameter_type scope k = typed_by scope k.signed k.range

-- with a range the value is resized, by its own sign; `signed` alone keeps its width; without both it is as it is (4.10.1)
abbrev pub made : Option ℕ → Bool → ConstantValue → ConstantValue
made (Some width) signed v = record { width = width; value = resized v.width v.value width v.signed; signed = signed }
made None signed v = record { width = v.width; value = v.value; signed = signed || v.signed }

abbrev pub as_declared : ParameterType → ConstantValue → ConstantValue
as_declared t v = made t.width t.signed v

-- ---- names in reach

-- one more name, which hides an outer one
abbrev pub declared : Scope → Identifier → Meaning → Scope
declared scope n m = with_name n.name.0 m scope

-- from here on a name stands for a constant
abbrev pub valued : Scope → Identifier → ConstantValue → Scope
valued scope n v = declared scope n (Constant v.width v.value v.signed)

abbrev pub all_declared : Meaning → List Identifier → Scope → Scope
all_declared m [] scope = scope
all_declared m (n ∷ ns) scope = all_declared m ns (declared scope n m)

-- a net or variable; unrolling asks for no bit of it
abbrev pub net : Meaning
net = Signal 0 1 0 false writer.Nothing

abbrev pub declared_name : Declared → Identifier
declared_name x = x.name

abbrev pub declared_reg_name : DeclaredReg → Identifier
declared_reg_name x = x.name

abbrev pub instance_name : ModuleInstance → Identifier
instance_name x = x.name

-- the names that stand among the items of a block themselves, known in all of it; labels and parameters come where they stand
abbrev pub item_names : ModuleItem → Scope → Scope
item_names (i.Inputs at n k names) scope = all_declared net names scope
item_names (i.Outputs at n k ports) scope = all_declared net (map declared_name ports) scope
item_names (i.Wires at k nets) scope = all_declared net (map declared_name nets) scope
item_names (i.Regs at k regs) scope = all_declared net (map declared_reg_name regs) scope
item_names (i.Genvars at names) scope = all_declared Genvar names scope
item_names (i.Instances n overrides instances) scope = all_declared Unknown (map instance_name instances) scope
item_names (i.Region at items) scope = item_names items scope
item_names (i.Items x xs) scope = item_names xs (item_names x scope)
item_names other scope = scope

abbrev pub port_name : PortDeclaration → Identifier
port_name (InputPort at n k name) = name
port_name (OutputPort at n k x) = x.name
port_name (NextPort x) = x.name

-- a header that lists names declares none
abbrev pub port_names : PortList → Scope → Scope
port_names NoPorts scope = scope
port_names (NamedPorts names) scope = scope
port_names (DeclaredPorts ports) scope = all_declared net (map port_name ports) scope
