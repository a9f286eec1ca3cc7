-- The clock of a module among its names and in its steps: its port, where it may stand, and which ports of its instances it reaches.
use Rattle.std.specs.Prelude.{ℕ, Bool, false, ◌&&◌, ◌==◌, if◌then◌else◌, List, [], ◌∷◌, Option, Some, None, Result, Ok, Err}
use Rattle.ls_text.specs.declared.fault.Fault.{Fault}
use Rattle.verilog_ast.specs.declared.identifier.Identifier.{Identifier}
use Rattle.verilog_ast.specs.Declarations.{PortDeclaration}
use Rattle.verilog_ast.specs.Items.{ModuleDeclaration}
use Rattle.width_rules.specs.Faults.{fault_at}
use Rattle.width_rules.specs.Scopes.{Scope, with_name}
use Rattle.gen_unroll.specs.Declarations.{declared_width}
use Rattle.gen_unroll.specs.Reaches.{Reach, in_reach}
use Rattle.gen_unroll.specs.Steps.{ModuleStep, Listed, Port, Item}
use Rattle.ls_text.specs.Answers.{◌>>=◌}
use Rattle.ls_text.specs.Options.{guard}
use Rattle.module_names.specs.Listings.{is_listed}
use Rattle.module_names.specs.Modules.{port_name, header_ports}
use Rattle.clock_rules.specs.Clocks.{clock_net, all_free, port_free, unless_misused, clock_item}
use Rattle.elaborate.specs.Tables.{Declaration, Table, is_input, declared_as}

-- ---- the clock among the names in reach

abbrev pub with_clock : Option ℕ → Reach → Reach
with_clock None here = here
with_clock (Some name) here = record here { scope = with_name name clock_net here.scope }

-- ---- the clock port of a module itself: an input of one bit (37 at its name in the header)

abbrev pub is_one_bit_input : Option Declaration → Bool
is_one_bit_input None = false
is_one_bit_input (Some d) = is_input d.kind && (declared_width d.range == 1)

abbrev pub may_be_clock : Table → Identifier → Bool
may_be_clock table p = is_one_bit_input (declared_as (record { block = None; name = p.name.0 }) table)

-- a port of the header, which may be the clock port
abbrev pub own_port : (clock : Option ℕ) → Table → Identifier → Result (Unit {0}) Fault
own_port None table p = Ok tt
own_port (Some name) table p = if name == p.name.0 then (if may_be_clock table p then Ok tt else Err (fault_at 37 p)) else Ok tt

abbrev pub own_clock : (clock : Option ℕ) → (ports : List Identifier) → Table → Result (Unit {0}) Fault
own_clock clock ports table = all_free (own_port clock table) ports

-- a port that the header declares: its name, and then its initial value
abbrev pub declared_port : (clock : Option ℕ) → Table → Scope → PortDeclaration → Result (Unit {0}) Fault
declared_port clock table scope p = own_port clock table (port_name p) >>= λ _. port_free scope p

-- ---- steps, with the clock ports of the instances so far

abbrev pub clock_step : List ModuleDeclaration → (clock : Option ℕ) → Table → Scope → ModuleStep → List (Option ℕ) → Result (List (Option ℕ)) Fault
clock_step ms clock table scope (Listed n) ks = unless_misused (own_port clock table n) ks
clock_step ms clock table scope (Port p) ks = unless_misused (declared_port clock table scope p) ks
clock_step ms clock table scope (Item x) ks = clock_item ms scope x ks
clock_step ms clock table scope other ks = Ok ks

abbrev pub clock_steps : List ModuleDeclaration → (clock : Option ℕ) → Table → Reach → List ModuleStep → List (Option ℕ) → Result (List (Option ℕ)) Fault
clock_steps ms clock table here [] ks = Ok ks
clock_steps ms clock table here (s ∷ ss) ks = clock_step ms clock table here.scope s ks >>= λ more. clock_steps ms clock table (in_reach s here) ss more

-- the clock of a top module is its port of this name; without one there is no clock
abbrev pub top_clock : (clock : ℕ) → ModuleDeclaration → Option ℕ
top_clock clock m = guard (is_listed clock (header_ports m.ports)) clock
