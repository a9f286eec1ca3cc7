-- The visit of a module: its own checks, its ports and its clock, in this order; what its instances and the designs above see of it.
use Rattle.std.specs.Prelude.{ℕ, List, [], ◌∷◌, drop, Option, Some, None, Result, Ok, Err}
use Rattle.ls_text.specs.declared.fault.Fault.{Fault}
use Rattle.verilog_ast.specs.declared.identifier.Identifier.{Identifier}
use Rattle.verilog_ast.specs.Items.{ModuleDeclaration}
use Rattle.width_rules.specs.Faults.{fault_at}
use Rattle.gen_unroll.specs.Reaches.{reach_in}
use Rattle.gen_unroll.specs.Steps.{GenerateBlock, ModuleStep, blocks_in}
use Rattle.gen_unroll.specs.Unrolled.{unrolled_module}
use Rattle.ls_text.specs.Answers.{◌>>=◌}
use Rattle.gen_unroll.specs.Values.{ConstantValue}
use Rattle.elaborate.specs.Checks.{Checked, checked}
use Rattle.elaborate.specs.Clocks.{with_clock, clock_steps, own_clock}
use Rattle.elaborate.specs.Ports.{PortOutline, port_outlines}
use Rattle.elaborate.specs.Tables.{Table}
use Rattle.module_names.specs.Modules.{header_ports}

-- what a visit finds: the checks, the clock ports of the instances in their order, the blocks that unrolling opens, and the ports
pub record Visited : Type 0 where
  pub checks : Checked
  pub clocks : List (Option ℕ)
  pub blocks : List GenerateBlock
  pub ports : List PortOutline

-- one port more than a top module may have is refused at its name (40)
abbrev pub none_beyond : List Identifier → Result (Unit {0}) Fault
none_beyond [] = Ok tt
none_beyond (p ∷ ps) = Err (fault_at 40 p)

-- the ports of a top, and its clock among them
abbrev pub top_ports : (most : Option ℕ) → (clock : Option ℕ) → (ports : List Identifier) → Table → Result (Unit {0}) Fault
top_ports None clock ports table = Ok tt
top_ports (Some most) clock ports table = none_beyond (drop most ports) >>= λ _. own_clock clock ports table

-- these, and then the clock in the order of the text
abbrev pub clocked : List ModuleDeclaration → ModuleDeclaration → (said : List ModuleStep) → (most clock : Option ℕ) → Table → Result (List (Option ℕ)) Fault
clocked ms m said most clock table =
    top_ports most clock (header_ports m.ports) table >>= λ _. clock_steps ms clock table (with_clock clock (reach_in m)) said []

abbrev pub with_clocks : ModuleDeclaration → (said : List ModuleStep) → Checked → List (Option ℕ) → Visited
with_clocks m said c ks = record { checks = c; clocks = ks; blocks = blocks_in said; ports = port_outlines (header_ports m.ports) c.declared }

-- what is found behind the checks, along these steps
abbrev pub behind_checks : List ModuleDeclaration → ModuleDeclaration → (said : List ModuleStep) → (most clock : Option ℕ) → Checked → Result Visited Fault
behind_checks ms m said most clock c = clocked ms m said most clock c.declared >>= λ ks. Ok (with_clocks m said c ks)

-- a module under the overrides of its parameters and with its clock port, and for a top with its most ports
unfoldable pub visited : (turns : ℕ) → List ModuleDeclaration → (most : Option ℕ) → ModuleDeclaration → List (Option ConstantValue) → (clock : Option ℕ) → Result Visited Fault
visited turns ms most m vs clock =
    checked turns ms m vs >>= λ c. behind_checks ms m (unrolled_module turns vs m).said most clock c
