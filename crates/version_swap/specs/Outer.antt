-- What stands outside of generate blocks, among the steps of a module (IEEE Std 1364-2005, 12.4).
use Rattle.std.specs.Prelude.{ℕ, zero, suc, ◌-◌, ◌==◌, Bool, true, ◌&&◌, List, [], ◌∷◌, ◌++◌}
use Rattle.verilog_ast.specs.Items as i
use Rattle.verilog_ast.specs.Items.{ModuleItem}
use Rattle.gen_unroll.specs.Values.{ConstantValue}
use Rattle.gen_unroll.specs.Steps.{ModuleStep, Port, Parameter, Item, Opened, Closed}

-- a value, where no block is open
abbrev pub outer_value : (blocks : ℕ) → ConstantValue → List ConstantValue
outer_value zero v = v ∷ []
outer_value (suc blocks) v = []

-- the values of parameters and localparams outside of generate blocks, among steps within so many blocks
abbrev pub outer_values : (blocks : ℕ) → List ModuleStep → List ConstantValue
outer_values blocks [] = []
outer_values blocks (Parameter s n v ∷ steps) = outer_value blocks v ++ outer_values blocks steps
outer_values blocks (Opened b items ∷ steps) = outer_values (suc blocks) steps
outer_values blocks (Closed ∷ steps) = outer_values (blocks - 1) steps
outer_values blocks (other ∷ steps) = outer_values blocks steps

-- ports are declared where no block is open, all else stands anywhere
abbrev pub is_item_outside : (blocks : ℕ) → ModuleItem → Bool
is_item_outside blocks (i.Inputs at net k names) = blocks == 0
is_item_outside blocks (i.Outputs at net k ports) = blocks == 0
is_item_outside blocks other = true

-- whether ports are declared outside of generate blocks alone (12.4)
abbrev pub are_ports_outside : (blocks : ℕ) → List ModuleStep → Bool
are_ports_outside blocks [] = true
are_ports_outside blocks (Port p ∷ steps) = (blocks == 0) && are_ports_outside blocks steps
are_ports_outside blocks (Item x ∷ steps) = is_item_outside blocks x && are_ports_outside blocks steps
are_ports_outside blocks (Opened b items ∷ steps) = are_ports_outside (suc blocks) steps
are_ports_outside blocks (Closed ∷ steps) = are_ports_outside (blocks - 1) steps
are_ports_outside blocks (other ∷ steps) = are_ports_outside blocks steps
