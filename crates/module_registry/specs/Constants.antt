-- The names of a module's parameters and localparams outside of its generate blocks (IEEE Std 1364-2005, 4.10).
use Rattle.std.specs.Prelude.{List, [], ◌++◌, map}
use Rattle.verilog_ast.specs.declared.identifier.Identifier.{Identifier}
use Rattle.verilog_ast.specs.Declarations.{assigned_name, header_parameter_name}
use Rattle.verilog_ast.specs.Items as i
use Rattle.verilog_ast.specs.Items.{ModuleItem, ModuleDeclaration}

-- what stands between `generate` and `endgenerate` stands in no generate block
abbrev pub item_constants : ModuleItem → List Identifier
item_constants (i.Items x xs) = item_constants x ++ item_constants xs
item_constants (i.Region at xs) = item_constants xs
item_constants (i.Parameters at k ps) = map assigned_name ps
item_constants (i.LocalParameters at k ps) = map assigned_name ps
item_constants other = []

-- those of the header, and then those of the items, in the order of the text
abbrev pub constants_of : ModuleDeclaration → List Identifier
constants_of m = map header_parameter_name m.parameters ++ item_constants m.items
