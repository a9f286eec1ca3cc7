-- Trees in which parameters and ports are declared outside of generate blocks alone (IEEE Std 1364-2005, 12.4): those that the code can have.
use Rattle.std.specs.Prelude.{Bool, true, false, ◌&&◌}
use Rattle.verilog_ast.specs.Items as i
use Rattle.verilog_ast.specs.Items.{ModuleItem, ModuleDeclaration}

-- what may stand in a generate block: no declaration of ports or of parameters that can be overridden
abbrev pub may_stand_in_block : ModuleItem → Bool
may_stand_in_block (i.Inputs at net k names) = false
may_stand_in_block (i.Outputs at net k ports) = false
may_stand_in_block (i.Parameters at k ps) = false
may_stand_in_block (i.Region at items) = may_stand_in_block items
may_stand_in_block (i.Loop at h label items) = may_stand_in_block items
may_stand_in_block (i.Conditional branches) = may_stand_in_block branches
may_stand_in_block (i.Branch at c label items) = may_stand_in_block items
may_stand_in_block (i.Items x xs) = may_stand_in_block x && may_stand_in_block xs
may_stand_in_block other = true

-- what may stand in a module itself
abbrev pub may_stand_outside : ModuleItem → Bool
may_stand_outside (i.Region at items) = may_stand_outside items
may_stand_outside (i.Loop at h label items) = may_stand_in_block items
may_stand_outside (i.Conditional branches) = may_stand_in_block branches
may_stand_outside (i.Branch at c label items) = may_stand_in_block items
may_stand_outside (i.Items x xs) = may_stand_outside x && may_stand_outside xs
may_stand_outside other = true

abbrev pub has_outer_ports_alone : ModuleDeclaration → Bool
has_outer_ports_alone m = may_stand_outside m.items
