-- The rules by which a declaration or a connection stands for tokens.
use Rattle.verilog_decl.specs.Declarations.{shape, not_signed, is_signed, no_range, a_range, no_wire, a_wire, no_net, net_wire, net_reg, names, names_behind, no_name, another_name, variable, no_value, a_value, variables, variables_behind, no_variable, another_variable, reg_variable, reg_variables, reg_variables_behind, no_reg_variable, another_reg_variable, parameter, parameters, parameters_behind, no_parameter, another_parameter, no_override, an_override, instances, instances_behind, no_instance, another_instance, instance_, by_name, by_order, named, named_behind, no_named, another_named, ordered, ordered_behind, no_ordered, another_ordered, no_expression, an_expression}

pub ruleset declaration_trees = (shape, not_signed, is_signed, no_range, a_range, no_wire, a_wire, no_net, net_wire, net_reg, names, names_behind, no_name, another_name, variable, no_value, a_value, variables, variables_behind, no_variable, another_variable, reg_variable, reg_variables, reg_variables_behind, no_reg_variable, another_reg_variable, parameter, parameters, parameters_behind, no_parameter, another_parameter, no_override, an_override, instances, instances_behind, no_instance, another_instance, instance_, by_name, by_order, named, named_behind, no_named, another_named, ordered, ordered_behind, no_ordered, another_ordered, no_expression, an_expression)
