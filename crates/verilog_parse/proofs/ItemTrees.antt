-- The rules by which an item without a generate construct stands for tokens.
use Rattle.verilog_parse.specs.Items.{wire_item, reg_item, local_item, genvar_item, assign_item, always_item, instances_item, at_all, at_bracket, at_inputs, at_edge, edge_end, assignments, assignments_behind, no_assignment, another_assignment, continuous}

pub ruleset item_trees = (wire_item, reg_item, local_item, genvar_item, assign_item, always_item, instances_item, at_all, at_bracket, at_inputs, at_edge, edge_end, assignments, assignments_behind, no_assignment, another_assignment, continuous)
