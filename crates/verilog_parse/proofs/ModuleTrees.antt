-- The rules by which an item of a generate block or a module stands for tokens.
use Rattle.verilog_parse.specs.Generates as g
use Rattle.verilog_parse.specs.Modules as m

pub ruleset generate_trees = (g.no_item, g.another_item, g.loop_item, g.if_item, g.plain_item, g.generate_loop, g.loop_head, g.block, g.branch, g.otherwise, g.branches_behind, g.no_branch, g.another_branch, g.last_branch)

pub ruleset module_trees = (m.module_, m.no_item, m.another_item, m.input_item, m.output_item, m.parameter_item, m.region, m.other_item)
