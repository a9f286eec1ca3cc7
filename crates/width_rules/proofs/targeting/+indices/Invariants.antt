-- The walk goes down the depth of a target.
use Rattle.std.proofs.Common.{◌+◌, ◌*◌, map, drop}
use Rattle.verilog_ast.specs.Views.{target_of, targets_of}
use Rattle.width_rules.specs.Entries.{scope_of}
use Rattle.width_rules.specs.Adding.{NamesLeft}
use Rattle.width_rules.specs.Names.{index_names}
use Rattle.width_rules.proofs.targeting.+indices.Given as goal

abbrev pub decreases-read_indices : goal.decreases-read_indices
decreases-read_indices l = 2 * goal.size-read_indices l

abbrev pub decreases-read_all : goal.decreases-read_all
decreases-read_all l = 2 * goal.size-read_all l + 1

abbrev pub invariant-read_all-loop-target : goal.invariant-read_all-loop-target
invariant-read_all-loop-target l =
    NamesLeft l.initial.list.items l.list.items l.from l.next (index_names (scope_of l.scope) (targets_of (map target_of l.targets)))
    (index_names (scope_of l.scope) (targets_of (map target_of (drop l.target-index l.targets))))
