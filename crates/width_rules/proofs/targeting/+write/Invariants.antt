-- The walk goes down the depth of a target.
use Rattle.std.proofs.Common.{◌+◌, ◌*◌, map, drop}
use Rattle.verilog_ast.specs.Views.{target_of, targets_of}
use Rattle.width_rules.specs.Adding.{NamesLeft}
use Rattle.width_rules.specs.Names.{target_names}
use Rattle.width_rules.proofs.targeting.+write.Given as goal

abbrev pub decreases-write : goal.decreases-write
decreases-write l = 2 * goal.size-write l

abbrev pub decreases-write_all : goal.decreases-write_all
decreases-write_all l = 2 * goal.size-write_all l + 1

abbrev pub invariant-write_all-loop-target : goal.invariant-write_all-loop-target
invariant-write_all-loop-target l =
    NamesLeft l.initial.list.items l.list.items l.from l.next (target_names (targets_of (map target_of l.targets)))
    (target_names (targets_of (map target_of (drop l.target-index l.targets))))
