-- The walk goes down the levels that are left.
use Rattle.std.proofs.Common.{◌≡◌, ◌+◌, ◌*◌, map, drop}
use Rattle.module_names.specs.Views.{modules_of}
use Rattle.elaborate.specs.Elaborated.{each_child, child_at, within}
use Rattle.elaborate.specs.Jobs.{Keeps, standing_of}
use Rattle.clock_rules.specs.Views.{clocks_view, id_of}
use Rattle.elaborate.specs.Views.{child_of, visited_of}
use Rattle.elaborate.proofs.elaborating.+visit.Given as goal

abbrev pub decreases-instance : goal.decreases-instance
decreases-instance l = 3 * l.left

abbrev pub decreases-within : goal.decreases-within
decreases-within l = 3 * l.left + 1

abbrev pub decreases-of_module : goal.decreases-of_module
decreases-of_module l = 3 * l.left + 2

abbrev pub invariant-within-loop-child : goal.invariant-within-loop-child
invariant-within-loop-child l = record {
  left : each_child (child_at l.initial.t.limits (modules_of l.modules) l.left (map id_of l.initial.t.path.items) l.above) (map child_of (drop l.child-index l.visited.checks.children.items)) (clocks_view l.clocks) (map standing_of l.t.all.items)
      ≡ within (child_at l.initial.t.limits (modules_of l.modules) l.left (map id_of l.initial.t.path.items) l.above) (visited_of l.visited) (map standing_of l.initial.t.all.items);
  kept : Keeps (modules_of l.modules) l.initial.t l.t;
}
