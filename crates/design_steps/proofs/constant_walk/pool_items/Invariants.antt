use Rattle.std.proofs.Common.{◌≤◌, map, drop, length}
use Rattle.typed_ir.specs.Statements.{item_of}
use Rattle.design_steps.specs.Statements.{item_constants}
use Rattle.design_steps.specs.Pooled.{Holds}
use Rattle.design_steps.proofs.constant_walk.pool_items.Given as goal

abbrev pub invariant-items : goal.invariant-items
invariant-items l = record {
  within : l.left ≤ length l.items;
  holds : Holds l.fn.pool.keys l.pool.keys (item_constants (map item_of (drop l.left l.items)));
}

abbrev pub decreases-items : goal.decreases-items
decreases-items l = l.left
