use Rattle.std.proofs.Common.{◌≡◌, ◌<◌, ◌++◌, [], length, map, drop}
use Rattle.typed_ir.specs.Statements.{item_of}
use Rattle.design_steps.specs.Statements.{tests}
use Rattle.design_steps.specs.Views.{plan_of}
use Rattle.design_steps.proofs.matching.lay_tests.Given as goal

abbrev pub invariant-items : goal.invariant-items
invariant-items l = record {
  none : l.first.items ≡ [];
  within : l.left < length l.items;
  start : l.before ≡ length l.fn.steps.items;
  behind : l.steps.items ≡ tests (plan_of l.layout) (map item_of (drop l.left l.items)) l.here l.mark l.past ++ l.fn.steps.items;
}

abbrev pub decreases-items : goal.decreases-items
decreases-items l = l.left
