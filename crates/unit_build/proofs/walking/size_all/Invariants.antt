use Rattle.std.proofs.Common.{◌≡◌, ◌++◌, map, drop}
use Rattle.typed_ir.specs.Items.{item_of}
use Rattle.gen_unroll.specs.Reaches.{IsEven}
use Rattle.gen_unroll.specs.Views.{step_of}
use Rattle.gen_unroll.specs.ModuleViews.{signals_in}
use Rattle.gen_unroll.specs.UnitReaches.{is_settled, writer_of}
use Rattle.statement_rules.specs.Views.{initial_of}
use Rattle.unit_build.specs.Walks.{walk_faults, walk_items, walk_initials}
use Rattle.unit_build.specs.WalkViews.{walk_of}
use Rattle.unit_build.proofs.walking.size_all.Given as goal

-- what there is so far, and what the steps that are left add
abbrev pub invariant-loop-step : goal.invariant-loop-step
invariant-loop-step l = record {
  ahead : walk_faults (writer_of (is_settled l.settled) (signals_in l.signals)) (signals_in l.signals) (walk_of l.walk) (map step_of (drop l.step-index l.steps))
      ≡ walk_faults (writer_of (is_settled l.settled) (signals_in l.signals)) (signals_in l.signals) (walk_of l.initial.walk) (map step_of l.steps);
  sized : map item_of l.list.items.items
      ++ walk_items (writer_of (is_settled l.settled) (signals_in l.signals)) (signals_in l.signals) (walk_of l.walk) (map step_of (drop l.step-index l.steps))
      ≡ map item_of l.initial.list.items.items
      ++ walk_items (writer_of (is_settled l.settled) (signals_in l.signals)) (signals_in l.signals) (walk_of l.initial.walk) (map step_of l.steps);
  begun : map initial_of l.list.initials.items
      ++ walk_initials (writer_of (is_settled l.settled) (signals_in l.signals)) (signals_in l.signals) (walk_of l.walk) (map step_of (drop l.step-index l.steps))
      ≡ map initial_of l.initial.list.initials.items
      ++ walk_initials (writer_of (is_settled l.settled) (signals_in l.signals)) (signals_in l.signals) (walk_of l.initial.walk) (map step_of l.steps);
  even : IsEven (walk_of l.walk).here;
}
