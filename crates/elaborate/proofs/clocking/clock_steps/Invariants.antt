use Rattle.std.proofs.Common.{◌≡◌, map, drop}
use Rattle.gen_unroll.specs.Reaches.{IsEven}
use Rattle.gen_unroll.specs.ReachViews.{reach_of}
use Rattle.gen_unroll.specs.Views.{step_of}
use Rattle.elaborate.specs.Clocks.{clock_steps}
use Rattle.clock_rules.specs.Views.{clock_view, clocks_view}
use Rattle.elaborate.specs.Views.{table_of}
use Rattle.module_names.specs.Views.{modules_of}
use Rattle.elaborate.proofs.clocking.clock_steps.Given as goal

abbrev pub invariant-loop-step : goal.invariant-loop-step
invariant-loop-step l =
    record {
      left : clock_steps (modules_of l.modules) (clock_view l.clock) (table_of l.table) (reach_of l.here) (map step_of (drop l.step-index l.steps)) (clocks_view l.clocks.items)
          ≡ clock_steps (modules_of l.modules) (clock_view l.clock) (table_of l.table) (reach_of l.initial.here) (map step_of l.steps) (clocks_view l.initial.clocks.items);
      even : IsEven (reach_of l.here);
    }
