use Rattle.std.proofs.Common.{◌≡◌, map, drop}
use Rattle.gen_unroll.specs.Reaches.{IsEven}
use Rattle.gen_unroll.specs.ReachViews.{reach_of}
use Rattle.gen_unroll.specs.Views.{step_of}
use Rattle.elaborate.specs.Checks.{check_steps}
use Rattle.elaborate.specs.Views.{checked_of}
use Rattle.module_names.specs.Views.{modules_of}
use Rattle.elaborate.proofs.checks.check_steps.Given as goal

abbrev pub invariant-loop-step : goal.invariant-loop-step
invariant-loop-step l =
    record {
      left : check_steps (modules_of l.modules) (reach_of l.here) (map step_of (drop l.step-index l.steps)) (checked_of l.check)
          ≡ check_steps (modules_of l.modules) (reach_of l.initial.here) (map step_of l.steps) (checked_of l.initial.check);
      even : IsEven (reach_of l.here);
    }
