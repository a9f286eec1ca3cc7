use Rattle.std.proofs.Common.{◌≡◌, map, drop}
use Rattle.gen_unroll.specs.Reaches.{IsEven}
use Rattle.gen_unroll.specs.ReachViews.{reach_of}
use Rattle.gen_unroll.specs.Views.{step_of}
use Rattle.gen_unroll.specs.Signals.{declared_in}
use Rattle.gen_unroll.specs.TableViews.{signals_of, IsPlaced}
use Rattle.gen_unroll.proofs.stepping.declare_steps.Given as goal

abbrev pub invariant-loop-step : goal.invariant-loop-step
invariant-loop-step l = record {
  left : declared_in (reach_of l.here) (map step_of (drop l.step-index l.steps)) (signals_of l.table)
      ≡ declared_in (reach_of l.initial.here) (map step_of l.steps) (signals_of l.initial.table);
  placed : IsPlaced l.table;
  even : IsEven (reach_of l.here);
}
