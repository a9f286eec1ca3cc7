use Rattle.std.proofs.Common.{◌≡◌, [], map, drop}
use Rattle.gen_unroll.specs.Reaches.{IsEven}
use Rattle.gen_unroll.specs.Views.{step_of}
use Rattle.gen_unroll.specs.ModuleViews.{signals_in}
use Rattle.gen_unroll.specs.UnitReaches.{is_settled, writer_of}
use Rattle.gen_unroll.specs.UnitReachViews.{unit_reach_of}
use Rattle.unit_build.specs.Settled.{flag_steps}
use Rattle.unit_build.proofs.settling.flag_steps.Given as goal

abbrev pub invariant-loop-step : goal.invariant-loop-step
invariant-loop-step l = record {
  left : flag_steps (writer_of (is_settled []) (signals_in l.signals)) (signals_in l.signals) (unit_reach_of l.here) (map step_of (drop l.step-index l.steps)) l.flags.items
      ≡ flag_steps (writer_of (is_settled []) (signals_in l.signals)) (signals_in l.signals) (unit_reach_of l.initial.here) (map step_of l.steps) l.initial.flags.items;
  even : IsEven (unit_reach_of l.here);
}
