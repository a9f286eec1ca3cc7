use Rattle.std.proofs.Common.{◌≡◌, map, drop}
use Rattle.width_rules.specs.Entries.{scope_of, around}
use Rattle.gen_unroll.specs.SignalViews.{signal_of, numbered_of}
use Rattle.gen_unroll.specs.UnitReaches.{all_signals, is_settled, writer_of}
use Rattle.gen_unroll.proofs.entering.enter_all.Given as goal

abbrev pub invariant-loop-one : goal.invariant-loop-one
invariant-loop-one l = record {
  names : all_signals (writer_of (is_settled l.settled) (map signal_of l.signals)) (map numbered_of (drop l.one-index l.all)) (scope_of l.scope)
      ≡ all_signals (writer_of (is_settled l.settled) (map signal_of l.signals)) (map numbered_of l.all) (scope_of l.initial.scope);
  kept : around l.scope ≡ around l.initial.scope;
}
