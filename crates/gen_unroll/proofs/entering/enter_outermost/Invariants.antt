use Rattle.std.proofs.Common.{◌≡◌, map, drop}
use Rattle.std.specs.Prelude.{None}
use Rattle.width_rules.specs.Entries.{scope_of, around}
use Rattle.gen_unroll.specs.Numbers.{in_block_from}
use Rattle.gen_unroll.specs.SignalViews.{signal_of}
use Rattle.gen_unroll.specs.UnitReaches.{all_signals, is_settled, writer_of}
use Rattle.gen_unroll.proofs.entering.enter_outermost.Given as goal

abbrev pub invariant-loop-k : goal.invariant-loop-k
invariant-loop-k l = record {
  names : all_signals (writer_of (is_settled l.settled) (map signal_of l.signals)) (in_block_from l.k None (map signal_of (drop l.k l.signals))) (scope_of l.scope)
      ≡ all_signals (writer_of (is_settled l.settled) (map signal_of l.signals)) (in_block_from 0 None (map signal_of l.signals)) (scope_of l.initial.scope);
  kept : around l.scope ≡ around l.initial.scope;
}
