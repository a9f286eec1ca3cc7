use Rattle.std.proofs.Common.{◌∙◌, map}
use Rattle.width_rules.specs.Entries.{scope_of}
use Rattle.gen_unroll.specs.SignalViews.{signal_of}
use Rattle.gen_unroll.specs.UnitReaches.{is_settled, writer_of}
use Rattle.gen_unroll.proofs.Entered.{own_next}
use Rattle.gen_unroll.proofs.entering.enter_outermost.Goals as goal

pub loop-k-preserved : goal.loop-k-preserved
loop-k-preserved c = record {
  names = own_next (writer_of (is_settled c.args.settled.now) (map signal_of c.args.signals.now)) c.args.signals.now c.loop-k.k c.index-signals-k.result
      (scope_of c.loop-k.scope) (scope_of c.enter_if_own.new.scope) c.loop-k-test.true c.index-signals-k.is c.in_ok-enter_if_own.ensures.names
      ∙ c.loop-k.invariant.names;
  kept = c.in_ok-enter_if_own.ensures.around ∙ c.loop-k.invariant.kept;
}
