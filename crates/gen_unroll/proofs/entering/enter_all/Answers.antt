use Rattle.std.proofs.Common.{◌∙◌, map}
use Rattle.width_rules.specs.Entries.{scope_of}
use Rattle.gen_unroll.specs.SignalViews.{signal_of}
use Rattle.gen_unroll.specs.UnitReaches.{is_settled, writer_of}
use Rattle.gen_unroll.proofs.Entered.{entered_next}
use Rattle.gen_unroll.proofs.entering.enter_all.Goals as goal

pub loop-one-preserved : goal.loop-one-preserved
loop-one-preserved c = record {
  names = entered_next (writer_of (is_settled c.args.settled.now) (map signal_of c.args.signals.now)) c.args.all.now c.loop-one.one-index c.one-item.result
      (scope_of c.loop-one.scope) (scope_of c.enter.new.scope) c.loop-one-test.true c.one-item.is c.in_ok-enter.ensures.names
      ∙ c.loop-one.invariant.names;
  kept = c.in_ok-enter.ensures.around ∙ c.loop-one.invariant.kept;
}
