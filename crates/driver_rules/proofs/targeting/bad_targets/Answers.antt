use Rattle.std.proofs.Common.{◌∙◌, not, ap}
use Rattle.driver_rules.specs.Targets.{flag_at, may_write}
use Rattle.driver_rules.proofs.Lists.{place_next}
use Rattle.driver_rules.proofs.targeting.bad_targets.Goals as goal

pub loop-k-preserved : goal.loop-k-preserved
loop-k-preserved c =
    place_next (λ s. not (may_write c.args.declarations.now (flag_at c.args.settled.now) c.args.writer s)) c.args.signals.now c.loop-k.k c.index-signals-k.result
    (not c.may_write-fault.result) c.loop-k.bad.items c.note_if.new.found.items
    c.loop-k-test.true c.index-signals-k.is (ap not c.may_write-fault.ensures) c.in_ok-note_if.ensures
    ∙ c.loop-k.invariant
