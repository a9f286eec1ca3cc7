use Rattle.std.proofs.Common.{◌<◌, ◌∙◌, length}
use Rattle.typed_ir.specs.declared.span.Span.{Span}
use Rattle.driver_rules.specs.Doubles.{meets}
use Rattle.driver_rules.specs.Told.{marked}
use Rattle.driver_rules.proofs.Lists.{place_next}
use Rattle.driver_rules.proofs.Doubles.{each_read}
use Rattle.driver_rules.proofs.taking.met.Goals as goal

pub meets-fault-requires : goal.meets-fault-requires
meets-fault-requires c =
    each_read (λ (p : Span). p.signal < length c.args.taken.now) c.args.spans.now c.loop-k.k c.index-spans-k.result c.requires c.loop-k-test.true c.index-spans-k.is

pub loop-k-preserved : goal.loop-k-preserved
loop-k-preserved c =
    place_next (meets (marked c.args.taken.now)) c.args.spans.now c.loop-k.k c.index-spans-k.result
    c.meets-fault.result c.loop-k.bad.items c.note_if.new.found.items
    c.loop-k-test.true c.index-spans-k.is c.meets-fault.ensures c.in_ok-note_if.ensures
    ∙ c.loop-k.invariant
