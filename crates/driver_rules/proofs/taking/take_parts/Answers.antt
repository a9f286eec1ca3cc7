use Rattle.std.proofs.Common.{◌≡◌, ◌<◌, ℕ, length, subst, sym}
use Rattle.typed_ir.specs.declared.span.Span.{Span}
use Rattle.driver_rules.proofs.Doubles.{each_read, grows_none, grows_next, grows_all}
use Rattle.driver_rules.proofs.taking.take_parts.Goals as goal

pub loop-span-init : goal.loop-span-init
loop-span-init c = grows_none c.args.by.now c.args.taken.now c.args.drivers.now.items

pub take_part-requires : goal.take_part-requires
take_part-requires c =
    subst (λ (n : ℕ). c.span-item.result.signal < n) (sym c.loop-span.auto.taken)
    (each_read (λ (p : Span). p.signal < length c.args.taken.now) c.args.spans.now c.loop-span.span-index c.span-item.result c.requires c.loop-span-test.true c.span-item.is)

pub loop-span-preserved : goal.loop-span-preserved
loop-span-preserved c =
    grows_next c.args.by.now c.args.taken.now c.loop-span.taken c.take_part.new.taken c.args.drivers.now.items c.loop-span.drivers.items c.take_part.new.drivers.items
    c.args.spans.now c.loop-span.span-index c.span-item.result c.loop-span-test.true c.span-item.is c.loop-span.invariant c.in_ok-take_part.ensures

pub returns : goal.returns
returns c =
    grows_all c.args.by.now c.args.taken.now c.loop-span.taken c.args.drivers.now.items c.loop-span.drivers.items
    c.args.spans.now c.loop-span.span-index c.loop-span-test.false c.loop-span.invariant
