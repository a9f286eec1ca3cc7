use Rattle.std.proofs.Common.{◌||◌, refl}
use Rattle.typed_ir.specs.Valuations.{within, any_within}
use Rattle.block_rules.specs.Tables.{bits_of}
use Rattle.block_rules.proofs.Leading.{leads_none, learn_next, learn_done}
use Rattle.block_rules.proofs.learning.learn_spans.Goals as goal

pub loop-span-init : goal.loop-span-init
loop-span-init c =
    leads_none c.args.table.now c.args.learned.now.items (λ s i. bits_of c.args.table.now s i || any_within c.args.spans.now s i)
    (λ s i. bits_of c.args.table.now s i || any_within c.args.spans.now s i) (λ s i here small. refl)

pub loop-span-preserved : goal.loop-span-preserved
loop-span-preserved c =
    learn_next any_within within c.args.spans.now c.loop-span.span-index c.span-item.result c.args.table.now c.loop-span.table c.learn_span.new.table
    c.args.learned.now.items c.loop-span.learned.items c.learn_span.new.learned.items
    (λ s i. bits_of c.args.table.now s i || any_within c.args.spans.now s i)
    c.loop-span-test.true c.span-item.is (λ ys s i. refl) c.loop-span.invariant c.in_ok-learn_span.ensures

pub returns : goal.returns
returns c =
    learn_done any_within c.args.spans.now c.loop-span.span-index c.args.table.now c.loop-span.table c.args.learned.now.items c.loop-span.learned.items
    (λ s i. bits_of c.args.table.now s i || any_within c.args.spans.now s i) c.loop-span-test.false (λ s i. refl) c.loop-span.invariant
