use Rattle.std.proofs.Common.{◌&&◌, ◌||◌, ◌==◌, ap}
use Rattle.std.proofs.lemmas.Result.{IfOk-weaker}
use Rattle.typed_ir.specs.Valuations.{within}
use Rattle.typed_ir.specs.Touches.{has_bit}
use Rattle.block_rules.specs.Tables.{bits_of, Leads}
use Rattle.block_rules.proofs.Leading.{leads_as}
use Rattle.block_rules.proofs.learning.learn_span.Goals as goal

pub returns : goal.returns
returns c =
    let span = c.args.span in
    let before = c.args.table.now in
    let after = c.learn.new.table in
    let old = c.args.learned.now.items in
    let new = c.learn.new.learned.items in
    IfOk-weaker c.learn.result
    (λ _. Leads before after old new (bits_of after) (λ s i. bits_of before s i || ((s == span.signal) && has_bit c.run_mask-mask.result i)))
    (λ _. Leads before after old new (bits_of after) (λ s i. bits_of before s i || within span s i))
    (λ _ h. leads_as before after old new (bits_of after) (λ s i. bits_of before s i || ((s == span.signal) && has_bit c.run_mask-mask.result i))
    (λ s i. bits_of before s i || within span s i) h
    (λ s i here small. ap (λ b. bits_of before s i || ((s == span.signal) && b)) (c.run_mask-mask.ensures i small)))
    c.learn.ensures
