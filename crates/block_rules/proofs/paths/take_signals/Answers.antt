use Rattle.std.proofs.Common.{◌∙◌}
use Rattle.block_rules.specs.Tables.{bits_of}
use Rattle.block_rules.proofs.Finding.{taken_next, cleared_next}
use Rattle.block_rules.proofs.paths.take_signals.Goals as goal

pub loop-touch-preserved : goal.loop-touch-preserved
loop-touch-preserved c =
    let touches = c.args.touches.now in
    let k = c.loop-touch.touch-index in
    let x = c.touch-item.result in
    let old = c.loop-touch.written in
    let new = c.take_open.new.written in (
      c.in_ok-take_open.ensures.taken,
      c.in_ok-take_open.ensures.size ∙ c.loop-touch.invariant.1,
      (λ s. taken_next touches k x old new (bits_of c.args.known.now) c.loop-touch.found.items c.take_open.new.found.items s
          c.loop-touch-test.true c.touch-item.is (c.in_ok-take_open.ensures.found s) c.in_ok-take_open.ensures.bits
          ∙ c.loop-touch.invariant.2 s),
      (λ s i. cleared_next touches k x old new s i c.loop-touch-test.true c.touch-item.is (c.in_ok-take_open.ensures.bits s i) ∙ c.loop-touch.invariant.3 s i),
    )
