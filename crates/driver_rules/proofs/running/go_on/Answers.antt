use Rattle.std.proofs.Common.{◌≡◌, ◌+◌, ◌==◌, ◌&&◌, ◌∙◌, nat_le, nat_lt, ap, sym, arith}
use Rattle.typed_ir.specs.Touches.{has_bit}
use Rattle.typed_ir.proofs.Cases.{by_order}
use Rattle.driver_rules.specs.Told.{free_run}
use Rattle.driver_rules.proofs.Runs.{puts_same, puts_none, free_none, free_all, free_next}
use Rattle.driver_rules.proofs.running.go_on.Goals as goal

pub returns-then-not-has_bit-clause-free : goal.returns-then-not-has_bit-clause-free
returns-then-not-has_bit-clause-free c = λ b from below.
    by_order b c.args.i (c.requires.free b from)
    (λ h. let e : b ≡ c.args.i = omega (arith, h, below) in ap (has_bit c.args.mask) e ∙ sym c.if-not-has_bit.ensures)

pub returns-then-not-has_bit-clause-puts : goal.returns-then-not-has_bit-clause-puts
returns-then-not-has_bit-clause-puts c =
    puts_none c.args.by.now c.args.drivers.now.items (free_run c.args.signal c.args.mask c.args.low c.args.low)
    (λ s i small. free_none c.args.signal c.args.mask c.args.low s i)

pub returns-clause-free : goal.returns-clause-free
returns-clause-free c = λ b from below. absurd (omega (arith, from, below))

pub returns-clause-puts : goal.returns-clause-puts
returns-clause-puts c =
    let signal = c.args.signal in
    let low = c.args.low in
    let i = c.args.i in
    puts_same c.args.by.now c.args.drivers.now.items c.add_run.new.drivers.items (λ s b. (s == signal) && (nat_le low b && nat_lt b i))
    (free_run signal c.args.mask low (i + 1)) c.in_ok-add_run.ensures
    (λ s b small. free_all signal c.args.mask low i s b c.requires.free ∙ free_next signal c.args.mask low i s b c.requires.order (sym c.if-not-has_bit.ensures))
