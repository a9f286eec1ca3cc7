use Rattle.std.proofs.Common.{◌≡◌, ◌-◌, ◌==◌, ◌&&◌, nat_le, nat_lt, refl, ap, ◌∙◌, arith}
use Rattle.std.proofs.Math.Bool.{and-false}
use Rattle.std.proofs.lemmas.Bool.{lt-leb, le-ltb}
use Rattle.typed_ir.proofs.Cases.{by_order}
use Rattle.driver_rules.specs.declared.driver.Driver.{Driver}
use Rattle.driver_rules.proofs.Runs.{puts_run, puts_none}
use Rattle.driver_rules.proofs.running.add_run.Goals as goal

pub returns-in_ok-push : goal.returns-in_ok-push
returns-in_ok-push c =
    let d : Driver = record { signal = c.args.signal; low = c.args.low; high = c.args.end - 1; by = c.args.by.now } in
    puts_run c.args.by.now c.args.drivers.now.items c.push.new.self.items c.args.signal c.args.low c.args.end d
    c.if-low-end.true c.requires refl refl refl refl c.in_ok-push.ensures.items

pub returns-else-low-end : goal.returns-else-low-end
returns-else-low-end c =
    puts_none c.args.by.now c.args.drivers.now.items (λ s i. (s == c.args.signal) && (nat_le c.args.low i && nat_lt i c.args.end))
    (λ s i small. by_order i c.args.low
    (λ h. ap (λ t. (s == c.args.signal) && (t && nat_lt i c.args.end)) (lt-leb c.args.low i h) ∙ and-false (s == c.args.signal))
    (λ h. let past = c.if-low-end.false in
    ap (λ t. (s == c.args.signal) && (nat_le c.args.low i && t)) (le-ltb i c.args.end (omega (arith, h, past)))
    ∙ ap (λ t. (s == c.args.signal) && t) (and-false (nat_le c.args.low i)) ∙ and-false (s == c.args.signal)))
