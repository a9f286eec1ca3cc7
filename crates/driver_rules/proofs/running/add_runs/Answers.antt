use Rattle.std.proofs.Common.{◌≡◌, ◌+◌, ◌==◌, ◌&&◌, ◌||◌, ◌∙◌, not, nat_le, nat_lt, ap, sym, arith}
use Rattle.std.proofs.lemmas.Result.{IfOk-weaker}
use Rattle.typed_ir.specs.Valuations.{Places, within}
use Rattle.typed_ir.specs.Touches.{has_bit}
use Rattle.driver_rules.specs.Told.{free_run, Puts}
use Rattle.driver_rules.proofs.Runs.{puts_same, puts_two, puts_none, free_none, free_apart, free_joined, run_apart, runs_done}
use Rattle.driver_rules.proofs.running.add_runs.Goals as goal

pub loop-i-init : goal.loop-i-init
loop-i-init c = record {
  from = omega arith;
  order = omega arith;
  top = omega arith;
  free = λ b from below. absurd (omega (arith, from, below));
  puts = puts_none c.args.by.now c.args.drivers.now.items (free_run c.args.span.signal c.args.mask c.args.span.low c.args.span.low)
      (λ s i small. free_none c.args.span.signal c.args.mask c.args.span.low s i);
}

pub loop-i-preserved : goal.loop-i-preserved
loop-i-preserved c =
    let signal = c.args.span.signal in
    let first = c.args.span.low in
    let low = c.loop-i.low in
    let next = c.in_ok-low.low in
    let was = c.loop-i.invariant in
    let is = c.in_ok-low.ensures in
    record {
      from = omega (arith, was.from, is.order.0);
      order = is.order.1;
      top = omega arith;
      free = is.free;
      puts = puts_same c.args.by.now c.args.drivers.now.items c.go_on.new.drivers.items
          (λ s i. free_run signal c.args.mask first low s i || free_run signal c.args.mask low next s i) (free_run signal c.args.mask first next)
          (puts_two c.args.by.now c.args.drivers.now.items c.loop-i.drivers.items c.go_on.new.drivers.items
          (free_run signal c.args.mask first low) (free_run signal c.args.mask low next) was.puts is.puts
          (λ s i small. free_apart signal c.args.mask first low next s i))
          (λ s i small. free_joined signal c.args.mask first low next s i was.from is.order.0);
    }

pub returns : goal.returns
returns c =
    let by = c.args.by.now in
    let span = c.args.span in
    let mask = c.args.mask in
    let old = c.args.drivers.now.items in
    let mid = c.loop-i.drivers.items in
    let new = c.add_run.new.drivers.items in
    let low = c.loop-i.low in
    let end = c.end_of-end.result in
    let was = c.loop-i.invariant in
    let last : Places = λ s i. (s == span.signal) && (nat_le low i && nat_lt i end) in
    let all : Places = λ s i. within span s i && not (has_bit mask i) in
    IfOk-weaker c.add_run.result (λ _. Puts by mid new last) (λ _. Puts by old new all)
    (λ x puts. puts_same by old new (λ s i. free_run span.signal mask span.low low s i || last s i) all
    (puts_two by old mid new (free_run span.signal mask span.low low) last was.puts puts
    (λ s i small. run_apart span.signal mask span.low low end s i))
    (λ s i small. runs_done span.signal span.low span.width mask low end c.loop-i.i s i was.from was.order c.loop-i-test.false was.top c.end_of-end.ensures was.free small))
    c.add_run.ensures
