use Rattle.std.proofs.Common.{◌≡◌, ◌+◌, ◌-◌, ◌<◌, ◌==◌, ◌∙◌, ℕ, suc, Some, length, drop, sym, ap, ap₂, cond, arith}
use Rattle.unit_build.specs.Connections.{port_number}
use Rattle.unit_build.proofs.Ports.{number_step}
use Rattle.unit_build.proofs.finding.names_of.Goals as goal

pub loop-left-preserved : goal.loop-left-preserved
loop-left-preserved c =
    let ps = c.args.ports.now in
    let i = c.loop-left.left - 1 in
    let p = c.index-ports-left.result in
    let within : i < length ps = omega arith in
    let more : i + 1 ≡ c.loop-left.left = omega arith in
    let next : suc i ≡ c.loop-left.left = omega arith in
    record {
      within = omega arith;
      found = λ q.
          c.in_ok-put.ensures q
          ∙ ap (cond (p.name.0 == q) (Some i)) (c.loop-left.invariant.found q ∙ sym (ap₂ (λ (n k : ℕ). port_number q n (drop k ps)) next more))
          ∙ sym (number_step q ps i p within c.index-ports-left.is);
    }
