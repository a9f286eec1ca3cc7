use Rattle.std.proofs.Common.{◌≡◌, ◌<◌, ◌≤◌, ◌-◌, length, ◌∙◌, ap, rules}
use Rattle.typed_ir.specs.declared.unit.Unit.{Unit as Unit'}
use Rattle.link.proofs.Walking.{few_next, few_over}
use Rattle.link.proofs.flattening.are_few.Goals as goal

pub returns-in-None : goal.returns-in-None
returns-in-None c =
    let x = c.unit-item.result in
    let long : c.len.result ≡ length c.deref.result.now.parts.nodes.items = search (rules, c.len.ensures) in
    let count : c.len.result ≡ length x.value.parts.nodes.items = long ∙ ap (λ (u : Unit'). length u.parts.nodes.items) c.deref.ensures in
    let over : c.loop-unit.left < c.len.result = search rules in
    few_over c.args.units.now c.loop-unit.unit-index c.len.result c.loop-unit.left x c.loop-unit-test.true c.unit-item.is count over ∙ c.loop-unit.invariant

pub loop-unit-preserved : goal.loop-unit-preserved
loop-unit-preserved c =
    let x = c.unit-item.result in
    let long : c.len.result ≡ length c.deref.result.now.parts.nodes.items = search (rules, c.len.ensures) in
    let count : c.len.result ≡ length x.value.parts.nodes.items = long ∙ ap (λ (u : Unit'). length u.parts.nodes.items) c.deref.ensures in
    let small : c.len.result ≤ c.loop-unit.left = search rules in
    let rest : c.in-Some.rest ≡ c.loop-unit.left - c.len.result = search rules in
    few_next c.args.units.now c.loop-unit.unit-index c.len.result c.loop-unit.left c.in-Some.rest x c.loop-unit-test.true c.unit-item.is count small rest ∙ c.loop-unit.invariant
