use Rattle.std.proofs.Common.{◌≡◌, ◌∙◌, ℕ, IfOk, refl, subst}
use Rattle.verilog_ast.specs.Views.{expression_of}
use Rattle.width_rules.specs.Entries.{scope_of}
use Rattle.width_rules.proofs.Lengths as row
use Rattle.width_rules.proofs.referring.part.Goals as goal

pub returns-clause-width : goal.returns-clause-width
returns-clause-width c =
    let scope = scope_of c.args.scope.now in
    let a = expression_of c.args.a.now in
    let b = expression_of c.args.b.now in
    let high = c.in_ok-high in
    let low = c.in_ok-low in
    subst (λ (n : ℕ). IfOk c.range.result (λ x. x.width ≡ n))
    (row.part_long scope c.args.name a b _ _ _ refl
    (c.whole_number-high.ensures ∙ row.read_same scope a high.high.signed high.high.bits.width high.high.bits.value high.ensures.signed high.ensures.width high.ensures.value)
    (c.whole_number-low.ensures ∙ row.read_same scope b low.low.signed low.low.bits.width low.low.bits.value low.ensures.signed low.ensures.width low.ensures.value))
    c.range.ensures.width
