use Rattle.std.proofs.Common.{◌≡◌, ◌≤◌, ◌<◌, subst, List}
use Rattle.std.specs.Prelude.{ℕ, IfOk, IfErr}
use Rattle.state_layout.specs.Words.{words_of, IsTooManyWhere}
use Rattle.state_layout.proofs.Layouts.{both_ok, design_widths}
use Rattle.state_layout.proofs.laying_out.layout_of.Goals as goal

pub returns-clause-made : goal.returns-clause-made
returns-clause-made c =
    subst (λ (ws : List ℕ). IfOk c.laid_out.result (λ l. l ≡ ws)) (design_widths c.args.linked.now.design _ _ c.deref.ensures.value c.deref-2.ensures.value) c.laid_out.ensures.made

pub returns-clause-few : goal.returns-clause-few
returns-clause-few c =
    let widths = design_widths c.args.linked.now.design _ _ c.deref.ensures.value c.deref-2.ensures.value in
    both_ok c.laid_out.result c.laid_out.ensures.made c.laid_out.ensures.few (λ l made few. subst (λ (ws : List ℕ). words_of ws ≤ 65536) widths (subst (λ (ws : List ℕ). words_of ws ≤ 65536) made few))

pub returns-clause-refused : goal.returns-clause-refused
returns-clause-refused c =
    subst (λ (ws : List ℕ). IfErr c.laid_out.result (IsTooManyWhere (65536 < words_of ws))) (design_widths c.args.linked.now.design _ _ c.deref.ensures.value c.deref-2.ensures.value) c.laid_out.ensures.refused
