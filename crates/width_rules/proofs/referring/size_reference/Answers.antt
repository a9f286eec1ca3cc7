use Rattle.std.proofs.Common.{◌≡◌, ◌∙◌, ℕ, IfOk, sym, ap, ap₂, subst}
use Rattle.verilog_ast.specs.Expressions as e
use Rattle.verilog_ast.specs.Views.{expression_of, reference_of}
use Rattle.verilog_ast.proofs.Seen as seen
use Rattle.width_rules.specs.Entries.{scope_of}
use Rattle.width_rules.specs.Sizes.{length}
use Rattle.width_rules.proofs.Lengths as row
use Rattle.width_rules.proofs.referring.size_reference.Goals as goal

pub returns-in-Upward-clause-width : goal.returns-in-Upward-clause-width
returns-in-Upward-clause-width c =
    let scope = scope_of c.args.scope.now in
    let x = expression_of c.get-in-Upward.result.now in
    let y = expression_of c.get-in-Upward-2.result.now in
    let same : e.UpwardSelect c.in-Upward.name x y ≡ reference_of c.args.target.now =
    ap₂ (e.UpwardSelect c.in-Upward.name) (ap expression_of c.get-in-Upward.ensures) (ap expression_of c.get-in-Upward-2.ensures)
    ∙ sym (ap reference_of c.in-Upward.is ∙ seen.upward_seen c.in-Upward.name _ _) in
    subst (λ (n : ℕ). IfOk c.run.result (λ m. m.width ≡ n)) (sym (row.upward_is scope c.in-Upward.name x y) ∙ ap (length scope) same) c.run.ensures.width

pub returns-in-Downward-clause-width : goal.returns-in-Downward-clause-width
returns-in-Downward-clause-width c =
    let scope = scope_of c.args.scope.now in
    let x = expression_of c.get-in-Downward.result.now in
    let y = expression_of c.get-in-Downward-2.result.now in
    let same : e.DownwardSelect c.in-Downward.name x y ≡ reference_of c.args.target.now =
    ap₂ (e.DownwardSelect c.in-Downward.name) (ap expression_of c.get-in-Downward.ensures) (ap expression_of c.get-in-Downward-2.ensures)
    ∙ sym (ap reference_of c.in-Downward.is ∙ seen.downward_seen c.in-Downward.name _ _) in
    subst (λ (n : ℕ). IfOk c.run-in-Downward.result (λ m. m.width ≡ n)) (sym (row.downward_is scope c.in-Downward.name x y) ∙ ap (length scope) same) c.run-in-Downward.ensures.width
