use Rattle.std.proofs.Common.{◌≡◌, ◌∙◌, IfOk, map, sym, ap, ap₂, subst}
use Rattle.typed_ir.specs.Statements.{stmt_of}
use Rattle.verilog_ast.specs.Statements as w
use Rattle.verilog_ast.specs.Statements.{Statement}
use Rattle.verilog_ast.specs.Views.{expression_of, target_of, statement_of, arm_of, statements_of}
use Rattle.verilog_ast.proofs.Seen as seen
use Rattle.width_rules.specs.Entries.{scope_of}
use Rattle.statement_rules.specs.Statements.{sized_statement}
use Rattle.statement_rules.proofs.Building.{block_made}
use Rattle.statement_rules.proofs.Gathering.{case_closes}
use Rattle.statement_rules.proofs.Walks.{made_all}
use Rattle.statement_rules.proofs.statements.+statement.Goals as goal

pub block-returns-clause-form : goal.block-returns-clause-form
block-returns-clause-form t c =
    let scope = scope_of c.args.scope.now in
    let list = c.args.list.now in
    block_made c.loop-st.all scope c.args.by (map statement_of list)
    (made_all stmt_of (sized_statement scope c.args.by) statement_of c.loop-st.all.items list c.loop-st.st-index c.loop-st-test.false c.loop-st.invariant.kept)

pub case-returns-clause-form : goal.case-returns-clause-form
case-returns-clause-form t c =
    let scope = scope_of c.args.scope.now in
    let subject = c.in_ok-subject in
    let items = c.in_ok-items in
    c.in_ok-close_case.ensures
    ∙ case_closes scope c.args.by (expression_of c.args.subject.now) (statements_of (map arm_of c.args.arms.now)) _ _ _ _ _ _ _
    subject.ensures.form subject.ensures.length items.ensures.length subject.ensures.signed items.ensures.signed items.ensures.arms items.ensures.otherwise

pub sized-returns-in-Assign-clause-form : goal.sized-returns-in-Assign-clause-form
sized-returns-in-Assign-clause-form t c =
    let same : w.Assignment (target_of c.in-Assign.target) (expression_of c.get-in-Assign.result.now) ≡ statement_of c.args.st.now =
    ap (λ x. w.Assignment (target_of c.in-Assign.target) (expression_of x)) c.get-in-Assign.ensures
    ∙ sym (ap statement_of c.in-Assign.is ∙ seen.assign_seen c.in-Assign.target c.in-Assign.value) in
    subst (λ (z : Statement). IfOk c.assignment.result (λ r. stmt_of r ≡ sized_statement (scope_of c.args.scope.now) c.args.by z)) same c.assignment.ensures.form

pub sized-returns-in-Case-clause-form : goal.sized-returns-in-Case-clause-form
sized-returns-in-Case-clause-form t c =
    let same : w.Case c.in-Case.field-0 c.in-Case.field-1 (expression_of c.get-in-Case.result.now) (statements_of (map arm_of c.as_slice-in-Case.result.now)) ≡ statement_of c.args.st.now =
    ap₂ (λ x ys. w.Case c.in-Case.field-0 c.in-Case.field-1 (expression_of x) (statements_of (map arm_of ys))) c.get-in-Case.ensures c.as_slice-in-Case.ensures
    ∙ sym (ap statement_of c.in-Case.is ∙ seen.case_seen c.in-Case.field-0 c.in-Case.field-1 c.in-Case.subject c.in-Case.arms) in
    subst (λ (z : Statement). IfOk c.case.result (λ r. stmt_of r ≡ sized_statement (scope_of c.args.scope.now) c.args.by z)) same c.case.ensures.form
