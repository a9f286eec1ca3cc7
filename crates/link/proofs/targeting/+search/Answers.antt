use Rattle.std.proofs.Common.{◌≡◌, ◌++◌, sym, ◌∙◌, ap, ap₂}
use Rattle.typed_ir.specs.Statements.{stmt_of}
use Rattle.typed_ir.specs.Stmts.{targets}
use Rattle.typed_ir.proofs.Listed.{if_is}
use Rattle.link.specs.Searches.{searched}
use Rattle.link.proofs.Searching.{searched_left, searched_right, stmt_found, stmt_passed, stmts_over, arm_found, arm_passed, arms_over}
use Rattle.link.proofs.targeting.+search.Goals as goal

pub search-returns-in-Found : goal.search-returns-in-Found
search-returns-in-Found t c =
    let one = targets (stmt_of c.deref-in-If.result.now) in
    let two = targets (stmt_of c.in-If.alternative.value) in
    let whole : targets (stmt_of c.args.st.now) ≡ one ++ two =
    ap targets (ap stmt_of c.in-If.is ∙ if_is _ c.in-If.consequent c.in-If.alternative)
    ∙ ap (λ x. targets (stmt_of x) ++ two) (sym c.deref-in-If.ensures) in
    searched_left one two c.args.skip c.in-Found.span (sym c.in-Found.is ∙ c.search.ensures) ∙ ap (λ ps. searched ps c.args.skip) (sym whole)

pub search-returns-in-Left : goal.search-returns-in-Left
search-returns-in-Left t c =
    let one = targets (stmt_of c.deref-in-If.result.now) in
    let two = targets (stmt_of c.deref-in-Left.result.now) in
    let whole : targets (stmt_of c.args.st.now) ≡ one ++ two =
    ap targets (ap stmt_of c.in-If.is ∙ if_is _ c.in-If.consequent c.in-If.alternative)
    ∙ ap₂ (λ x y. targets (stmt_of x) ++ targets (stmt_of y)) (sym c.deref-in-If.ensures) (sym c.deref-in-Left.ensures) in
    c.search-in-Left.ensures ∙ sym (searched_right one two c.args.skip c.in-Left.left (sym c.in-Left.is ∙ c.search.ensures))
    ∙ ap (λ ps. searched ps c.args.skip) (sym whole)

pub search_all-returns-in-Found : goal.search_all-returns-in-Found
search_all-returns-in-Found t c =
    stmt_found c.args.list.now c.loop-st.st-index c.st-item.result c.loop-st.left c.in-Found.span c.loop-st-test.true c.st-item.is
    (sym c.in-Found.is ∙ c.search.ensures)
    ∙ c.loop-st.invariant

pub search_all-loop-st-preserved : goal.search_all-loop-st-preserved
search_all-loop-st-preserved t c =
    stmt_passed c.args.list.now c.loop-st.st-index c.st-item.result c.loop-st.left c.in-Left.more c.loop-st-test.true c.st-item.is
    (sym c.in-Left.is ∙ c.search.ensures)
    ∙ c.loop-st.invariant

pub search_all-returns : goal.search_all-returns
search_all-returns t c = stmts_over c.args.list.now c.loop-st.st-index c.loop-st.left c.loop-st-test.false ∙ c.loop-st.invariant

pub search_arms-returns-in-Found : goal.search_arms-returns-in-Found
search_arms-returns-in-Found t c =
    arm_found c.args.arms.now (stmt_of c.args.otherwise.now) c.loop-arm.arm-index c.arm-item.result c.loop-arm.left c.in-Found.span c.loop-arm-test.true
    c.arm-item.is (sym c.in-Found.is ∙ c.search.ensures)
    ∙ c.loop-arm.invariant

pub search_arms-loop-arm-preserved : goal.search_arms-loop-arm-preserved
search_arms-loop-arm-preserved t c =
    arm_passed c.args.arms.now (stmt_of c.args.otherwise.now) c.loop-arm.arm-index c.arm-item.result c.loop-arm.left c.in-Left.more c.loop-arm-test.true
    c.arm-item.is (sym c.in-Left.is ∙ c.search.ensures)
    ∙ c.loop-arm.invariant

pub search_arms-returns : goal.search_arms-returns
search_arms-returns t c =
    c.search-2.ensures ∙ arms_over c.args.arms.now (stmt_of c.args.otherwise.now) c.loop-arm.arm-index c.loop-arm.left c.loop-arm-test.false
    ∙ c.loop-arm.invariant
