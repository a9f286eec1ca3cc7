use Rattle.std.proofs.Common.{◌≡◌, ◌++◌, ◌∙◌, map, ap, ap₂, sym, append_assoc}
use Rattle.std.proofs.lemmas.Result.{IfOk-weaker}
use Rattle.typed_ir.specs.Stmts.{SizedStmt, later_targets, later_arm_targets}
use Rattle.typed_ir.specs.Statements.{stmt_of, arm_of, arms_before}
use Rattle.typed_ir.proofs.Listed.{if_is, later_next, later_arm_next, later_arms_done}
use Rattle.typed_ir.proofs.writing.+later.Goals as goal

pub add_later-returns-in_ok-add_later-in-If : goal.add_later-returns-in_ok-add_later-in-If
add_later-returns-in_ok-add_later-in-If t c =
    let node = c.in-If in
    let old = c.args.spans.now.items in
    let mid = c.add_later.new.spans.items in
    let new = c.add_later-in-If.new.spans.items in
    let one = stmt_of c.deref-in-If.result.now in
    let two = stmt_of c.deref-in-If-2.result.now in
    let whole : later_targets (stmt_of c.args.st.now) ≡ later_targets one ++ later_targets two =
    ap later_targets (ap stmt_of node.is ∙ if_is node.condition node.consequent node.alternative)
    ∙ ap₂ (λ x y. later_targets (stmt_of x) ++ later_targets (stmt_of y)) (sym c.deref-in-If.ensures) (sym c.deref-in-If-2.ensures) in
    IfOk-weaker c.add_later-in-If.result (λ _. new ≡ mid ++ later_targets two) (λ _. new ≡ old ++ later_targets (stmt_of c.args.st.now))
    (λ x is. is ∙ ap (λ us. us ++ later_targets two) c.in_ok-add_later-in-If.ensures ∙ append_assoc old (later_targets one) (later_targets two)
    ∙ ap (λ us. old ++ us) (sym whole))
    c.add_later-in-If.ensures

pub add_later_of_all-loop-st-preserved : goal.add_later_of_all-loop-st-preserved
add_later_of_all-loop-st-preserved t c =
    later_next c.args.list.now c.loop-st.st-index c.st-item.result c.loop-st.spans.items c.add_later.new.spans.items
    c.loop-st-test.true c.st-item.is c.in_ok-add_later.ensures
    ∙ c.loop-st.invariant

pub add_later_of_arms-loop-arm-preserved : goal.add_later_of_arms-loop-arm-preserved
add_later_of_arms-loop-arm-preserved t c =
    later_arm_next c.args.arms.now (stmt_of c.args.otherwise.now) c.loop-arm.arm-index c.arm-item.result c.loop-arm.spans.items c.add_later.new.spans.items
    c.loop-arm-test.true c.arm-item.is c.in_ok-add_later.ensures
    ∙ c.loop-arm.invariant

pub add_later_of_arms-returns : goal.add_later_of_arms-returns
add_later_of_arms-returns t c =
    let arms = c.args.arms.now in
    let otherwise = stmt_of c.args.otherwise.now in
    let old = c.args.spans.now.items in
    let mid = c.loop-arm.spans.items in
    let new = c.add_later-2.new.spans.items in
    IfOk-weaker c.add_later-2.result (λ _. new ≡ mid ++ later_targets otherwise) (λ _. new ≡ old ++ later_arm_targets (arms_before (map arm_of arms) otherwise))
    (λ x is. later_arms_done arms otherwise c.loop-arm.arm-index old mid new c.loop-arm-test.false c.loop-arm.invariant is)
    c.add_later-2.ensures
