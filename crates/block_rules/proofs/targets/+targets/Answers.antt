use Rattle.std.proofs.Common.{◌≡◌, ◌++◌, ◌∙◌, map, ap, ap₂, sym, append_assoc}
use Rattle.std.proofs.lemmas.Result.{IfOk-weaker}
use Rattle.typed_ir.specs.Stmts.{targets, arm_targets}
use Rattle.typed_ir.specs.Statements.{stmt_of, arm_of, arms_before}
use Rattle.typed_ir.proofs.Listed.{if_is}
use Rattle.block_rules.proofs.Listing.{spans_next, arm_spans_next, arm_spans_done}
use Rattle.block_rules.proofs.targets.+targets.Goals as goal

pub add_targets-returns-in_ok-add_targets-in-If : goal.add_targets-returns-in_ok-add_targets-in-If
add_targets-returns-in_ok-add_targets-in-If t c =
    let node = c.in-If in
    let old = c.args.spans.now.items in
    let mid = c.add_targets.new.spans.items in
    let new = c.add_targets-in-If.new.spans.items in
    let one = stmt_of c.deref-in-If.result.now in
    let two = stmt_of c.deref-in-If-2.result.now in
    let whole : targets (stmt_of c.args.st.now) ≡ targets one ++ targets two =
    ap targets (ap stmt_of node.is ∙ if_is node.condition node.consequent node.alternative)
    ∙ ap₂ (λ x y. targets (stmt_of x) ++ targets (stmt_of y)) (sym c.deref-in-If.ensures) (sym c.deref-in-If-2.ensures) in
    IfOk-weaker c.add_targets-in-If.result (λ _. new ≡ mid ++ targets two) (λ _. new ≡ old ++ targets (stmt_of c.args.st.now))
    (λ x is. is ∙ ap (λ us. us ++ targets two) c.in_ok-add_targets-in-If.ensures ∙ append_assoc old (targets one) (targets two)
    ∙ ap (λ us. old ++ us) (sym whole))
    c.add_targets-in-If.ensures

pub add_targets_of_all-loop-st-preserved : goal.add_targets_of_all-loop-st-preserved
add_targets_of_all-loop-st-preserved t c =
    spans_next c.args.list.now c.loop-st.st-index c.st-item.result c.loop-st.spans.items c.add_targets.new.spans.items
    c.loop-st-test.true c.st-item.is c.in_ok-add_targets.ensures
    ∙ c.loop-st.invariant

pub add_targets_of_arms-loop-arm-preserved : goal.add_targets_of_arms-loop-arm-preserved
add_targets_of_arms-loop-arm-preserved t c =
    arm_spans_next c.args.arms.now (stmt_of c.args.otherwise.now) c.loop-arm.arm-index c.arm-item.result c.loop-arm.spans.items c.add_targets.new.spans.items
    c.loop-arm-test.true c.arm-item.is c.in_ok-add_targets.ensures
    ∙ c.loop-arm.invariant

pub add_targets_of_arms-returns : goal.add_targets_of_arms-returns
add_targets_of_arms-returns t c =
    let arms = c.args.arms.now in
    let otherwise = stmt_of c.args.otherwise.now in
    let old = c.args.spans.now.items in
    let mid = c.loop-arm.spans.items in
    let new = c.add_targets-2.new.spans.items in
    IfOk-weaker c.add_targets-2.result (λ _. new ≡ mid ++ targets otherwise) (λ _. new ≡ old ++ arm_targets (arms_before (map arm_of arms) otherwise))
    (λ x is. arm_spans_done arms otherwise c.loop-arm.arm-index old mid new c.loop-arm-test.false c.loop-arm.invariant is)
    c.add_targets-2.ensures
