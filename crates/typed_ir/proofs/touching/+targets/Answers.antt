use Rattle.std.proofs.Common.{◌≡◌, ◌++◌, ◌∙◌, map, ap, ap₂, refl, sym, subst}
use Rattle.std.proofs.lemmas.Result.{IfOk-weaker}
use Rattle.typed_ir.specs.Valuations.{any_within}
use Rattle.typed_ir.specs.Stmts.{SizedStmt, SizedArms, targets, arm_targets}
use Rattle.typed_ir.specs.Statements.{stmt_of, arm_of, arms_before}
use Rattle.typed_ir.specs.Touches.{Adds}
use Rattle.typed_ir.proofs.Listed.{if_is, adds_targets, targets_next, arm_targets_next, arms_done}
use Rattle.typed_ir.proofs.touching.+targets.Goals as goal

pub note_targets-returns-in_ok-note_targets-in-If : goal.note_targets-returns-in_ok-note_targets-in-If
note_targets-returns-in_ok-note_targets-in-If t c =
    let node = c.in-If in
    let old = c.args.touches.now.items in
    let mid = c.note_targets.new.touches.items in
    let new = c.note_targets-in-If.new.touches.items in
    let one = stmt_of c.deref-in-If.result.now in
    let two = stmt_of c.deref-in-If-2.result.now in
    let whole : targets (stmt_of c.args.st.now) ≡ targets one ++ targets two =
    ap targets (ap stmt_of node.is ∙ if_is node.condition node.consequent node.alternative)
    ∙ ap₂ (λ x y. targets (stmt_of x) ++ targets (stmt_of y)) (sym c.deref-in-If.ensures) (sym c.deref-in-If-2.ensures) in
    IfOk-weaker c.note_targets-in-If.result (λ _. Adds mid new (any_within (targets two))) (λ _. Adds old new (any_within (targets (stmt_of c.args.st.now))))
    (λ x adds. subst (λ spans. Adds old new (any_within spans)) (sym whole)
    (adds_targets old mid new one two c.in_ok-note_targets-in-If.ensures adds))
    c.note_targets-in-If.ensures

pub note_targets_of_all-loop-st-preserved : goal.note_targets_of_all-loop-st-preserved
note_targets_of_all-loop-st-preserved t c = λ s i small.
    targets_next c.args.list.now c.loop-st.st-index c.st-item.result c.loop-st.touches.items c.note_targets.new.touches.items s i
    c.loop-st-test.true c.st-item.is small c.in_ok-note_targets.ensures
    ∙ c.loop-st.invariant s i small

pub note_targets_of_arms-loop-arm-preserved : goal.note_targets_of_arms-loop-arm-preserved
note_targets_of_arms-loop-arm-preserved t c = λ s i small.
    arm_targets_next c.args.arms.now (stmt_of c.args.otherwise.now) c.loop-arm.arm-index c.arm-item.result c.loop-arm.touches.items c.note_targets.new.touches.items s i
    c.loop-arm-test.true c.arm-item.is small c.in_ok-note_targets.ensures
    ∙ c.loop-arm.invariant s i small

pub note_targets_of_arms-returns : goal.note_targets_of_arms-returns
note_targets_of_arms-returns t c =
    let arms = c.args.arms.now in
    let otherwise = stmt_of c.args.otherwise.now in
    let places = λ (st : SizedStmt). any_within (targets st) in
    let arm_places = λ (a : SizedArms). any_within (arm_targets a) in
    let old = c.args.touches.now.items in
    let mid = c.loop-arm.touches.items in
    let new = c.note_targets-2.new.touches.items in
    IfOk-weaker c.note_targets-2.result (λ _. Adds mid new (places otherwise)) (λ _. Adds old new (arm_places (arms_before (map arm_of arms) otherwise)))
    (λ x adds. arms_done places arm_places arms otherwise c.loop-arm.arm-index old mid new c.loop-arm-test.false c.loop-arm.invariant (λ s i. refl) adds)
    c.note_targets-2.ensures
