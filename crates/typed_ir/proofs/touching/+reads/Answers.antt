use Rattle.std.proofs.Common.{◌≡◌, ◌||◌, ◌∙◌, map, refl, sym, subst, ap, ap₂}
use Rattle.std.proofs.lemmas.Result.{IfOk-weaker}
use Rattle.typed_ir.specs.Sized.{reads}
use Rattle.typed_ir.specs.Forms.{sized}
use Rattle.typed_ir.specs.Statements.{stmt_of, arm_of, arms_before}
use Rattle.typed_ir.specs.Touches.{Adds, all_reads, all_arm_reads}
use Rattle.typed_ir.proofs.Listed.{if_is, adds_two, arms_done}
use Rattle.typed_ir.proofs.touching.+reads.Goals as goal

pub note_reads_of-returns-in_ok-note_reads_of-in-If : goal.note_reads_of-returns-in_ok-note_reads_of-in-If
note_reads_of-returns-in_ok-note_reads_of-in-If t c =
    let node = c.in-If in
    let old = c.args.touches.now.items in
    let first = c.note_form.new.touches.items in
    let second = c.note_reads_of.new.touches.items in
    let last = c.note_reads_of-in-If.new.touches.items in
    let condition = reads (sized node.condition.form) in
    let one = all_reads (stmt_of c.deref-in-If.result.now) in
    let two = all_reads (stmt_of c.deref-in-If-2.result.now) in
    let whole : all_reads (stmt_of c.args.st.now) ≡ (λ s i. condition s i || (one s i || two s i)) =
    ap all_reads (ap stmt_of node.is ∙ if_is node.condition node.consequent node.alternative)
    ∙ ap₂ (λ x y s i. condition s i || (all_reads (stmt_of x) s i || all_reads (stmt_of y) s i)) (sym c.deref-in-If.ensures) (sym c.deref-in-If-2.ensures) in
    IfOk-weaker c.note_reads_of-in-If.result (λ _. Adds second last two) (λ _. Adds old last (all_reads (stmt_of c.args.st.now)))
    (λ x adds. subst (Adds old last) (sym whole)
    (adds_two old first last condition (λ s i. one s i || two s i) c.in_ok-note_form-in-If.ensures
    (adds_two first second last one two c.in_ok-note_reads_of-in-If.ensures adds)))
    c.note_reads_of-in-If.ensures

pub note_reads_of_arms-returns : goal.note_reads_of_arms-returns
note_reads_of_arms-returns t c =
    let arms = c.args.arms.now in
    let otherwise = stmt_of c.args.otherwise.now in
    let old = c.args.touches.now.items in
    let mid = c.loop-arm.touches.items in
    let new = c.note_reads_of-2.new.touches.items in
    IfOk-weaker c.note_reads_of-2.result (λ _. Adds mid new (all_reads otherwise)) (λ _. Adds old new (all_arm_reads (arms_before (map arm_of arms) otherwise)))
    (λ x adds. arms_done all_reads all_arm_reads arms otherwise c.loop-arm.arm-index old mid new c.loop-arm-test.false c.loop-arm.invariant (λ s i. refl) adds)
    c.note_reads_of-2.ensures
