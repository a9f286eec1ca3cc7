use Rattle.std.proofs.Common.{List, map, sym, ◌∙◌, ap}
use Rattle.std.proofs.lemmas.List.{at_drop_all}
use Rattle.typed_ir.specs.Stmts.{Default}
use Rattle.typed_ir.specs.Shifts.{shifted_item, shifted_stmt, shifted_arms}
use Rattle.typed_ir.specs.Statements.{stmt_of, arm_of, item_of, sequence_of}
use Rattle.typed_ir.specs.declared.arm.Arm.{Arm as Arm'}
use Rattle.typed_ir.proofs.Shifted.{onto, onto_default, sequence_is, sequence_shifted, arms_next, arm_shifted}
use Rattle.typed_ir.proofs.shifting.+shifting.Goals as goal

pub shifted_arms-loop-arm-preserved : goal.shifted_arms-loop-arm-preserved
shifted_arms-loop-arm-preserved t c = λ rest.
    let first = c.args.first in
    let x = c.arm-item.result in
    let y : Arm' = record { items = c.in_ok-items.items; body = c.in_ok-body.body } in
    arms_next first c.args.arms.now c.loop-arm.copies.items c.push.new.self.items c.loop-arm.arm-index x y rest _ c.loop-arm-test.true c.arm-item.is
    c.in_ok-push.ensures.items
    (arm_shifted first x y (c.in_ok-items.ensures ∙ ap (λ zs. map (shifted_item first) (map item_of zs)) c.deref.ensures.value) c.in_ok-body.ensures)
    (c.loop-arm.invariant rest)

pub shifted_stmt-returns-in_ok-copies-in-Sequence : goal.shifted_stmt-returns-in_ok-copies-in-Sequence
shifted_stmt-returns-in_ok-copies-in-Sequence t c =
    let first = c.args.first in
    let list = c.in-Sequence.list in
    sequence_is c.in_ok-copies-in-Sequence.copies
    ∙ ap sequence_of (c.in_ok-copies-in-Sequence.ensures ∙ ap (λ zs. map (shifted_stmt first) (map stmt_of zs)) c.deref-in-Sequence.ensures.value)
    ∙ sequence_shifted first (map stmt_of list.items)
    ∙ ap (shifted_stmt first) (sym (ap stmt_of c.in-Sequence.is ∙ sequence_is list))

pub shifted_arms-returns : goal.shifted_arms-returns
shifted_arms-returns t c = λ otherwise.
    let first = c.args.first in
    let arms = c.args.arms.now in
    let copies = map arm_of c.loop-arm.copies.items in
    onto_default copies (shifted_stmt first otherwise)
    ∙ sym (at_drop_all (λ (zs : List Arm'). onto copies (shifted_arms first (onto (map arm_of zs) (Default otherwise)))) arms c.loop-arm.arm-index c.loop-arm-test.false)
    ∙ c.loop-arm.invariant (Default otherwise)
    ∙ ap (shifted_arms first) (sym (onto_default (map arm_of arms) otherwise))
