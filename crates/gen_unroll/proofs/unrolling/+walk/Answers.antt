use Rattle.std.proofs.Common.{◌≡◌, ◌+◌, List, Bool, true, map, length, drop, None, Err, Ok, sym, ap, ◌∙◌, subst, rules}
use Rattle.std.specs.Option.{option_map}
use Rattle.width_rules.specs.Entries.{scope_of}
use Rattle.width_rules.specs.Scopes.{Scope}
use Rattle.verilog_ast.specs.declared.generate_item.GenerateItem.{GenerateItem}
use Rattle.verilog_ast.specs.Views.{expression_of, head_of, generate_item_of, branch_of, items_of}
use Rattle.gen_unroll.specs.Unrolled.{State, each, turn_with, block_with, loop_with, taken_with, is_taken, unrolled, chosen}
use Rattle.ls_text.specs.Answers.{Answers}
use Rattle.gen_unroll.specs.Values.{constant_of}
use Rattle.gen_unroll.specs.Views.{Goes, state_of, here_of}
use Rattle.gen_unroll.proofs.Blocks.{goes_from, goes_as, nothing_told, taken_through, loop_through, turns_gone, item_loop}
use Rattle.gen_unroll.proofs.Comings.{quiet_refused}
use Rattle.gen_unroll.proofs.Lefts.{left_more, left_end, goes_stop}
use Rattle.gen_unroll.proofs.Listing.{each_next, items_next, items_none, chosen_first, chosen_quiet, chosen_none}
use Rattle.gen_unroll.proofs.unrolling.+walk.Goals as goal

pub taken-returns-clause-goes : goal.taken-returns-clause-goes
taken-returns-clause-goes t c =
    taken_through c.args.w.now c.labelled.new.w c.block.new.w c.block.result
    (unrolled (items_of (map generate_item_of c.args.branch.now.items))) (items_of (map generate_item_of c.args.branch.now.items)) c.args.branch.now.label (here_of c.args.parent)
    c.in_ok-labelled.ensures.steps c.in_ok-labelled.ensures.state
    (subst (λ zs. Goes c.labelled.new.w c.block.new.w c.block.result (block_with (unrolled (items_of (map generate_item_of zs))) (items_of (map generate_item_of zs)) (here_of c.args.parent) c.args.branch.now.label None (state_of c.labelled.new.w)))
    c.as_slice.ensures c.block.ensures.goes)

pub branches-returns-in-Err-clause-goes : goal.branches-returns-in-Err-clause-goes
branches-returns-in-Err-clause-goes t c =
    goes_as c.args.w.now c.loop-branch.w (Err c.in-Err.refusal) (chosen (items_of (map branch_of c.args.all.now)) (here_of c.args.parent) (state_of c.args.w.now)) _
    (sym c.loop-branch.invariant.left
    ∙ chosen_quiet c.args.all.now c.loop-branch.branch-index c.branch-item.result (here_of c.args.parent) (state_of c.args.w.now) c.loop-branch-test.true c.branch-item.is)
    (quiet_refused c.args.w.now c.loop-branch.w c.in-Err.refusal (λ (b : Bool). b) (is_taken (scope_of c.args.w.now.scope) (option_map expression_of c.branch-item.result.condition)) _
    c.loop-branch.invariant.steps
    (subst (λ (s : Scope). Answers {A = Bool} (Err c.in-Err.refusal) (λ b. b) (is_taken s (option_map expression_of c.branch-item.result.condition)))
    (ap (λ (st : State). st.scope) c.loop-branch.invariant.state) c.in-Err.ensures))

pub branches-returns-then-yes-clause-goes : goal.branches-returns-then-yes-clause-goes
branches-returns-then-yes-clause-goes t c =
    let yes : c.in-Ok.yes ≡ true = search rules in
    goes_from c.args.w.now c.loop-branch.w c.taken.new.w c.taken.result (chosen (items_of (map branch_of c.args.all.now)) (here_of c.args.parent) (state_of c.args.w.now)) _
    c.loop-branch.invariant.steps
    (sym c.loop-branch.invariant.left
    ∙ chosen_first c.args.all.now c.loop-branch.branch-index c.branch-item.result (here_of c.args.parent) (state_of c.args.w.now) c.loop-branch-test.true c.branch-item.is
    (ap (λ (s : Scope). is_taken s (option_map expression_of c.branch-item.result.condition)) (sym (ap (λ (st : State). st.scope) c.loop-branch.invariant.state))
    ∙ c.in-Ok.ensures ∙ ap (λ (b : Bool). Ok b) yes)
    ∙ ap (taken_with (unrolled (items_of (map generate_item_of c.branch-item.result.items))) (items_of (map generate_item_of c.branch-item.result.items)) c.branch-item.result.label (here_of c.args.parent))
    (sym c.loop-branch.invariant.state))
    c.taken.ensures.goes

pub branches-returns-clause-goes : goal.branches-returns-clause-goes
branches-returns-clause-goes t c =
    nothing_told _ _ (state_of c.loop-branch.w) (state_of c.args.w.now) _ c.loop-branch.invariant.steps c.loop-branch.invariant.state
    (sym c.loop-branch.invariant.left ∙ chosen_none c.args.all.now c.loop-branch.branch-index (here_of c.args.parent) (state_of c.args.w.now) c.loop-branch-test.false)

pub generate_item-returns-in-For-clause-goes : goal.generate_item-returns-in-For-clause-goes
generate_item-returns-in-For-clause-goes t c =
    goes_as c.args.w.now c.generate_loop.new.w c.generate_loop.result (unrolled (generate_item_of c.args.item.now) (here_of c.args.parent) (state_of c.args.w.now)) _
    (ap (λ (z : GenerateItem). unrolled (generate_item_of z) (here_of c.args.parent) (state_of c.args.w.now)) c.in-For.is
    ∙ item_loop c.in-For.at c.in-For.head c.in-For.label c.in-For.items (here_of c.args.parent) (state_of c.args.w.now))
    (subst (λ zs. Goes c.args.w.now c.generate_loop.new.w c.generate_loop.result (loop_with (unrolled (items_of (map generate_item_of zs))) (items_of (map generate_item_of zs)) c.in-For.at (head_of c.in-For.head) c.in-For.label (here_of c.args.parent) (state_of c.args.w.now)))
    c.as_slice.ensures c.generate_loop.ensures.goes)

pub generate_items-returns-in-Err-clause-goes : goal.generate_items-returns-in-Err-clause-goes
generate_items-returns-in-Err-clause-goes t c =
    goes_stop c.args.w.now c.loop-item.w c.generate_item.new.w _ _ _ (λ next. unrolled (items_of (map generate_item_of (drop (c.loop-item.item-index + 1) c.args.items.now))) (here_of c.args.parent) next) _
    c.loop-item.invariant.left
    (items_next generate_item_of c.args.items.now c.loop-item.item-index c.item-item.result (here_of c.args.parent) (state_of c.loop-item.w) c.loop-item-test.true c.item-item.is)
    c.in-Err.ensures.goes

pub generate_items-loop-item-preserved : goal.generate_items-loop-item-preserved
generate_items-loop-item-preserved t c = record {
  left = left_more _ _ _ _ _ _ (λ next. unrolled (items_of (map generate_item_of (drop (c.loop-item.item-index + 1) c.args.items.now))) (here_of c.args.parent) next) _
      c.loop-item.invariant.left
      (items_next generate_item_of c.args.items.now c.loop-item.item-index c.item-item.result (here_of c.args.parent) (state_of c.loop-item.w) c.loop-item-test.true c.item-item.is)
      c.in-Ok.ensures.goes;
  kept = c.in-Ok.ensures.around ∙ c.loop-item.invariant.kept;
}

pub generate_items-returns-clause-goes : goal.generate_items-returns-clause-goes
generate_items-returns-clause-goes t c =
    left_end _ _ _ _ (state_of c.loop-item.w) c.loop-item.invariant.left
    (items_none generate_item_of c.args.items.now c.loop-item.item-index (here_of c.args.parent) (state_of c.loop-item.w) c.loop-item-test.false)

pub block-returns-clause-around : goal.block-returns-clause-around
block-returns-clause-around t c =
    c.in_ok-tell.ensures.around
    ∙ ap (λ (ss : List Scope). drop 1 ss) (sym c.close_block.ensures ∙ c.in_ok-generate_items.ensures.around ∙ c.in_ok-number.ensures.around)

pub turns-returns-in-Err-clause-goes : goal.turns-returns-in-Err-clause-goes
turns-returns-in-Err-clause-goes t c =
    goes_stop c.args.w.now c.loop-value.w c.block.new.w _ _ _
    (λ next. each (turn_with (unrolled (items_of (map generate_item_of c.args.items.now))) (items_of (map generate_item_of c.args.items.now)) c.args.genvar c.args.label (here_of c.args.parent)) (map constant_of (drop (c.loop-value.value-index + 1) c.args.values.now)) next) _
    c.loop-value.invariant.left
    (each_next constant_of (turn_with (unrolled (items_of (map generate_item_of c.args.items.now))) (items_of (map generate_item_of c.args.items.now)) c.args.genvar c.args.label (here_of c.args.parent))
    c.args.values.now c.loop-value.value-index c.value-item.result (state_of c.loop-value.w) c.loop-value-test.true c.value-item.is)
    c.in-Err.ensures.goes

pub generate_loop-returns-clause-goes : goal.generate_loop-returns-clause-goes
generate_loop-returns-clause-goes t c =
    let many : c.len.result ≡ length c.in_ok-values.values.items = search rules in
    loop_through c.args.w.now c.labelled.new.w c.turns.new.w c.turns.result
    (unrolled (items_of (map generate_item_of c.args.items.now))) (items_of (map generate_item_of c.args.items.now))
    c.args.at (head_of c.args.head.now) c.args.label (here_of c.args.parent) (map constant_of c.in_ok-values.values.items)
    c.in_ok-values.ensures.answer c.in_ok-labelled.ensures.steps
    (c.in_ok-labelled.ensures.state
    ∙ turns_gone c.args.label (state_of c.args.w.now) (scope_of c.loop_turns.new.scope) c.in_ok-values.values.items c.len.result c.in_ok-values.ensures.names many)
    (subst (λ zs. Goes c.labelled.new.w c.turns.new.w c.turns.result (each (turn_with (unrolled (items_of (map generate_item_of c.args.items.now))) (items_of (map generate_item_of c.args.items.now)) c.args.head.now.start.name c.args.label (here_of c.args.parent)) (map constant_of zs) (state_of c.labelled.new.w)))
    c.deref.ensures.value c.turns.ensures.goes)
