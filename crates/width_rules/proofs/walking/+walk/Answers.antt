use Rattle.std.proofs.Common.{ℕ, ◌+◌, ◌++◌, map, refl}
use Rattle.verilog_ast.specs.Views.{statement_of, arm_of, statements_of}
use Rattle.width_rules.specs.Entries.{scope_of}
use Rattle.width_rules.specs.Mentions.{listing_of, count, mentions, arm_mentions, default_mentions}
use Rattle.width_rules.proofs.Told.{names_told, then_told, statement_told, all_left, arm_told, default_kept}
use Rattle.width_rules.proofs.walking.+walk.Goals as goal

pub walk_if-returns : goal.walk_if-returns
walk_if-returns t c =
    let w = listing_of (scope_of c.args.scope.now) c.args.asked in
    then_told _ _ _ _ _ _ _ _ (λ (k : ℕ). mentions w k (statement_of c.args.x.now)) _
    (names_told _ _ _ _ _ c.in_ok-next.ensures) c.in_ok-end.ensures

pub walk_match-returns : goal.walk_match-returns
walk_match-returns t c =
    let w = listing_of (scope_of c.args.scope.now) c.args.asked in
    then_told _ _ _ _ _ _ _ _ (λ (k : ℕ). mentions w k (statement_of c.args.body.now)) _
    (names_told _ _ _ _ _ c.in_ok-next.ensures) c.in_ok-end.ensures

pub walk_if_else-returns : goal.walk_if_else-returns
walk_if_else-returns t c =
    let w = listing_of (scope_of c.args.scope.now) c.args.asked in
    let x = statement_of c.args.x.now in
    let y = statement_of c.args.y.now in
    then_told _ _ _ _ _ _ _ _ (λ (k : ℕ). mentions w k x ++ mentions w (k + count w x) y) _
    (names_told _ _ _ _ _ c.in_ok-next.ensures)
    (then_told _ _ _ _ _ _ _ _ (λ (k : ℕ). mentions w k y) _ c.in_ok-after.ensures c.in_ok-end.ensures)

pub walk_case-returns : goal.walk_case-returns
walk_case-returns t c =
    let w = listing_of (scope_of c.args.scope.now) c.args.asked in
    let items = statements_of (map arm_of c.args.arms.now) in
    then_told _ _ _ _ _ _ _ _ (λ (k : ℕ). arm_mentions w k items ++ default_mentions w k items) _
    (names_told _ _ _ _ _ c.in_ok-next.ensures) c.in_ok-end.ensures

pub walk_all-loop-st-preserved : goal.walk_all-loop-st-preserved
walk_all-loop-st-preserved t c =
    statement_told (listing_of (scope_of c.args.scope.now) c.args.asked) c.args.statements.now c.loop-st.st-index c.st-item.result _ _ _ _ _ _ _ _ c.loop-st-test.true c.st-item.is c.loop-st.invariant c.in_ok-next.ensures

pub walk_arms-loop-arm-init : goal.walk_arms-loop-arm-init
walk_arms-loop-arm-init t c = record { told = all_left _ _ _ _; default = refl }

pub walk_arms-loop-arm-preserved : goal.walk_arms-loop-arm-preserved
walk_arms-loop-arm-preserved t c =
    let w = listing_of (scope_of c.args.scope.now) c.args.asked in
    let arms = c.args.arms.now in
    let i = c.loop-arm.arm-index in
    let x = c.arm-item.result in
    let told = c.in_ok-end.ensures.told in
    record {
      told = arm_told w arms i x _ _ _ _ _ _ _ _ c.loop-arm-test.true c.arm-item.is c.loop-arm.invariant.told told;
      default = default_kept w arms i x _ _ _ _ _ c.loop-arm-test.true c.arm-item.is c.loop-arm.invariant.default c.in_ok-end.ensures.otherwise told.counts;
    }
