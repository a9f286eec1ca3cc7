use Rattle.std.proofs.Common.{◌≡◌, ◌≤◌, ◌∙◌, List, map, sym, ap, arith}
use Rattle.verilog_ast.specs.declared.expression.Expr.{Expr}
use Rattle.verilog_ast.specs.Expressions as e
use Rattle.verilog_ast.specs.Views.{expression_of, parts_of}
use Rattle.verilog_ast.proofs.Seen as seen
use Rattle.width_rules.specs.Entries.{scope_of}
use Rattle.width_rules.specs.Sizes.{length}
use Rattle.statement_rules.specs.Leaves.{leaf_of}
use Rattle.unit_build.proofs.Listing.{part_ahead, long_ahead, none_long, leaves_ahead}
use Rattle.unit_build.proofs.Written.{whole_long}
use Rattle.unit_build.proofs.driving.+collect.Goals as goal

pub collect-returns-else-width-gt128-clause-width : goal.collect-returns-else-width-gt128-clause-width
collect-returns-else-width-gt128-clause-width t c =
    let scope = scope_of c.args.scope.now in
    let at = c.in-Concatenation.at in
    let xs = c.as_slice.result.now in
    let same : e.Concatenation at (parts_of (map expression_of xs)) ≡ expression_of c.args.e.now =
    ap (λ (ys : List Expr). e.Concatenation at (parts_of (map expression_of ys))) c.as_slice.ensures
    ∙ sym (ap expression_of c.in-Concatenation.is ∙ seen.concatenation_seen at _) in
    let few : c.in_ok-width-in-Concatenation.width ≤ 128 = omega arith in
    whole_long scope at (parts_of (map expression_of xs)) c.in_ok-width-in-Concatenation.width c.in_ok-width-in-Concatenation.ensures.width few
    ∙ ap (length scope) same

pub collect_all-loop-part-preserved : goal.collect_all-loop-part-preserved
collect_all-loop-part-preserved t c =
    let scope = scope_of c.args.scope.now in
    let xs = c.args.list.now in
    let k = c.loop-part.part-index in
    let x = c.part-item.result in
    let here = c.loop-part-test.true in
    let is = c.part-item.is in
    let more = c.in_ok-more.ensures in
    let small : c.saturating_add-width.result ≤ 255 = omega (arith, c.saturating_add-width.ensures) in
    record {
      ahead = part_ahead scope xs k x here is more.faultless ∙ c.loop-part.invariant.ahead;
      wide = long_ahead scope xs k x c.loop-part.width c.in_ok-more.more c.saturating_add-width.result here is more.width c.saturating_add-width.ensures ∙ c.loop-part.invariant.wide;
      small = small;
      kept = leaves_ahead scope xs k x (map leaf_of c.loop-part.parts.items) (map leaf_of c.collect.new.parts.items) here is more.parts ∙ c.loop-part.invariant.kept;
    }

pub collect_all-returns-clause-width : goal.collect_all-returns-clause-width
collect_all-returns-clause-width t c =
    let none = none_long (scope_of c.args.scope.now) c.args.list.now c.loop-part.part-index c.loop-part-test.false in
    omega (arith, none)
