use Rattle.std.proofs.Common.{◌≡◌, ◌≤◌, ℕ, ◌+◌, List, min, map, sym, ◌∙◌, arith}
use Rattle.std.proofs.lemmas.List.{at_drop_all}
use Rattle.verilog_ast.specs.declared.target.Lhs.{Lhs}
use Rattle.verilog_ast.specs.Views.{target_of, targets_of}
use Rattle.width_rules.specs.Entries.{scope_of}
use Rattle.statement_rules.specs.Targets.{target_length}
use Rattle.statement_rules.proofs.targeting.+collect.Goals as goal

small : (w : ℕ) → w ≤ 255 → w ≡ min (w + 0) 255
small w h = omega arith

pub collect_all-returns-clause-width : goal.collect_all-returns-clause-width
collect_all-returns-clause-width t c =
    let scope = scope_of c.args.scope.now in
    let w = c.loop-target.width in
    small w c.loop-target.invariant.small
    ∙ sym (at_drop_all (λ (ys : List Lhs). min (w + target_length scope (targets_of (map target_of ys))) 255) c.args.list.now c.loop-target.target-index c.loop-target-test.false)
    ∙ c.loop-target.invariant.wide
