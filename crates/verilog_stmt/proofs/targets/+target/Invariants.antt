use Rattle.std.proofs.Common.{◌≤◌, ◌*◌, ◌+◌, length, [], ◌∷◌}
use Rattle.verilog_expr.specs.Grammar as grammar
use Rattle.verilog_expr.specs.Grammar.{N}
use Rattle.verilog_expr.specs.Reads.{Leads}
use Rattle.verilog_expr.proofs.Lists.{Grows}
use Rattle.verilog_stmt.specs.Statements as spells
use Rattle.verilog_stmt.specs.Statements.{Spells}
use Rattle.verilog_stmt.proofs.targets.+target.Given as goal

abbrev pub decreases-target : goal.decreases-target
decreases-target l = 2 * length l.p.now

abbrev pub decreases-braces : goal.decreases-braces
decreases-braces l = 2 * length l.p.now + 1

abbrev pub decreases-more_targets : goal.decreases-more_targets
decreases-more_targets l = 2 * length l.p.now

abbrev pub invariant-more_targets-items : goal.invariant-more_targets-items
invariant-more_targets-items l = record {
  machine : Leads (N grammar.MoreTargets l.weight ∷ []) l.fn.p (N grammar.MoreTargets l.weight ∷ []) l.p;
  tree : Grows (λ xs s r. Spells (spells.OtherTargets xs) s r) (λ xs r. Spells (spells.TargetsBehind l.fn.first xs) l.fn.p r) l.all l.p;
  shorter : length l.p ≤ length l.fn.p;
}

abbrev pub decreases-more_targets-items : goal.decreases-more_targets-items
decreases-more_targets-items l = length l.p
