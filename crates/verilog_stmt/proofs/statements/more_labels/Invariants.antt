use Rattle.std.proofs.Common.{◌≤◌, length, [], ◌∷◌}
use Rattle.verilog_expr.specs.Grammar as grammar
use Rattle.verilog_expr.specs.Grammar.{N}
use Rattle.verilog_expr.specs.Reads.{Leads}
use Rattle.verilog_expr.proofs.Lists.{Grows}
use Rattle.verilog_stmt.specs.Statements as spells
use Rattle.verilog_stmt.specs.Statements.{Spells}
use Rattle.verilog_stmt.proofs.statements.more_labels.Given as goal

abbrev pub invariant-items : goal.invariant-items
invariant-items l = record {
  machine : Leads (N (grammar.MoreLabels l.which) l.weight ∷ []) l.fn.p (N (grammar.MoreLabels l.which) l.weight ∷ []) l.p;
  tree : Grows (λ xs s r. Spells (spells.OtherLabels l.which xs) s r) (λ xs r. Spells (spells.LabelsBehind l.which l.fn.first xs) l.fn.p r) l.all l.p;
  shorter : length l.p ≤ length l.fn.p;
}

abbrev pub decreases-items : goal.decreases-items
decreases-items l = length l.p
