use Rattle.std.proofs.Common.{◌≤◌, length, [], ◌∷◌}
use Rattle.verilog_expr.specs.Grammar as grammar
use Rattle.verilog_expr.specs.Grammar.{N}
use Rattle.verilog_expr.specs.Reads.{Leads}
use Rattle.verilog_expr.proofs.Lists.{Grows}
use Rattle.verilog_parse.specs.Items as spells
use Rattle.verilog_parse.specs.Items.{Spells}
use Rattle.verilog_parse.proofs.items.more_assignments.Given as goal

abbrev pub invariant-items : goal.invariant-items
invariant-items l = record {
  machine : Leads (N grammar.MoreAssignments l.weight ∷ []) l.fn.p (N grammar.MoreAssignments l.weight ∷ []) l.p;
  tree : Grows (λ xs s r. Spells (spells.OtherAssignments xs) s r) (λ xs r. Spells (spells.AssignmentsBehind l.fn.first xs) l.fn.p r) l.all l.p;
  shorter : length l.p ≤ length l.fn.p;
}

abbrev pub decreases-items : goal.decreases-items
decreases-items l = length l.p
