use Rattle.std.proofs.Common.{◌≤◌, ◌*◌, ◌+◌, length, [], ◌∷◌}
use Rattle.verilog_expr.specs.Grammar as grammar
use Rattle.verilog_expr.specs.Grammar.{N}
use Rattle.verilog_expr.specs.Reads.{Leads}
use Rattle.verilog_expr.proofs.Lists.{Grows}
use Rattle.verilog_stmt.specs.Statements as spells
use Rattle.verilog_stmt.specs.Statements.{Spells}
use Rattle.verilog_stmt.proofs.statements.+statement.Given as goal

abbrev pub decreases-statement : goal.decreases-statement
decreases-statement l = 4 * length l.p.now

abbrev pub decreases-if_statement : goal.decreases-if_statement
decreases-if_statement l = 4 * length l.p.now

abbrev pub decreases-alternative : goal.decreases-alternative
decreases-alternative l = 4 * length l.p.now

abbrev pub decreases-case_statement : goal.decreases-case_statement
decreases-case_statement l = 4 * length l.p.now

abbrev pub decreases-arm : goal.decreases-arm
decreases-arm l = 4 * length l.p.now

abbrev pub decreases-more_arms : goal.decreases-more_arms
decreases-more_arms l = 4 * length l.p.now + 1

abbrev pub decreases-statements : goal.decreases-statements
decreases-statements l = 4 * length l.p.now + 1

abbrev pub invariant-more_arms-items : goal.invariant-more_arms-items
invariant-more_arms-items l = record {
  machine : Leads (N (grammar.MoreArms l.sign l.which) l.weight ∷ []) l.fn.p (N (grammar.MoreArms l.sign l.which) l.weight ∷ []) l.p;
  tree : Grows (λ xs s r. Spells (spells.OtherArms l.sign l.which xs) s r) (λ xs r. Spells (spells.ArmsBehind l.sign l.which l.fn.first xs) l.fn.p r) l.all l.p;
  shorter : length l.p ≤ length l.fn.p;
}

abbrev pub decreases-more_arms-items : goal.decreases-more_arms-items
decreases-more_arms-items l = length l.p

abbrev pub invariant-statements-items : goal.invariant-statements-items
invariant-statements-items l = record {
  machine : Leads (N (grammar.Statements l.sign) l.weight ∷ []) l.fn.p (N (grammar.Statements l.sign) l.weight ∷ []) l.p;
  tree : Grows (λ xs s r. Spells (spells.Statements l.sign xs) s r) (λ xs r. Spells (spells.Statements l.sign xs) l.fn.p r) l.all l.p;
  shorter : length l.p ≤ length l.fn.p;
}

abbrev pub decreases-statements-items : goal.decreases-statements-items
decreases-statements-items l = length l.p
