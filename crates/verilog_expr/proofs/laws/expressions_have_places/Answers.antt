use Rattle.verilog_expr.proofs.Placed.{expression_placed, select_placed}
use Rattle.verilog_expr.proofs.laws.expressions_have_places.Goals as goal

pub returns-clause-expressions : goal.returns-clause-expressions
returns-clause-expressions c = expression_placed

pub returns-clause-references : goal.returns-clause-references
returns-clause-references c = select_placed
