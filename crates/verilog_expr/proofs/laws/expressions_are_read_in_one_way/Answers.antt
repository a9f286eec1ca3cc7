use Rattle.verilog_expr.proofs.OneReading.{one_expression}
use Rattle.verilog_expr.proofs.Complete.{one_end}
use Rattle.verilog_expr.proofs.laws.expressions_are_read_in_one_way.Goals as goal

pub returns-clause-tree : goal.returns-clause-tree
returns-clause-tree c = one_expression

pub returns-clause-outcome : goal.returns-clause-outcome
returns-clause-outcome c = λ stack s a b p q. one_end p q
