use Rattle.verilog_decl.proofs.PlacedDeclarations.{declaration_placed}
use Rattle.verilog_decl.proofs.laws.declarations_have_places.Goals as goal

pub returns-clause-variables : goal.returns-clause-variables
returns-clause-variables c x s r h = declaration_placed h

pub returns-clause-regs : goal.returns-clause-regs
returns-clause-regs c x s r h = declaration_placed h

pub returns-clause-parameters : goal.returns-clause-parameters
returns-clause-parameters c x s r h = declaration_placed h

pub returns-clause-instances : goal.returns-clause-instances
returns-clause-instances c x s r h = declaration_placed h

pub returns-clause-by_name : goal.returns-clause-by_name
returns-clause-by_name c x s r h = (declaration_placed h).0

pub returns-clause-given : goal.returns-clause-given
returns-clause-given c x s r h = (declaration_placed h).1

pub returns-clause-by_order : goal.returns-clause-by_order
returns-clause-by_order c x s r h = declaration_placed h

pub returns-clause-names : goal.returns-clause-names
returns-clause-names c xs s r h = declaration_placed h
