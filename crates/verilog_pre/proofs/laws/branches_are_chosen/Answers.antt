use Rattle.verilog_pre.proofs.Branching.{first_is, next_is, opened_depth, closed_depth}
use Rattle.verilog_pre.proofs.laws.branches_are_chosen.Goals as goal

pub returns-clause-first : goal.returns-clause-first
returns-clause-first c = first_is

pub returns-clause-next : goal.returns-clause-next
returns-clause-next c = next_is

pub returns-clause-opened : goal.returns-clause-opened
returns-clause-opened c = opened_depth

pub returns-clause-closed : goal.returns-clause-closed
returns-clause-closed c = closed_depth
