use Rattle.verilog_parse.proofs.RenamedText.{same_declarations, same_fault, not_both}
use Rattle.verilog_parse.proofs.laws.names_may_change.Goals as goal

pub returns-clause-modules : goal.returns-clause-modules
returns-clause-modules c = same_declarations

pub returns-clause-fault : goal.returns-clause-fault
returns-clause-fault c = same_fault

pub returns-clause-either : goal.returns-clause-either
returns-clause-either c = not_both
