use Rattle.statement_rules.proofs.RenamedStatements.{same_statement, same_statement_faults, same_drive, same_assign_faults}
use Rattle.statement_rules.proofs.RenamedTargets.{same_parts, same_target_faults, same_kinds}
use Rattle.statement_rules.proofs.laws.names_may_change.Goals as goal

pub returns-clause-statements : goal.returns-clause-statements
returns-clause-statements c = same_statement

pub returns-clause-faults : goal.returns-clause-faults
returns-clause-faults c = same_statement_faults

pub returns-clause-drives : goal.returns-clause-drives
returns-clause-drives c = same_drive

pub returns-clause-drive_faults : goal.returns-clause-drive_faults
returns-clause-drive_faults c = same_assign_faults

pub returns-clause-targets : goal.returns-clause-targets
returns-clause-targets c = same_parts

pub returns-clause-target_faults : goal.returns-clause-target_faults
returns-clause-target_faults c = same_target_faults

pub returns-clause-kinds : goal.returns-clause-kinds
returns-clause-kinds c = same_kinds
