use Rattle.statement_rules.proofs.FittingLanes.{scope_fits}
use Rattle.statement_rules.proofs.RenumberedFaults.{faults_as, target_long_as, target_faults_as, kinds_as}
use Rattle.statement_rules.proofs.RenumberedForms.{sign_as, long_as, fixed_as, integer_as, constant_as, form_as}
use Rattle.statement_rules.proofs.RenumberedStatements.{same_statement, statement_faults_as, same_drive, assign_faults_as}
use Rattle.statement_rules.proofs.RenumberedTargets.{parts_as}
use Rattle.statement_rules.proofs.size_laws.signals_may_be_renumbered.Goals as goal

pub returns-clause-signs : goal.returns-clause-signs
returns-clause-signs c = sign_as

pub returns-clause-lengths : goal.returns-clause-lengths
returns-clause-lengths c = long_as

pub returns-clause-known : goal.returns-clause-known
returns-clause-known c = fixed_as

pub returns-clause-values : goal.returns-clause-values
returns-clause-values c = integer_as

pub returns-clause-forms : goal.returns-clause-forms
returns-clause-forms c = form_as

pub returns-clause-faults : goal.returns-clause-faults
returns-clause-faults c = faults_as

pub returns-clause-targets : goal.returns-clause-targets
returns-clause-targets c = parts_as

pub returns-clause-target_lengths : goal.returns-clause-target_lengths
returns-clause-target_lengths c = target_long_as

pub returns-clause-target_faults : goal.returns-clause-target_faults
returns-clause-target_faults c = target_faults_as

pub returns-clause-kinds : goal.returns-clause-kinds
returns-clause-kinds c = kinds_as

pub returns-clause-statements : goal.returns-clause-statements
returns-clause-statements c = same_statement

pub returns-clause-statement_faults : goal.returns-clause-statement_faults
returns-clause-statement_faults c = statement_faults_as

pub returns-clause-drives : goal.returns-clause-drives
returns-clause-drives c = same_drive

pub returns-clause-drive_faults : goal.returns-clause-drive_faults
returns-clause-drive_faults c = assign_faults_as

pub returns-clause-scopes : goal.returns-clause-scopes
returns-clause-scopes c = scope_fits

pub returns-clause-constants : goal.returns-clause-constants
returns-clause-constants c = constant_as
