use Rattle.statement_rules.proofs.Entries.{entries_fit}
use Rattle.statement_rules.proofs.Example.{scope_fits, expression_written, expression_right, statement_written, statement_right, assignments_written, assignments_right}
use Rattle.statement_rules.proofs.Forms.{form_sized, form_width, own_sized, own_width}
use Rattle.statement_rules.proofs.FittingLanes.{lanes_fit}
use Rattle.statement_rules.proofs.Lengths.{width_is}
use Rattle.statement_rules.proofs.Drives.{drives_fit}
use Rattle.statement_rules.proofs.FittingStatements.{legal}
use Rattle.statement_rules.proofs.Targets.{target_parts}
use Rattle.statement_rules.proofs.size_laws.sized_text_fits.Goals as goal

pub returns-clause-lengths : goal.returns-clause-lengths
returns-clause-lengths c = width_is

pub returns-clause-forms : goal.returns-clause-forms
returns-clause-forms c = form_sized

pub returns-clause-widths : goal.returns-clause-widths
returns-clause-widths c = form_width

pub returns-clause-own : goal.returns-clause-own
returns-clause-own c = own_sized

pub returns-clause-own_widths : goal.returns-clause-own_widths
returns-clause-own_widths c = own_width

pub returns-clause-targets : goal.returns-clause-targets
returns-clause-targets c = target_parts

pub returns-clause-statements : goal.returns-clause-statements
returns-clause-statements c = legal

pub returns-clause-drives : goal.returns-clause-drives
returns-clause-drives c = drives_fit

pub returns-clause-example : goal.returns-clause-example
returns-clause-example c =
    (scope_fits, (expression_written, expression_right), (statement_written, statement_right), (assignments_written, assignments_right))

pub returns-clause-lanes : goal.returns-clause-lanes
returns-clause-lanes c = lanes_fit

pub returns-clause-entries : goal.returns-clause-entries
returns-clause-entries c = entries_fit
