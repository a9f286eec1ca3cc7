use Rattle.width_rules.proofs.RenamedSizes.{same_sign, same_length, same_form, same_value}
use Rattle.width_rules.proofs.RenamedFaults.{same_faults, same_sizing}
use Rattle.width_rules.proofs.RenamedReferences.{same_reference, same_reference_faults}
use Rattle.width_rules.proofs.laws.names_may_change.Goals as goal

pub returns-clause-signs : goal.returns-clause-signs
returns-clause-signs c = same_sign

pub returns-clause-lengths : goal.returns-clause-lengths
returns-clause-lengths c = same_length

pub returns-clause-forms : goal.returns-clause-forms
returns-clause-forms c = same_form

pub returns-clause-values : goal.returns-clause-values
returns-clause-values c = same_value

pub returns-clause-faults : goal.returns-clause-faults
returns-clause-faults c = same_faults

pub returns-clause-contexts : goal.returns-clause-contexts
returns-clause-contexts c = same_sizing

pub returns-clause-references : goal.returns-clause-references
returns-clause-references c = same_reference

pub returns-clause-reference_faults : goal.returns-clause-reference_faults
returns-clause-reference_faults c = same_reference_faults
