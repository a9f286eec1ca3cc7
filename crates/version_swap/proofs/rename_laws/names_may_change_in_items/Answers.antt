use Rattle.version_swap.proofs.RenamedConnections.{same_instance_faults, same_instance_items}
use Rattle.version_swap.proofs.RenamedDrivers.{same_driver_faults, same_unit}
use Rattle.version_swap.proofs.RenamedForms.{same_form_of, same_shown}
use Rattle.version_swap.proofs.RenamedItems.{same_plain_faults, same_plain_initials, same_plain_items}
use Rattle.version_swap.proofs.RenamedMentions.{same_reads, same_targets}
use Rattle.version_swap.proofs.rename_laws.names_may_change_in_items.Goals as goal

pub returns-clause-reads : goal.returns-clause-reads
returns-clause-reads c = same_reads

pub returns-clause-targets : goal.returns-clause-targets
returns-clause-targets c = same_targets

pub returns-clause-shown : goal.returns-clause-shown
returns-clause-shown c = same_shown

pub returns-clause-target_forms : goal.returns-clause-target_forms
returns-clause-target_forms c = same_form_of

pub returns-clause-items : goal.returns-clause-items
returns-clause-items c = same_plain_items

pub returns-clause-initials : goal.returns-clause-initials
returns-clause-initials c = same_plain_initials

pub returns-clause-faults : goal.returns-clause-faults
returns-clause-faults c = same_plain_faults

pub returns-clause-connections : goal.returns-clause-connections
returns-clause-connections c = same_instance_items

pub returns-clause-connection_faults : goal.returns-clause-connection_faults
returns-clause-connection_faults c = same_instance_faults

pub returns-clause-drivers : goal.returns-clause-drivers
returns-clause-drivers c = same_driver_faults

pub returns-clause-units : goal.returns-clause-units
returns-clause-units c = same_unit
