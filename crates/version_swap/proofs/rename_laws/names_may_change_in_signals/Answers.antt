use Rattle.version_swap.proofs.RenamedTables.{same_inputs, same_registers, same_signals, same_table}
use Rattle.version_swap.proofs.RenamedUnitReaches.{same_unit_beginning, same_unit_reach}
use Rattle.version_swap.proofs.rename_laws.names_may_change_in_signals.Goals as goal

pub returns-clause-tables : goal.returns-clause-tables
returns-clause-tables c = same_table

pub returns-clause-signals : goal.returns-clause-signals
returns-clause-signals c = same_signals

pub returns-clause-inputs : goal.returns-clause-inputs
returns-clause-inputs c = same_inputs

pub returns-clause-registers : goal.returns-clause-registers
returns-clause-registers c = same_registers

pub returns-clause-beginnings : goal.returns-clause-beginnings
returns-clause-beginnings c = same_unit_beginning

pub returns-clause-reaches : goal.returns-clause-reaches
returns-clause-reaches c = same_unit_reach
