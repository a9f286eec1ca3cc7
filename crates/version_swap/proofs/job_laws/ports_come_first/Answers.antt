use Rattle.version_swap.proofs.Together.{table_there, ports_lead, shape_widths_lead, same_data_inputs}
use Rattle.version_swap.proofs.job_laws.ports_come_first.Goals as goal

pub returns-clause-table : goal.returns-clause-table
returns-clause-table c = table_there

pub returns-clause-ports : goal.returns-clause-ports
returns-clause-ports c = ports_lead

pub returns-clause-widths : goal.returns-clause-widths
returns-clause-widths c = shape_widths_lead

pub returns-clause-inputs : goal.returns-clause-inputs
returns-clause-inputs c = same_data_inputs
