use Rattle.elaborate.proofs.RenamedModules.{same_named, same_parameters, same_ports, same_input_of}
use Rattle.elaborate.proofs.RenamedOverrides.{same_overridden, same_connected}
use Rattle.elaborate.proofs.design_laws.names_may_change_in_headers.Goals as goal

pub returns-clause-modules : goal.returns-clause-modules
returns-clause-modules c = same_named

pub returns-clause-parameters : goal.returns-clause-parameters
returns-clause-parameters c = same_parameters

pub returns-clause-ports : goal.returns-clause-ports
returns-clause-ports c = same_ports

pub returns-clause-inputs : goal.returns-clause-inputs
returns-clause-inputs c = same_input_of

pub returns-clause-overrides : goal.returns-clause-overrides
returns-clause-overrides c = same_overridden

pub returns-clause-connections : goal.returns-clause-connections
returns-clause-connections c = same_connected
