use Rattle.statement_rules.proofs.Driven.{nets_driven}
use Rattle.statement_rules.proofs.value_laws.values_are_drives.Goals as goal

pub returns : goal.returns
returns c = nets_driven
