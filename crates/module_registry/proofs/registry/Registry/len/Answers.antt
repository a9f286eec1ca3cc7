use Rattle.module_registry.proofs.Held.{once}
use Rattle.module_registry.proofs.registry.Registry.len.Goals as goal

pub returns-clause-once : goal.returns-clause-once
returns-clause-once c = once c.args.self.now.units.entries c.len.ensures.unique
