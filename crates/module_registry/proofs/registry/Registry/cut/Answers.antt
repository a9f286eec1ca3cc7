use Rattle.module_registry.proofs.Held.{cut_entries, cut_holds}
use Rattle.module_registry.proofs.registry.Registry.cut.Goals as goal

pub returns-clause-entries : goal.returns-clause-entries
returns-clause-entries c = cut_entries c.args.len c.args.self.now.units.entries c.truncate.new.self.entries c.truncate.ensures.entries

pub returns-clause-holds : goal.returns-clause-holds
returns-clause-holds c = cut_holds c.args.len c.args.self.now.units.entries c.truncate.new.self.entries c.truncate.ensures.entries
