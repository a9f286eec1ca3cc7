use Rattle.std.proofs.Common.{sym, ap, ◌∙◌}
use Rattle.module_registry.specs.Keys.{KeyData, same}
use Rattle.indexmap.specs.IndexMap.{insert_entry}
use Rattle.module_registry.proofs.Held.{one_more}
use Rattle.module_registry.proofs.registry.Registry.add.Goals as goal

pub returns-clause-more : goal.returns-clause-more
returns-clause-more c =
    one_more c.args.self.now.units.entries c.insert.new.self.entries c.args.key.now c.args.unit.now c.in_ok-clone-2.field-0
    (c.in_ok-insert.ensures.entries
    ∙ ap (λ (k : KeyData). insert_entry same c.args.self.now.units.entries k c.in_ok-clone-2.field-0) c.in_ok-clone.ensures.cases)
    c.requires c.in_ok-clone-2.ensures.cases
