use Rattle.std.proofs.Common.{◌++◌, map, drop}
use Rattle.module_registry.specs.Entries.{entries}
use Rattle.module_registry.specs.UnitViews.{shared_unit}
use Rattle.module_registry.specs.Views.{entries_of}
use Rattle.module_registry.proofs.News.{IsGoing}
use Rattle.module_registry.proofs.registry.Registry.add_all.Given as goal

abbrev pub invariant-loop-key : goal.invariant-loop-key
invariant-loop-key l =
    IsGoing (entries_of l.fn.self) (entries_of l.fn.self ++ entries l.keys (map shared_unit l.units)) (entries_of l.self)
    (drop l.key-index l.keys) (map shared_unit l.rest)
