use Rattle.std.proofs.Common.{map}
use Rattle.module_registry.specs.Views.{entry_of, entries_of}
use Rattle.module_registry.proofs.News.{IsCopying}
use Rattle.module_registry.proofs.registry.Registry.copy.Given as goal

abbrev pub invariant-loop-key : goal.invariant-loop-key
invariant-loop-key l = IsCopying (entries_of l.self) (entries_of l.copy) (map entry_of l.key-iterator)
