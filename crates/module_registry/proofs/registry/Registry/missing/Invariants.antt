use Rattle.std.proofs.Common.{◌≡◌, ◌++◌, drop}
use Rattle.module_registry.specs.Entries.{keys_of, missing}
use Rattle.module_registry.specs.Views.{entries_of}
use Rattle.module_registry.proofs.registry.Registry.missing.Given as goal

abbrev pub invariant-loop-key : goal.invariant-loop-key
invariant-loop-key l =
    l.missing.items ++ missing (keys_of (entries_of l.self)) (drop l.key-index l.keys) ≡ missing (keys_of (entries_of l.self)) l.keys
