use Rattle.std.proofs.Common.{◌≡◌, ◌++◌, drop}
use Rattle.module_names.proofs.ports.add_names.Given as goal

abbrev pub invariant-loop-one : goal.invariant-loop-one
invariant-loop-one l =
    l.names ++ drop l.one-index l.all ≡ l.initial.names ++ l.all
