use Rattle.std.proofs.Common.{◌≡◌, ◌++◌, ◌<◌, ℕ, List, map, drop}
use Rattle.typed_ir.specs.declared.instance_name.InstanceName.{InstanceName}
use Rattle.typed_ir.specs.Flats.{signal_of, are_within}
use Rattle.typed_ir.specs.Trees.{signal_there}
use Rattle.typed_ir.specs.Units.{signal_within}
use Rattle.link.specs.Copies.{path_at}
use Rattle.link.proofs.copying.add_signals.Given as goal

abbrev pub invariant-loop-x : goal.invariant-loop-x
invariant-loop-x l = record {
  left : (rows : List InstanceName) →
      map (signal_of rows) l.signals.items ++ map (signal_there (path_at rows l.instance)) (map signal_within (drop l.x-index l.own))
      ≡ map (signal_of rows) l.initial.signals.items ++ map (signal_there (path_at rows l.instance)) (map signal_within l.own);
  there : (count : ℕ) → l.instance < count → are_within l.signals.items count ≡ are_within l.initial.signals.items count;
}
