use Rattle.std.proofs.Common.{◌≡◌, ◌++◌, map}
use Rattle.std.specs.Vec.Iter.{into_iter_items}
use Rattle.version_swap.specs.FirstKeys.{key_of}
use Rattle.version_swap.proofs.keys.keys_of.Given as goal

abbrev pub invariant-loop-job : goal.invariant-loop-job
invariant-loop-job l = l.keys.items ++ map (key_of l.names) (into_iter_items l.job-iterator) ≡ map (key_of l.names) l.fn.jobs.items
