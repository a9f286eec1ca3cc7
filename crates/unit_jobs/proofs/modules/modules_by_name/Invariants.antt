use Rattle.std.proofs.Common.{◌≡◌, []}
use Rattle.std.specs.Vec.Iter.{into_iter_items}
use Rattle.unit_jobs.specs.FirstModules.{first_modules}
use Rattle.unit_jobs.specs.TableViews.{modules_of}
use Rattle.unit_jobs.proofs.modules.modules_by_name.Given as goal

-- those so far, and what is left
abbrev pub invariant-loop-one : goal.invariant-loop-one
invariant-loop-one l = first_modules (modules_of l.table) (into_iter_items l.one-iterator) ≡ first_modules [] l.fn.modules.items
