use Rattle.std.proofs.Common.{◌≡◌, map}
use Rattle.std.specs.Vec.Iter.{into_iter_items}
use Rattle.unit_jobs.specs.Rows.{jobs_behind, jobs_in_rows, row_of}
use Rattle.unit_jobs.specs.TableViews.{modules_of}
use Rattle.unit_jobs.specs.UnnamedViews.{unnamed_view}
use Rattle.unit_jobs.proofs.preparing.all_prepared.Given as goal

-- the jobs so far, and those that are left
abbrev pub invariant-loop-within : goal.invariant-loop-within
invariant-loop-within l =
    jobs_behind (map unnamed_view l.jobs.items) (jobs_in_rows l.names (modules_of l.table) (map row_of (into_iter_items l.within-iterator)) l.rest)
    ≡ jobs_in_rows l.names (modules_of l.table) (map row_of l.fn.rows.items) l.instances
