use Rattle.std.proofs.Common.{◌≡◌, ◌++◌, All, map, length}
use Rattle.std.specs.Vec.Iter.{into_iter_items}
use Rattle.ls_text.specs.Texts.{Grows}
use Rattle.unit_jobs.specs.JobViews.{job_view}
use Rattle.unit_jobs.specs.UnnamedViews.{unnamed_view}
use Rattle.unit_jobs.proofs.Numbers.{AreKnown}
use Rattle.unit_jobs.proofs.naming.all_named.Given as goal

-- the jobs so far, and those that are left
abbrev pub invariant-loop-one : goal.invariant-loop-one
invariant-loop-one l = record {
  left : map (job_view l.names) l.jobs.items ++ map unnamed_view (into_iter_items l.one-iterator) ≡ map unnamed_view l.fn.unnamed.items;
  named : All (AreKnown (length l.names)) l.jobs.items;
  grows : Grows l.initial.names l.names;
}
