use Rattle.std.proofs.Common.{drop, map}
use Rattle.link.specs.Listings.{all_parts}
use Rattle.unit_jobs.specs.Rows.{row_of}
use Rattle.unit_rows.specs.Standing.{AreWith}
use Rattle.unit_rows.proofs.standing.are_with.Given as goal

abbrev pub invariant-loop-row : goal.invariant-loop-row
invariant-loop-row l =
    AreWith (map row_of (drop l.row-index l.rows)) l.left (all_parts l.rest) → AreWith (map row_of l.rows) l.instances (all_parts l.units)
