-- Runs of equal rows, as a record keeps them: without a gap, none of them empty, and no two neighbours with equal rows.
use Rattle.std.specs.Prelude.{ℕ, ◌+◌, ◌==◌, ◌&&◌, nat_lt, not, Bool, true, false, List, [], ◌∷◌, Option, Some, None, length}
use Rattle.machine.specs.declared.row_run.RowRun.{RowRun}
use Rattle.stimulus.specs.Rows.{are_same}

-- another row than the one before; None: there is none before
abbrev pub differs : Option (List (ℕ × ℕ)) → List (ℕ × ℕ) → Bool
differs None row = true
differs (Some last) row = not (are_same last row)

-- from a cycle on, behind a row
abbrev pub are_runs_behind : ℕ → Option (List (ℕ × ℕ)) → List (RowRun (List (ℕ × ℕ))) → Bool
are_runs_behind start last [] = true
are_runs_behind start last (r ∷ rs) =
    ((r.start == start) && (nat_lt r.start r.end && differs last r.row.value)) && are_runs_behind r.end (Some r.row.value) rs

-- from the first cycle on
abbrev pub are_runs : List (RowRun (List (ℕ × ℕ))) → Bool
are_runs runs = are_runs_behind 0 None runs

-- the names that are set in each of them, together
abbrev pub names_in : List (RowRun (List (ℕ × ℕ))) → ℕ
names_in [] = 0
names_in (r ∷ rs) = length r.row.value + names_in rs

-- the last of them has this row
abbrev pub ends_with : List (RowRun (List (ℕ × ℕ))) → List (ℕ × ℕ) → Bool
ends_with [] row = false
ends_with (r ∷ []) row = are_same r.row.value row
ends_with (r ∷ s ∷ rs) row = ends_with (s ∷ rs) row

-- the last of them ends at this cycle
abbrev pub with_end : List (RowRun (List (ℕ × ℕ))) → ℕ → List (RowRun (List (ℕ × ℕ)))
with_end [] cycle = []
with_end (r ∷ []) cycle = record { start = r.start; end = cycle; row = r.row } ∷ []
with_end (r ∷ s ∷ rs) cycle = r ∷ with_end (s ∷ rs) cycle
