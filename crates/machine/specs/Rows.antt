use Rattle.std.specs.Prelude.{◌≡◌, ℕ, zero, suc, ◌+◌, ◌-◌, ◌≤◌, List, [], ◌∷◌, ◌++◌, length, take, drop, replicate}
use Rattle.machine.specs.declared.row_run.RowRun.{RowRun}

-- the elements from index a to b - 1
abbrev pub slice : {R : Type 0} → List R → ℕ → ℕ → List R
slice rows a b = take (b - a) (drop a rows)

-- a row for each cycle
abbrev pub expanded : {R : Type 0} → List (RowRun R) → List R
expanded [] = []
expanded (r ∷ rs) = replicate (r.end - r.start) r.row.value ++ expanded rs

-- the runs lead from cycle a to cycle b without a gap
abbrev pub IsGapless : {R : Type 0} → ℕ → List (RowRun R) → ℕ → Type 0
IsGapless a [] b = a ≡ b
IsGapless a (r ∷ rs) b = (r.start ≡ a) × (r.start ≤ r.end) × IsGapless r.end rs b

-- the cycle at which the run at i begins, or at which the last one ends
abbrev pub begins_at : {R : Type 0} → ℕ → List (RowRun R) → ℕ → ℕ
begins_at a [] i = a
begins_at a (r ∷ rs) zero = a
begins_at a (r ∷ rs) (suc i) = begins_at r.end rs i

-- Rows are seen as the cycle of the first one, and one row for each cycle from there on.

-- the rows of the cycles from a to b - 1
abbrev pub between : {R : Type 0} → ℕ × List R → ℕ → ℕ → List R
between rows a b = slice rows.1 (a - rows.0) (b - rows.0)

-- there is a row for each cycle from a to b - 1
pub record Covers {R : Type 0} (rows : ℕ × List R) (a b : ℕ) : Type 0 where
  pub begins : rows.0 ≤ a
  pub rises : a ≤ b
  pub ends : b ≤ rows.0 + length rows.1

-- the second list is the first and then a run like this one
pub record IsWithRun {R : Type 0} (old : List (RowRun R)) (r : RowRun R) (new : List (RowRun R)) : Type 0 where
  pub added : RowRun R
  pub items : new ≡ old ++ added ∷ []
  pub start : added.start ≡ r.start
  pub end : added.end ≡ r.end
  pub row : added.row.value ≡ r.row.value

-- the second list is the first and then runs with the rows of these
pub record IsWithRuns {R : Type 0} (old runs new : List (RowRun R)) : Type 0 where
  pub added : List (RowRun R)
  pub items : new ≡ old ++ added
  pub rows : expanded added ≡ expanded runs
  pub gapless : (a b : ℕ) → IsGapless a runs b → IsGapless a added b
