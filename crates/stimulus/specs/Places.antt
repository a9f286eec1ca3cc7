-- Where a name stands in a row, or would go.
use Rattle.std.specs.Prelude.{◌≡◌, ℕ, ◌<◌, ◌≤◌, List, length}
use Rattle.stimulus.specs.Rows.{name_at}

-- the name stands there
pub record IsAt (row : List (ℕ × ℕ)) (name place : ℕ) : Type 0 where
  pub within : place < length row
  pub has_name : name_at row place ≡ name

-- the name would go there: smaller names stand before it, and greater ones from there on
pub record IsGapFor (row : List (ℕ × ℕ)) (name place : ℕ) : Type 0 where
  pub within : place ≤ length row
  pub before : (i : ℕ) → i < place → name_at row i < name
  pub after : (i : ℕ) → place ≤ i → i < length row → name < name_at row i
