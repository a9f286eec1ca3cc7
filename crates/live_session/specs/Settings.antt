-- What a session is run with.
use Rattle.std.specs.Prelude.{ℕ}

-- the interval of the marks and the lookback of an edit, in cycles; and the most cycles, names set in the rows of the record, each counted once
-- for a stretch of equal rows, and entries of the session
pub record Settings : Type 0 where
  pub interval : ℕ
  pub lookback : ℕ
  pub cycles : ℕ
  pub stimulus : ℕ
  pub room : ℕ
