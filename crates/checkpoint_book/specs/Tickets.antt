-- What the type of a ticket keeps.
use Rattle.std.specs.Prelude.{◌≡◌, ℕ, ◌+◌, ◌≤◌, List, length}

-- its rows are those of its cycles, and its start is its machine's own
pub record IsTicket {S R : Type 0} (fits : S → Type 0) (a b : ℕ) (rows : ℕ × List R) (start : S) : Type 0 where
  pub rises : a ≤ b
  pub begins : rows.0 ≡ a
  pub ends : a + length rows.1 ≡ b
  pub fit : fits start
