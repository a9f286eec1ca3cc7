-- A ticket, and the ticket of a number.
use Rattle.std.specs.Prelude.{ℕ, ◌+◌, List, [], ◌∷◌, length, Option, Some, None, if◌then◌else◌, eqb}
use Rattle.book_history.specs.declared.who.Who.{Who}

-- a ticket as it was drawn. Its number is its place among the tickets drawn, from 1 on
pub record DrawnTicket (D S R : Type 0) : Type 0 where
  pub by : Who
  pub version : ℕ
  pub machine : D
  pub a : ℕ
  pub b : ℕ
  pub rows : List R
  pub start : S

-- the ticket with this number; the list has the newest first
abbrev pub drawn : {D S R : Type 0} → ℕ → List (DrawnTicket D S R) → Option (DrawnTicket D S R)
drawn n [] = None
drawn n (t ∷ ts) = if eqb n (length ts + 1) then Some t else drawn n ts
