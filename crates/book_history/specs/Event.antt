-- The settings of a book, and the entries of its history with all that belongs to them.
use Rattle.std.specs.Prelude.{ℕ, List, Bool, Option}
use Rattle.book_history.specs.declared.who.Who.{Who}
use Rattle.book_history.specs.declared.rooms.Rooms.{Rooms}

pub record Settings : Type 0 where
  pub interval : ℕ
  pub lookback : ℕ
  pub rooms : Rooms

-- an entry of a history with all its data
pub data Event (D R O : Type 0) : Type 0 where
  Opens : (version : ℕ) → D → Event D R O
  Runs : (n : ℕ) → List R → Event D R O
  Reloads : (version : ℕ) → D → O → (from : ℕ) → Event D R O
  Claims : (ticket a b : ℕ) → Who → Event D R O
  Installs : (ticket : ℕ) → (joined : Bool) → Who → Event D R O
  Releases : (ticket : ℕ) → Who → Event D R O
  Shows : Option ℕ → Event D R O
  Closes : Event D R O
