-- A book or a history as contracts see it.
use Rattle.std.specs.Prelude.{List}
use Rattle.book_history.specs.Event.{Settings, Event}

pub record Journal (D R O : Type 0) : Type 0 where
  pub settings : Settings
  pub events : List (Event D R O)
