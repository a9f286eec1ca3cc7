-- The history of a run.
use Rattle.std.specs.Prelude.{◌≡◌, List, [], ◌∷◌, ◌++◌}
use Rattle.book_history.specs.Book.{Closes}
use Rattle.book_history.specs.Owned.{owned}
use Rattle.live_session.specs.Logs.{Log, LogEvent}

-- The session has closed its book, whose history was `now` when it last had it; others may have added entries before the close and behind it.
pub record EndsFrom (now h : Log) : Type 0 where
  pub rest : List LogEvent
  pub settings : h.settings ≡ now.settings
  pub events : h.events ≡ now.events ++ rest
  pub closes : owned rest ≡ Closes ∷ []
