-- What stands where memory ran out: nothing of the command, or of a settle what it did so far.
use Rattle.std.specs.Prelude.{◌≡◌, ℕ, ◌<◌, min, Bool, true, List, [], length, ◌++◌, Option, Ok}
use Rattle.book_history.specs.Owned.{AllOwned, owned}
use Rattle.segment_verify.specs.Passes.{IsUnfinished}
use Rattle.command_read.specs.Asking.{Asked, Settles}
use Rattle.live_session.specs.Logs.{Log, LogEvent}
use Rattle.live_session.specs.Settings.{Settings}
use Rattle.live_session.specs.Verdicts.{passes_of, settle_verdict}
use Rattle.live_session.specs.Worlds.{World}

-- The history has grown by entries of others, and by none where the session is alone.
pub record HasStayed (alone : Bool) (was is : Log) : Type 0 where
  pub added : List LogEvent
  pub settings : is.settings ≡ was.settings
  pub events : is.events ≡ was.events ++ added
  pub none_own : owned added ≡ []
  pub none : alone ≡ true → added ≡ []

-- It was accepted and charged, as if it had ended. The passes that it made stand, fewer than it had to make, and perhaps one that it gave up; no show
-- stands.
pub record IsCutShort (alone : Bool) (st : Settings) (asked : Asked) (old new : World) (was is : Log) : Type 0 where
  pub line : ℕ
  pub passes : Option ℕ
  pub added : List LogEvent
  pub settles : asked ≡ Settles line passes
  pub settings : is.settings ≡ was.settings
  pub events : is.events ≡ was.events ++ added
  pub unfinished : IsUnfinished (owned added)
  pub all_own : alone ≡ true → AllOwned true added
  pub few : unfinished.count < min (passes_of old passes) (length old.grid)
  pub accepted : settle_verdict st old line passes old.design ≡ Ok new
