-- A command that was carried out beside a book.
use Rattle.std.specs.Prelude.{◌≡◌, ℕ, Bool, true, List, ◌++◌, Some, Result, is_err}
use Rattle.ls_text.specs.Readings.{TextFault}
use Rattle.book_history.specs.Owned.{AllOwned, owned}
use Rattle.command_read.specs.Asking.{Asked}
use Rattle.live_session.specs.Judging.{world_or}
use Rattle.live_session.specs.Loads.{LoadAnswer}
use Rattle.live_session.specs.Logs.{Log, LogEvent, LogMoment, moments_after}
use Rattle.live_session.specs.Replies.{answer_text}
use Rattle.live_session.specs.Scripts.{IsPart}
use Rattle.live_session.specs.Settings.{Settings}
use Rattle.live_session.specs.Spelled.{Answer}
use Rattle.live_session.specs.Verdicts.{Told}
use Rattle.live_session.specs.Worlds.{World, Refused}

abbrev pub told : Result Asked TextFault → List LoadAnswer → Answer → Told
told asked loads answer = record { asked = asked; loads = loads; answer = answer }

-- A command was judged so, in the world `old`: the history has grown, by entries of the session alone where that is said, its own entries among them are
-- those of the command, and the book at its own entry was as the world; its lines are those at its place, whatever entries come behind.
pub record IsDone (alone : Bool) (st : Settings) (asked : Result Asked TextFault) (old new : World) (v : Result World Refused) (was is : Log) (text : List ℕ)
    (refused : Bool) : Type 0 where
  pub added : List LogEvent
  pub settings : is.settings ≡ was.settings
  pub events : is.events ≡ was.events ++ added
  pub goes : new ≡ world_or old v
  pub refusal : refused ≡ is_err v
  pub all_own : alone ≡ true → AllOwned true added
  pub part : IsPart st asked old (owned added) (moments_after was added) v
  pub tells : (rest : List LogMoment) → answer_text st asked old v (moments_after was added ++ rest) ≡ Some (text, rest)
