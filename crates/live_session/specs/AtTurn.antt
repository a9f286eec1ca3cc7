-- A session beside its pass of the book's turn.
use Rattle.std.specs.Prelude.{◌≡◌, Option, Some, None}
use Rattle.book_history.specs.Book.{Settings as BookSettings}
use Rattle.book_history.specs.Legal.{Legal}
use Rattle.book_history.specs.Owned.{owned}
use Rattle.book_turn.specs.Known.{Known}
use Rattle.cycle_eval.specs.declared.design.Design.{Design}
use Rattle.segment_verify.specs.Workers.{IsFree}
use Rattle.live_session.specs.Beside.{StandsBeside}
use Rattle.live_session.specs.Logs.{InputRow, Log, Ops, kit, valid}
use Rattle.live_session.specs.declared.session.Session.{Session}

abbrev pub Sight : Type 0
Sight = Known Design InputRow Ops

-- the settings that a pass carries, once its book is in the turn
abbrev pub carried_settings : Option BookSettings → BookSettings
carried_settings None = record { interval = 0; lookback = 0; rooms = record { session = 0; workers = 0 } }
carried_settings (Some st) = st

-- the history that it has seen
abbrev pub log_of : Sight → Log
log_of v = record { settings = carried_settings v.settings; events = v.seen }

-- The pass doesn't hold the book and has no ticket. What it has seen is legal, the session's entries in it are the pass's own list, and the session stands
-- beside it.
pub record StandsAt (s : Session) (v : Sight) : Type 0 where
  pub free : IsFree v
  pub carries : v.settings ≡ Some (log_of v).settings
  pub sees : owned v.seen ≡ v.own
  pub legal : Legal kit valid (log_of v).settings v.seen
  pub stands : StandsBeside s (log_of v)
