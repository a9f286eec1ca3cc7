-- What kind of entry an event is. The rules of whose it is, of tickets and of rooms are written over it.
use Rattle.std.specs.Prelude.{ℕ, Bool, true, false}
use Rattle.book_history.specs.declared.who.Who.{Who}
use Rattle.book_history.specs.declared.who.Who.TheVariants.{Session, Worker}
use Rattle.book_history.specs.Event.{Event, Opens, Runs, Reloads, Claims, Installs, Releases, Shows, Closes}

-- the session's own; one that draws a ticket for its asker; one with which its asker uses a ticket up; the end of claims
pub data Kind : Type 0 where
  SessionsOwn : Kind
  DrawsTicket : (ticket : ℕ) → Who → Kind
  UsesTicket : (ticket : ℕ) → Who → Kind
  EndsClaims : Kind

abbrev pub kind_of : {D R O : Type 0} → Event D R O → Kind
kind_of (Opens v m) = SessionsOwn
kind_of (Runs n rows) = SessionsOwn
kind_of (Reloads v m ops from) = SessionsOwn
kind_of (Claims n a b by) = DrawsTicket n by
kind_of (Installs n j by) = UsesTicket n by
kind_of (Releases n by) = UsesTicket n by
kind_of (Shows s) = SessionsOwn
kind_of Closes = EndsClaims

abbrev pub is_session : Who → Bool
is_session Session = true
is_session (Worker w) = false
