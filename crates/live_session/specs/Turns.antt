-- What calls of a session, and of what it runs, answer to a command that looks at nothing outside.
use Rattle.std.specs.Prelude.{◌≡◌, ℕ, true, false, List, [], Ok, Err}
use Rattle.ls_text.specs.declared.at.At.TheVariants.{Edit}
use Rattle.command_read.specs.Asking.{Asked}
use Rattle.module_registry.specs.Entries.{Entry}
use Rattle.live_session.specs.Beside.{settings_by, settings_in, world_in}
use Rattle.live_session.specs.Done.{IsDone, told}
use Rattle.live_session.specs.Judging.{verdict_on}
use Rattle.live_session.specs.Logs.{Log, marks_of}
use Rattle.live_session.specs.Replies.{refusal_text}
use Rattle.live_session.specs.Sessions.{world_of}
use Rattle.live_session.specs.Settings.{Settings}
use Rattle.live_session.specs.Spelled.{Answer}
use Rattle.live_session.specs.Verdicts.{command_verdict}
use Rattle.live_session.specs.Worlds.{World, Refused}
use Rattle.live_session.specs.declared.limits.Limits.{Limits}
use Rattle.live_session.specs.declared.reply.Reply.{Reply}
use Rattle.live_session.specs.declared.running.Running.{Running}
use Rattle.live_session.specs.declared.session.Session.{Session}

-- a reply that refuses
pub record Refuses (refused : Refused) (r : Reply) : Type 0 where
  pub text : r.lines ≡ refusal_text refused
  pub refusal : r.refused ≡ true
  pub goes_on : r.quit ≡ false

-- a reply that accepts, with these lines
pub record Accepts (lines : List ℕ) (r : Reply) : Type 0 where
  pub text : r.lines ≡ lines
  pub refusal : r.refused ≡ false
  pub goes_on : r.quit ≡ false

-- what stands where nothing is looked at
abbrev pub no_answer : Answer
no_answer = Err (record { code = 0; at = Edit; words = [] })

-- what a call of a design that runs answers to a command, whatever units are held
abbrev pub AnswersIn : (names : List (List ℕ)) → Limits → Asked → (old new : Running) → (was is : Log) → Reply → Type 0
AnswersIn names limits asked old new was is reply =
    (entries : List Entry)
    → IsDone true (settings_by limits was) (Ok asked) (world_of names entries (marks_of was) old) (world_of names entries (marks_of is) new)
    (command_verdict (settings_by limits was) (world_of names entries (marks_of was) old) asked [] no_answer) was is reply.lines reply.refused

-- the same by the worlds before and behind it
abbrev pub AnswersFrom : Settings → Asked → (old new : World) → (was is : Log) → Reply → Type 0
AnswersFrom st asked old new was is reply =
    IsDone true st (Ok asked) old new (verdict_on st (told (Ok asked) [] no_answer) old) was is reply.lines reply.refused

-- Memory ran out in it: nothing is new; or it was done, and its lines are lost.
pub data StopsFrom (st : Settings) (asked : Asked) (old new : World) (was is : Log) : Type 0 where
  undone_at : is.settings ≡ was.settings → is.events ≡ was.events → new ≡ old → StopsFrom st asked old new was is
  lost_at : (reply : Reply) → AnswersFrom st asked old new was is reply → StopsFrom st asked old new was is

-- and what a call of a design that runs left, whatever units are held
abbrev pub StopsIn : (names : List (List ℕ)) → Limits → Asked → (old new : Running) → (was is : Log) → Type 0
StopsIn names limits asked old new was is =
    (entries : List Entry)
    → StopsFrom (settings_by limits was) asked (world_of names entries (marks_of was) old) (world_of names entries (marks_of is) new) was is

-- and of a session
abbrev pub Answers : Asked → (old new : Session) → (was is : Log) → Reply → Type 0
Answers asked old new was is reply = AnswersFrom (settings_in old was) asked (world_in old was) (world_in new is) was is reply

abbrev pub StopsAt : Asked → (old new : Session) → (was is : Log) → Type 0
StopsAt asked old new was is = StopsFrom (settings_in old was) asked (world_in old was) (world_in new is) was is
