-- What one turn of a run does: it reads a command and carries it out, or the run ends.
use Rattle.std.specs.Prelude.{◌≡◌, ◌⊎◌, ◌<◌, ◌≤◌, ℕ, Bool, true, List, [], ◌∷◌, Result, Ok, Err}
use Rattle.std.specs.declared.option.Option.{Option}
use Rattle.std.specs.declared.option.Option.TheVariants.{Some, None}
use Rattle.ls_text.specs.Readings.{TextFault}
use Rattle.ls_port.specs.declared.shelf_answer.ShelfAnswer.{ShelfAnswer}
use Rattle.ls_port.specs.Causes.{Rose}
use Rattle.command_read.specs.Asking.{Asked}
use Rattle.command_read.specs.Readers.{has_ended, stopped, still_of, asked_of, IsSoon, Takes, HandsOut}
use Rattle.command_read.specs.Scripts.{is_quit}
use Rattle.command_read.specs.declared.reader.Reader.{Reader}
use Rattle.command_read.specs.declared.stop.Stop.{Stop}
use Rattle.command_read.specs.declared.stop.Stop.TheVariants as stop
use Rattle.live_options.specs.Words.{OptionsOf}
use Rattle.live_session.specs.Loads.{AddsAnswers, AreToFirst}
use Rattle.live_session.specs.Sessions.{world, limits_of, settings_of}
use Rattle.live_session.specs.Logs.{Log}
use Rattle.live_session.specs.Steps.{StepsTo, Stops}
use Rattle.live_session.specs.declared.reply.Reply.{Reply}
use Rattle.live_session.specs.declared.session.Session.{Session}
use Rattle.livesim.specs.Runs.{loads_first}
use Rattle.livesim.specs.Settings.{settings}
use Rattle.livesim.specs.declared.ending.Ending.{Ending}
use Rattle.livesim.specs.declared.ending.Ending.TheVariants.{Whole, Failed, TooMuch, NoMemory}
use Rattle.livesim.specs.declared.turn.Turn.{Turn}
use Rattle.livesim.specs.declared.turn.Turn.TheVariants.{Answered, Over}

-- a session with the limits of the program
abbrev pub HasLimits : Session → Type 0
HasLimits s = (options : OptionsOf) → settings_of options.interval options.lookback (limits_of s) ≡ settings options

-- a source, with its count of faults, before and behind
pub record Sources : Type 0 where
  pub left : Option (List ℕ)
  pub faults : ℕ

-- a shelf with its answers and its count of faults
pub record Shelves : Type 0 where
  pub answers : Option (List ShelfAnswer)
  pub faults : ℕ

abbrev pub source_at : (left : Option (List ℕ)) → (faults : ℕ) → Sources
source_at left faults = record { left = left; faults = faults }

abbrev pub shelf_at : (answers : Option (List ShelfAnswer)) → (faults : ℕ) → Shelves
shelf_at answers faults = record { answers = answers; faults = faults }

-- a reader took bytes of a source and told that, and none were taken once something was complete
pub record Reads (before behind : Sources) (old new : Reader) (told : List (Result Asked TextFault)) : Type 0 where
  pub came : List ℕ
  pub kept : List ℕ
  pub takes : Takes before.left behind.left before.faults behind.faults old new came kept
  pub hands : HandsOut old new told kept
  pub soon : IsSoon old came

-- A command was read and carried out in a session that reading it left as it was, beside its book; these are its lines, and the reader goes on. Whether the
-- session's pass is alone is told beside it (`goes` of `turn`).
pub record Carries (from to : Sources) (shelf shelved : Shelves) (old new : Reader) (session behind : Session) (was is : Log) (text : List ℕ)
    (refused : Bool) : Type 0 where
  pub alone : Bool
  pub asked : Result Asked TextFault
  pub reads : Reads from to old new (asked ∷ [])
  pub going : stopped new ≡ None
  pub read_in : Session
  pub same : (grid : List ℕ) → world read_in grid ≡ world session grid
  pub limits : limits_of read_in ≡ limits_of session
  pub steps : StepsTo alone asked shelf.answers shelved.answers shelf.faults shelved.faults read_in behind was is text refused

-- the same with a reply, and fewer bytes are left to hand out
pub record Answers (from to : Sources) (shelf shelved : Shelves) (old new : Reader) (session behind : Session) (was is : Log) (r : Reply) : Type 0 where
  pub carries : Carries from to shelf shelved old new session behind was is r.lines r.refused
  pub falls : still_of new < still_of old
  pub quits : r.quit ≡ is_quit carries.asked

-- the reader has stopped for that, and has handed out all
pub record HasStopped (reason : Stop) (new : Reader) (told : List (Result Asked TextFault)) (lost : List ShelfAnswer) (faults count : ℕ) (was is : Log) : Type 0
  where
    pub reason_is : stopped new ≡ Some reason
    pub nothing : asked_of new [] (has_ended new) ≡ []
    pub none : told ≡ []
    pub none_lost : lost ≡ []
    pub unfailed : count ≡ faults
    pub same : is ≡ was

-- Memory ran out, in the reader or in a command, which has no reply. The book is as it was, or with the passes of an unfinished settle; or the command
-- was done, and its lines are lost.
pub data RunsOut (shelf shelved : Shelves) (new : Reader) (session behind : Session) (was is : Log) (told : List (Result Asked TextFault)) : Type 0
  where
    in_nothing : (stopped new ≡ None) ⊎ (stopped new ≡ Some stop.NoMemory) → is ≡ was → RunsOut shelf shelved new session behind was is told
    in_command : (alone : Bool) (asked : Result Asked TextFault) → told ≡ asked ∷ [] → stopped new ≡ None → (read_in : Session)
        → ((grid : List ℕ) → world read_in grid ≡ world session grid) → limits_of read_in ≡ limits_of session
        → Stops alone asked shelf.answers shelved.answers shelf.faults shelved.faults read_in behind was is
        → RunsOut shelf shelved new session behind was is told

abbrev pub IsOver : Ending → (shelf shelved : Shelves) → (session behind : Session) → (was is : Log) → Reader → List (Result Asked TextFault) → List ShelfAnswer
    → Type 0
IsOver Whole shelf shelved session behind was is new told lost =
    HasStopped stop.End new told lost shelf.faults shelved.faults was is × (has_ended new ≡ true)
IsOver Failed shelf shelved session behind was is new told lost = HasStopped stop.Fault new told lost shelf.faults shelved.faults was is
IsOver TooMuch shelf shelved session behind was is new told lost = HasStopped stop.TooMuch new told lost shelf.faults shelved.faults was is
IsOver NoMemory shelf shelved session behind was is new told lost = RunsOut shelf shelved new session behind was is told

-- The run ends so. Where memory ran out a command may have been told that has no answer, and the shelf may have answered its first loads.
pub record Ends (from to : Sources) (shelf shelved : Shelves) (old new : Reader) (session behind : Session) (was is : Log) (ending : Ending) : Type 0 where
  pub told : List (Result Asked TextFault)
  pub reads : Reads from to old new told
  pub lost : List ShelfAnswer
  pub adds : AddsAnswers shelf.answers shelved.answers lost
  pub first : AreToFirst (loads_first told) lost
  pub cause : (shelved.faults ≡ shelf.faults) ⊎ Rose shelf.faults shelved.faults
  pub over : IsOver ending shelf shelved session behind was is new told lost
  -- by none where the session's room is full
  pub full : (grid : List ℕ) → (limits_of session).rooms.session ≤ (world session grid).charge → lost ≡ []

-- a reply, or the end for want of memory
abbrev pub turn_of : {E : Type 0} → Result Reply E → Turn
turn_of (Ok reply) = Answered reply
turn_of (Err e) = Over NoMemory

abbrev pub IsTurn : (from to : Sources) → (shelf shelved : Shelves) → (old new : Reader) → (session behind : Session) → (was is : Log) → Turn → Type 0
IsTurn from to shelf shelved old new session behind was is (Answered reply) = Answers from to shelf shelved old new session behind was is reply
IsTurn from to shelf shelved old new session behind was is (Over ending) = Ends from to shelf shelved old new session behind was is ending
