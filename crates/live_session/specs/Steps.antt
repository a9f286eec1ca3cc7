-- What a step of a session answers to a command, and what it does to the book beside the session.
use Rattle.std.specs.Prelude.{◌≡◌, ℕ, Bool, true, false, List, Result, Ok, Err}
use Rattle.std.specs.List.{list_any}
use Rattle.std.specs.declared.option.Option.{Option}
use Rattle.ls_text.specs.Readings.{TextFault}
use Rattle.ls_port.specs.declared.shelf_answer.ShelfAnswer.{ShelfAnswer}
use Rattle.command_read.specs.Asking.{Asked, AsksStatus, Edits, Quits, Runs, Sets, Settles, Shows}
use Rattle.live_session.specs.Beside.{StandsBeside, settings_in, world_in}
use Rattle.live_session.specs.CutShort.{HasStayed, IsCutShort}
use Rattle.live_session.specs.Done.{IsDone, told}
use Rattle.live_session.specs.Judging.{verdict_on}
use Rattle.live_session.specs.Loads.{LoadAnswer, AddsAnswers, is_broken, HasFailed}
use Rattle.live_session.specs.Logs.{Log}
use Rattle.live_session.specs.Readings.{IsRight}
use Rattle.live_session.specs.Replies.{answers_to}
use Rattle.live_session.specs.Sessions.{limits_of}
use Rattle.live_session.specs.Spelled.{Answer}
use Rattle.live_session.specs.declared.session.Session.{Session}

-- a settle takes turns of the book, every other command one
abbrev pub is_settle : Result Asked TextFault → Bool
is_settle (Ok (Edits block)) = false
is_settle (Ok (Sets line values)) = false
is_settle (Ok (Runs line n)) = false
is_settle (Ok (Shows line prefix)) = false
is_settle (Ok (Settles line passes)) = true
is_settle (Ok (AsksStatus line)) = false
is_settle (Ok (Quits line)) = false
is_settle (Err fault) = false

-- For some answers of the shelf and of the texts, which are right, the command was done by its verdict, and the session stands beside its book again.
pub record StepsTo (alone : Bool) (asked : Result Asked TextFault) (before behind : Option (List ShelfAnswer)) (faults count : ℕ) (old new : Session)
    (was is : Log) (text : List ℕ) (refused : Bool) : Type 0 where
  pub loads : List LoadAnswer
  pub answer : Answer
  pub adds : AddsAnswers before behind (answers_to asked loads)
  pub cause : HasFailed (list_any is_broken loads) faults count
  pub limits : limits_of new ≡ limits_of old
  pub right : IsRight (settings_in old was) (world_in old was) (told asked loads answer)
  pub done : IsDone alone (settings_in old was) asked (world_in old was) (world_in new is)
      (verdict_on (settings_in old was) (told asked loads answer) (world_in old was)) was is text refused
  pub beside : StandsBeside new is

-- In one turn of the book memory ran out, and the command has no reply: session and book are as they were, or it was done, and its lines are lost.
pub data StopsInTurn (asked : Result Asked TextFault) (before behind : Option (List ShelfAnswer)) (faults count : ℕ) (old new : Session)
    (was is : Log) : Type 0 where
  stays : is.settings ≡ was.settings → is.events ≡ was.events → world_in new is ≡ world_in old was
      → StopsInTurn asked before behind faults count old new was is
  loses : (text : List ℕ) (refused : Bool) → StepsTo true asked before behind faults count old new was is text refused
      → StopsInTurn asked before behind faults count old new was is

-- Memory ran out, and the command has no reply. Session and book are as they were; or it is a settle, cut short behind its charge; or the command was
-- done, and its lines are lost.
pub data Stops (alone : Bool) (asked : Result Asked TextFault) (before behind : Option (List ShelfAnswer)) (faults count : ℕ) (old new : Session)
    (was is : Log) : Type 0 where
  undone : HasStayed alone was is → world_in new is ≡ world_in old was → Stops alone asked before behind faults count old new was is
  cut_short : (command : Asked) → asked ≡ Ok command → IsCutShort alone (settings_in old was) command (world_in old was) (world_in new is) was is
      → Stops alone asked before behind faults count old new was is
  lost : (text : List ℕ) (refused : Bool) → StepsTo alone asked before behind faults count old new was is text refused
      → Stops alone asked before behind faults count old new was is
