-- What becomes of a block whose loads came to something.
use Rattle.std.specs.Prelude.{◌≡◌, ℕ, Bool, true, List, Result, Ok}
use Rattle.command_read.specs.Asking.{Block, Edits}
use Rattle.live_session.specs.Done.{IsDone}
use Rattle.live_session.specs.Files.{TextFile}
use Rattle.live_session.specs.Logs.{Log}
use Rattle.live_session.specs.Readings.{FilesRead}
use Rattle.live_session.specs.Settings.{Settings}
use Rattle.live_session.specs.Spelled.{Answer}
use Rattle.live_session.specs.Verdicts.{files_after, top_after, clock_after, loaded_verdict}
use Rattle.live_session.specs.Worlds.{World, Refused}

-- for some answer of the files, which is right, the block was done by the verdict on what the loads gave
pub record TakesBlock (st : Settings) (block : Block) (given : Result (List TextFile) Refused) (old new : World) (was is : Log) (text : List ℕ)
    (refused : Bool) : Type 0 where
  pub answer : Answer
  pub read : (files : List TextFile) → given ≡ Ok files → FilesRead (files_after old block files) (top_after old block) (clock_after old block) answer
  pub done : IsDone true st (Ok (Edits block)) old new (loaded_verdict old block answer given) was is text refused

-- memory ran out: nothing is new; or the block was done, and its lines are lost
pub data LosesBlock (st : Settings) (block : Block) (given : Result (List TextFile) Refused) (old new : World) (was is : Log) : Type 0 where
  none_taken : is.settings ≡ was.settings → is.events ≡ was.events → new ≡ old → LosesBlock st block given old new was is
  lost_lines : (text : List ℕ) (refused : Bool) → TakesBlock st block given old new was is text refused
      → LosesBlock st block given old new was is
