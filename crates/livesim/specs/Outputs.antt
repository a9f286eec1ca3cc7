-- What a whole run wrote.
use Rattle.std.specs.Prelude.{◌≢◌, ℕ, Bool, true, List, ◌++◌}
use Rattle.std.specs.declared.option.Option.TheVariants.{Some}
use Rattle.ls_port.specs.declared.shelf_answer.ShelfAnswer.{ShelfAnswer}
use Rattle.book_history.specs.Owned.{AllOwned}
use Rattle.live_session.specs.Logs.{Log}
use Rattle.live_session.specs.Settings.{Settings}
use Rattle.livesim.specs.Runs.{HasRun}

-- A run without workers over the script of these bytes, which were taken or made, that was given these answers by its shelf, wrote that and has this
-- history, and that neither the sink nor want of memory stopped.
pub record WritesAll (st : Settings) (bytes : List ℕ) (ended : Bool) (given : List ShelfAnswer) (out : List ℕ) (history : Log) : Type 0 where
  pub written : List ℕ
  pub answers : List ShelfAnswer
  pub faults_before : ℕ
  pub faults_behind : ℕ
  pub status : ℕ
  pub no_sink_fault : status ≢ 4
  pub enough_memory : status ≢ 5
  pub alone : AllOwned true history.events
  pub ran : HasRun st (Some written) (Some (written ++ out)) (Some answers) (Some (answers ++ given)) faults_before faults_behind bytes ended status history
