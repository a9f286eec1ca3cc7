-- What the session of a script asks of its pass, and what it makes of it.
use Rattle.std.specs.Prelude.{◌≡◌, ◌≢◌, ◌⊎◌, ◌<◌, ◌≤◌, ℕ, Bool, false, List, [], length}
use Rattle.std.specs.declared.option.Option.{Option}
use Rattle.std.specs.declared.option.Option.TheVariants.{None}
use Rattle.ls_port.specs.Causes.{Rose}
use Rattle.book_history.specs.Owned.{owned}
use Rattle.command_read.specs.Readers.{left, next_number, has_ended, count_taken, stopped}
use Rattle.command_read.specs.declared.reader.Reader.{Reader}
use Rattle.live_options.specs.Words.{OptionsOf}
use Rattle.live_session.specs.AtTurn.{Sight, StandsAt, log_of}
use Rattle.live_session.specs.Logs.{IsLegal, Log}
use Rattle.live_session.specs.Sessions.{world}
use Rattle.live_session.specs.Worlds.{fresh}
use Rattle.live_session.specs.declared.session.Session.{Session}
use Rattle.livesim.specs.Histories.{EndsFrom}
use Rattle.livesim.specs.Runs.{HasSettings, Lived}
use Rattle.livesim.specs.Settings.{settings}
use Rattle.livesim.specs.Turns.{HasLimits, Shelves, Sources}

-- nothing was read yet, and the session stands at a book without entries
pub record IsReadyAt (s : Session) (r : Reader) (v : Sight) : Type 0 where
  pub begins : (grid : List ℕ) → world s grid ≡ fresh
  pub at : StandsAt s v
  pub blank : v.seen ≡ []
  pub limits : HasLimits s
  pub left : left r ≡ []
  pub number : next_number r ≡ 1
  pub taken : count_taken r ≡ 0
  pub ended : has_ended r ≡ false
  pub going : stopped r ≡ None

-- a sink with what was written to it, and its count of faults
pub record Sinks : Type 0 where
  pub written : Option (List ℕ)
  pub faults : ℕ

abbrev pub sink_at : (written : Option (List ℕ)) → (faults : ℕ) → Sinks
sink_at written faults = record { written = written; faults = faults }

-- The script was carried out, whatever the options are that the book was made with, and whatever legal history the book comes back with; and why the run
-- ended.
pub record Works (from to : Sources) (before behind : Sinks) (shelf shelved : Shelves) (r : Reader) (v w : Sight) (status : ℕ) : Type 0 where
  pub lived : (o : OptionsOf) (h : Log) → HasSettings (settings o) (log_of v) → EndsFrom (log_of w) h → IsLegal h
      → (bytes : List ℕ) × (ended : Bool) × (length bytes ≡ count_taken r)
      × Lived (settings o) from.left to.left before.written behind.written shelf.answers shelved.answers shelf.faults shelved.faults bytes ended status h
  pub sees : owned w.seen ≡ w.own
  pub read_fault : status ≡ 3 → Rose from.faults to.faults
  pub write_fault : status ≡ 4 → Rose before.faults behind.faults
  pub known : status ≤ 6
  pub words : status ≢ 2
  pub source_once : (to.faults ≡ from.faults) ⊎ Rose from.faults to.faults
  pub sink_once : (behind.faults ≡ before.faults) ⊎ Rose before.faults behind.faults
  pub source_kept : status ≢ 3 → to.faults ≡ from.faults
  pub sink_kept : status ≢ 4 → behind.faults ≡ before.faults
  pub few : count_taken r ≤ 67108865
  pub much : status ≡ 6 → 67108864 < count_taken r
