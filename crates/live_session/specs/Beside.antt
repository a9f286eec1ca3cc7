-- A session beside its book.
use Rattle.std.specs.Prelude.{◌≡◌, ◌≤◌, ℕ, false, Option, Some, None}
use Rattle.book_history.specs.Outline.{Outline, blank}
use Rattle.book_history.specs.Rooms.{count_all, no_entry}
use Rattle.cycle_eval.specs.declared.design.Design.{Design}
use Rattle.module_registry.specs.Views.{entries_of}
use Rattle.stimulus.specs.Records.{rows_of}
use Rattle.version_swap.specs.Held.{AreHeldUnder}
use Rattle.live_session.specs.Logs.{InputRow, Log, marks_of, outline_of}
use Rattle.live_session.specs.Sessions.{limits_of, settings_of, world}
use Rattle.live_session.specs.Settings.{Settings}
use Rattle.live_session.specs.Worlds.{World}
use Rattle.live_session.specs.declared.limits.Limits.{Limits}
use Rattle.live_session.specs.declared.running.Running.{Running}
use Rattle.live_session.specs.declared.session.Session.{Session}

abbrev pub charge_of : Option Running → ℕ
charge_of None = 0
charge_of (Some r) = r.charge

-- the version that runs, over its record
pub record RunsIn (r : Running) (o : Outline Design InputRow) : Type 0 where
  pub version : o.version ≡ r.version.value.number
  pub machine : o.machine ≡ Some r.version.value.machine.value
  pub rows : o.rows ≡ rows_of r.record_

-- before the first design there is no version
abbrev pub IsOutlined : Option Running → Outline Design InputRow → Type 0
IsOutlined None o = o ≡ blank
IsOutlined (Some r) o = RunsIn r o

-- The book has what runs and isn't closed, its entries of the session are no more than were charged, and it has the rooms of the limits.
pub record Stands (limits : Limits) (running : Option Running) (j : Log) : Type 0 where
  pub outline : IsOutlined running (outline_of j)
  pub still_open : (count_all no_entry j.events).closed ≡ false
  pub charged : (count_all no_entry j.events).session ≤ charge_of running
  pub rooms : j.settings.rooms ≡ limits.rooms

-- and each unit that the session holds is that of its key
pub record StandsBeside (s : Session) (j : Log) : Type 0 where
  pub stands : Stands (limits_of s) s.running j
  pub held : AreHeldUnder s.names (entries_of s.registry)

-- the world of both, and what it is run with
abbrev pub world_in : Session → Log → World
world_in s j = world s (marks_of j)

abbrev pub settings_by : Limits → Log → Settings
settings_by limits j = settings_of j.settings.interval j.settings.lookback limits

abbrev pub settings_in : Session → Log → Settings
settings_in s j = settings_by (limits_of s) j
