-- What a session of the code means.
use Rattle.std.specs.Prelude.{ℕ, List, map, Option, Some, None}
use Rattle.std.specs.Option.{option_map}
use Rattle.ls_text.specs.Texts.{text_at}
use Rattle.ls_text.specs.declared.name_id.NameId.{NameId}
use Rattle.cycle_eval.specs.Designs.{work_of}
use Rattle.module_registry.specs.Entries.{Entry}
use Rattle.module_registry.specs.Views.{entries_of}
use Rattle.version_swap.specs.Behind.{design_of}
use Rattle.stimulus.specs.Records.{rows_of}
use Rattle.live_session.specs.Files.{text_file}
use Rattle.live_session.specs.Rows.{row_of}
use Rattle.live_session.specs.Settings.{Settings}
use Rattle.live_session.specs.Spelled.{spelled}
use Rattle.live_session.specs.Worlds.{World, fresh}
use Rattle.live_session.specs.declared.limits.Limits.{Limits}
use Rattle.live_session.specs.declared.running.Running.{Running}
use Rattle.live_session.specs.declared.session.Session.{Session}

-- the texts of the keys that a registry holds
abbrev pub held_texts : List Entry → List (List ℕ)
held_texts entries = map (λ (e : Entry). e.key.text) entries

abbrev pub world_of : (names : List (List ℕ)) → List Entry → (grid : List ℕ) → Running → World
world_of names entries grid r = record {
  files = map (text_file names) r.texts.files;
  top = option_map (λ (id : NameId). text_at names id.0) r.texts.top;
  clock = text_at names r.texts.clock.0;
  version = r.version.value.number;
  design = Some (spelled names (design_of r.version.value.machine.value r.keys));
  row = row_of names r.row.value;
  record_ = map (row_of names) (rows_of r.record_);
  grid = grid;
  held = held_texts entries;
  charge = r.charge;
}

-- a session doesn't know the cycles of its marks, which are added
abbrev pub running_world : (names : List (List ℕ)) → List Entry → (grid : List ℕ) → Option Running → World
running_world names entries grid None = fresh
running_world names entries grid (Some r) = world_of names entries grid r

abbrev pub world : Session → (grid : List ℕ) → World
world s grid = running_world s.names (entries_of s.registry) grid s.running

abbrev pub names_of : Session → List (List ℕ)
names_of s = s.names

abbrev pub limits_of : Session → Limits
limits_of s = s.limits

-- what a session with these limits is run with
abbrev pub settings_of : (interval lookback : ℕ) → Limits → Settings
settings_of interval lookback limits = record {
  interval = interval;
  lookback = lookback;
  cycles = limits.cycles;
  stimulus = limits.stimulus;
  room = limits.rooms.session;
}

abbrev pub running_work : Option Running → ℕ
running_work None = 0
running_work (Some r) = work_of r.version.value.machine.value

-- the steps of one cycle
abbrev pub work : Session → ℕ
work s = running_work s.running
