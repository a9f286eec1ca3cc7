-- Commands one after another, each judged in the world behind those before it.
use Rattle.std.specs.Prelude.{Bool, false, ◌||◌, List, [], ◌∷◌, Result, Ok, Err, is_err}
use Rattle.live_session.specs.Settings.{Settings}
use Rattle.live_session.specs.Verdicts.{Told, verdict}
use Rattle.live_session.specs.Worlds.{World, Refused}

abbrev pub verdict_on : Settings → Told → World → Result World Refused
verdict_on st t w = verdict st w t.asked t.loads t.answer

-- a refused command leaves the world as it was
abbrev pub world_or : World → Result World Refused → World
world_or old (Ok new) = new
world_or old (Err refused) = old

abbrev pub after : Settings → Told → World → World
after st t w = world_or w (verdict_on st t w)

-- the world after some commands
abbrev pub world_after : Settings → List Told → World → World
world_after st [] w = w
world_after st (t ∷ ts) w = world_after st ts (after st t w)

-- whether one of them is refused
abbrev pub any_refused : Settings → List Told → World → Bool
any_refused st [] w = false
any_refused st (t ∷ ts) w = is_err (verdict_on st t w) || any_refused st ts (after st t w)
