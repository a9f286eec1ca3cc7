-- A display or a settle, by the room of its session.
use Rattle.std.proofs.Common.{◌≡◌, ℕ, ◌+◌, ◌<◌, ◌≤◌, Bool, cond, [], Result, Ok, Err, ap}
use Rattle.std.proofs.lemmas.Bool.{le-ltb, lt-ltb}
use Rattle.live_session.specs.Settings.{Settings}
use Rattle.live_session.specs.Verdicts.{charged}
use Rattle.live_session.specs.Worlds.{World, Refused, refused_at}

module _ (st : Settings) (w : World) (line more : ℕ) where
  abbrev with_room : Bool → Result World Refused
  with_room full = cond full (Err (refused_at 68 line [])) (Ok (record w { charge = w.charge + more }))

  pub has_room : w.charge + more ≤ st.room → charged st w line more ≡ Ok (record w { charge = w.charge + more })
  has_room room = ap with_room (le-ltb st.room (w.charge + more) room)

  pub no_room : st.room < w.charge + more → charged st w line more ≡ Err (refused_at 68 line [])
  no_room full = ap with_room (lt-ltb st.room (w.charge + more) full)
