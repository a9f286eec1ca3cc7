-- The charge of a settle.
use Rattle.std.specs.Prelude.{◌≡◌, ◌≤◌, ◌<◌, ◌+◌, ◌*◌, min, ℕ, Option, Some, None}
use Rattle.std.specs.Option.{unwrap_or}
use Rattle.live_session.specs.declared.limits.Limits.{Limits}
use Rattle.live_session.specs.declared.running.Running.{Running}

-- over so many links: 1, and 2 for each pass that may be made
abbrev pub charge_for : (links most : ℕ) → ℕ
charge_for links most = 2 * min most links + 1

-- what runs was charged for that many passes
pub record IsChargedFor (limits : Limits) (links most : ℕ) (old new : Running) : Type 0 where
  pub is : new ≡ record old { charge = old.charge + charge_for links most }
  pub room : new.charge ≤ limits.rooms.session

-- or the room is too small for them, and nothing is charged; they are as many as are said, or one for each link
abbrev pub Charges : Limits → (links : ℕ) → (passes : Option ℕ) → (old new : Running) → Option ℕ → Type 0
Charges limits links passes old new (Some most) = (most ≡ unwrap_or passes links) × IsChargedFor limits links most old new
Charges limits links passes old new None = (new ≡ old) × (limits.rooms.session < old.charge + charge_for links (unwrap_or passes links))
