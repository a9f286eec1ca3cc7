-- The mention that a fault of an item shows.
use Rattle.std.specs.Prelude.{ℕ, nat_le, List, [], ◌∷◌, Option, Some, None, if◌then◌else◌, option_to_list}
use Rattle.ls_text.specs.declared.place.Place.{Place}
use Rattle.ls_text.specs.declared.fault.Fault.{Fault}
use Rattle.typed_ir.specs.Orders.{at_or}
use Rattle.typed_ir.specs.declared.mention.Mention.{Mention}
use Rattle.width_rules.specs.Faults.{fault}
use Rattle.driver_rules.specs.declared.shown.Shown.{Shown}

abbrev pub of_mention : Mention → Shown
of_mention m = record { name = Some m.name; at = m.at; order = m.order }

-- where there is no mention, the item's own place without a name
abbrev pub unnamed : Place → Shown
unnamed at = record { name = None; at = at; order = 0 }

abbrev pub shown_at : List Mention → Place → ℕ → Shown
shown_at mentions at k = at_or of_mention (unnamed at) mentions k

-- the one that stands earlier, of equals the first
abbrev pub sooner : Option Shown → Option Shown → Option Shown
sooner None y = y
sooner (Some x) None = Some x
sooner (Some x) (Some y) = if nat_le x.order y.order then Some x else Some y

-- the earliest of the mentions with these numbers
abbrev pub earliest : List ℕ → List Mention → Place → Option Shown
earliest [] mentions at = None
earliest (k ∷ ks) mentions at = sooner (Some (shown_at mentions at k)) (earliest ks mentions at)

-- a fault there, where there is one
abbrev pub shown_faults : ℕ → Option Shown → List Fault
shown_faults code None = []
shown_faults code (Some x) = fault code x.at (option_to_list x.name) ∷ []
