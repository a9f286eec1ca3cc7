-- Scopes and faults under other names: what each name's number becomes is told by a function.
use Rattle.std.specs.Prelude.{◌≡◌, map}
use Rattle.ls_text.specs.declared.fault.Fault.{Fault}
use Rattle.ls_text.specs.declared.name_id.NameId.{NameId}
use Rattle.width_rules.specs.Scopes.{Scope}

-- each name means in the second scope, under its other name, what it means in the first
abbrev pub MeansSame : (NameId → NameId) → Scope → Scope → Type 0
MeansSame f scope other = (n : NameId) → other (f n).0 ≡ scope n.0

-- a fault shows other names; its code and its place stay
abbrev pub fault_as : (NameId → NameId) → Fault → Fault
fault_as f x = record { code = x.code; at = x.at; names = map f x.names }
