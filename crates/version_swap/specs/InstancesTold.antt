-- Instances of a tree whose names are words of the table and whose clocks are ports, and jobs whose names are in the table.
use Rattle.std.specs.Prelude.{◌≡◌, ⊤, ℕ, ◌==◌, Bool, true, false, if◌then◌else◌, List, [], ◌∷◌, Option, Some, None}
use Rattle.std.specs.List.{All}
use Rattle.ls_text.specs.declared.name_id.NameId.{NameId}
use Rattle.typed_ir.specs.declared.instance.Instance.{Instance}
use Rattle.typed_ir.specs.declared.port_shape.PortShape.{PortShape}
use Rattle.module_registry.specs.declared.build_job.BuildJob.{BuildJob}
use Rattle.version_swap.specs.JobsUnder.{IsIn}
use Rattle.version_swap.specs.Told.{IsNamed}

abbrev pub is_port_name : ℕ → List PortShape → Bool
is_port_name name [] = false
is_port_name name (p ∷ ps) = if p.name.0 == name then true else is_port_name name ps

-- there is no clock, or it is one of the ports
abbrev pub HasOwnClock : Option NameId → List PortShape → Type 0
HasOwnClock None ports = ⊤
HasOwnClock (Some n) ports = is_port_name n.0 ports ≡ true

-- what is known of each instance of an elaborated tree; that its ports are words follows from its module
pub record IsInstanceTold (names : List (List ℕ)) (x : Instance) : Type 0 where
  pub name : IsNamed names x.place.name
  pub clock : HasOwnClock x.clock x.ports

-- the names of a job are in the table
abbrev pub HasNamesIn : List (List ℕ) → BuildJob → Type 0
HasNamesIn names job = All (IsIn names) job.names
