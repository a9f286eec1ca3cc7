-- Connections of ports by name and by order (IEEE Std 1364-2005, 12.3.5 and 12.3.6).
use Rattle.std.specs.Prelude.{Bool, true, false, if◌then◌else◌, List, [], ◌∷◌, ◌++◌, Option, Some, None, Result, Ok, Err}
use Rattle.ls_text.specs.declared.fault.Fault.{Fault}
use Rattle.ls_text.specs.declared.place.Place.{Place}
use Rattle.verilog_ast.specs.declared.identifier.Identifier.{Identifier}
use Rattle.verilog_ast.specs.Expressions.{Expression}
use Rattle.verilog_ast.specs.Items.{ConnectionByName, ConnectionByOrder, ConnectionList, ByName, ByOrder}
use Rattle.width_rules.specs.Faults.{fault, fault_at, fault_of}
use Rattle.ls_text.specs.Answers.{◌>>=◌}
use Rattle.module_names.specs.Listings.{is_listed}

-- a connection to no port (27), or to one that is connected already (28)
abbrev pub named : (ports before : List Identifier) → Identifier → Result (Unit {0}) Fault
named ports before n =
    if is_listed n.name.0 ports then (if is_listed n.name.0 before then Err (fault_at 28 n) else Ok tt)
    else Err (fault_at 27 n)

-- and then it is connected
abbrev pub name_more : (ports before : List Identifier) → Identifier → Result (List Identifier) Fault
name_more ports before n = named ports before n >>= λ _. Ok (before ++ n ∷ [])

abbrev pub all_named : (ports before : List Identifier) → List ConnectionByName → Result (Unit {0}) Fault
all_named ports before [] = Ok tt
all_named ports before (x ∷ xs) = name_more ports before x.name >>= λ more. all_named ports more xs

-- one too many (27): at its first token, or where it is empty at the token behind it
abbrev pub too_many : Place → Option Expression → Fault
too_many at None = fault 27 at []
too_many at (Some e) = fault_of 27 e

abbrev pub all_ordered : (ports : List Identifier) → List ConnectionByOrder → Result (Unit {0}) Fault
all_ordered ports [] = Ok tt
all_ordered [] (x ∷ xs) = Err (too_many x.at x.value)
all_ordered (p ∷ ps) (x ∷ xs) = all_ordered ps xs

-- a single empty place, which is no connection
abbrev pub is_missing : Option Expression → Bool
is_missing None = true
is_missing (Some e) = false

abbrev pub is_empty_place : List ConnectionByOrder → Bool
is_empty_place [] = false
is_empty_place (x ∷ []) = is_missing x.value
is_empty_place (x ∷ y ∷ ys) = false

unfoldable pub connected : (ports : List Identifier) → ConnectionList → Result (Unit {0}) Fault
connected ports (ByName xs) = all_named ports [] xs
connected ports (ByOrder xs) = if is_empty_place xs then Ok tt else all_ordered ports xs
