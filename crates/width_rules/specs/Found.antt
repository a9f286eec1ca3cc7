-- What the entries of a scope mean, and what declarations in its blocks cover.
use Rattle.std.specs.Prelude.{ℕ, Bool, true, false, ◌&&◌, ◌||◌, List, [], ◌∷◌, ◌==◌, if◌then◌else◌}
use Rattle.ls_text.specs.declared.name_id.NameId.{NameId}
use Rattle.width_rules.specs.declared.entry.Entry.{Entry}
use Rattle.width_rules.specs.declared.entry.Entry.TheVariants as entry
use Rattle.width_rules.specs.declared.covered.Covered.{Covered}
use Rattle.width_rules.specs.declared.covered.Covered.TheVariants as covered
use Rattle.width_rules.specs.Scopes.{Meaning, Signal, Constant, Turn, Genvar, Unknown, Scope, with_name}

abbrev pub meaning_of : Entry → Meaning
meaning_of (entry.Signal x) = Signal x.signal x.width x.lsb x.signed x.writer
meaning_of (entry.Constant x) = Constant x.bits.width x.bits.value x.signed
meaning_of (entry.Turn x) = Turn x.bits.width x.bits.value x.signed
meaning_of entry.Genvar = Genvar
meaning_of entry.Unknown = Unknown

-- what these entries say of a name
abbrev pub found : List (NameId × Entry) → Scope
found [] name = Unknown
found (x ∷ xs) name = if x.0.0 == name then meaning_of x.1 else found xs name

-- the names in reach around each open block, from the innermost block on: what was covered is undone, the last first
abbrev pub uncovered : List Covered → Scope → List Scope
uncovered [] scope = []
uncovered (covered.Block ∷ cs) scope = scope ∷ uncovered cs scope
uncovered (covered.Name n x ∷ cs) scope = uncovered cs (with_name n.0 (meaning_of x) scope)

-- whether a name has an entry
abbrev pub is_held : List (NameId × Entry) → ℕ → Bool
is_held [] name = false
is_held (x ∷ xs) name = (x.0.0 == name) || is_held xs name

-- whether each name that is covered has one
abbrev pub are_held : List (NameId × Entry) → List Covered → Bool
are_held es [] = true
are_held es (covered.Block ∷ cs) = are_held es cs
are_held es (covered.Name n x ∷ cs) = is_held es n.0 && are_held es cs
