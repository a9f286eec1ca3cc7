-- Entries of a scope of the code whose signals are those of a list.
use Rattle.std.specs.Prelude.{ℕ, Bool, true, ◌&&◌, List, [], ◌∷◌}
use Rattle.ls_text.specs.declared.name_id.NameId.{NameId}
use Rattle.typed_ir.specs.Sized.{is_signal}
use Rattle.width_rules.specs.declared.entry.Entry.{Entry}
use Rattle.width_rules.specs.declared.entry.Entry.TheVariants as entry

-- a signal has one of these widths, by its number
abbrev pub is_there : Entry → List ℕ → Bool
is_there (entry.Signal x) widths = is_signal x.signal x.width widths
is_there (entry.Constant x) widths = true
is_there (entry.Turn x) widths = true
is_there entry.Genvar widths = true
is_there entry.Unknown widths = true

abbrev pub are_there : List (NameId × Entry) → List ℕ → Bool
are_there [] widths = true
are_there (x ∷ xs) widths = is_there x.1 widths && are_there xs widths
