-- Files as they stand under their names.
use Rattle.std.specs.Prelude.{ℕ, List, map}
use Rattle.ls_text.specs.declared.name_id.NameId.{NameId}
use Rattle.ls_text.specs.declared.source_file.SourceFile.{SourceFile}

abbrev pub file_of : NameId × List ℕ → SourceFile
file_of entry = record { name = entry.0; text = entry.1 }

abbrev pub files_of : List (NameId × List ℕ) → List SourceFile
files_of entries = map file_of entries
