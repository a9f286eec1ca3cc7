-- The files behind an edit: those before it, and then those that it gives and loads, in line order. A file that is named again keeps its place and
-- takes the new text.
use Rattle.std.specs.Prelude.{ℕ, ◌==◌, nat_lt, if◌then◌else◌, List, [], ◌∷◌, ◌++◌, take, drop}
use Rattle.std.specs.List.{prefix_len}
use Rattle.ls_text.specs.declared.source_file.SourceFile.{SourceFile}
use Rattle.command_read.specs.declared.file_line.FileLine.{FileLine}
use Rattle.command_read.specs.declared.load_line.LoadLine.{LoadLine}

-- how many loads, from the first on, stand before a line
abbrev pub before : ℕ → List LoadLine → ℕ
before line loads = prefix_len (λ (load : LoadLine). nat_lt load.line line) loads

-- the files that an edit gives, and those that it loads, in line order
abbrev pub in_line_order : List FileLine → List LoadLine → (loaded : List SourceFile) → List SourceFile
in_line_order [] loads loaded = loaded
in_line_order (given ∷ more) loads loaded =
    take (before given.line loads) loaded
    ++ given.file ∷ in_line_order more (drop (before given.line loads) loads) (drop (before given.line loads) loaded)

abbrev pub with_file : List SourceFile → SourceFile → List SourceFile
with_file [] file = file ∷ []
with_file (x ∷ xs) file = if file.name.0 == x.name.0 then file ∷ xs else x ∷ with_file xs file

-- these files, and then further ones
abbrev pub with_files : List SourceFile → List SourceFile → List SourceFile
with_files xs [] = xs
with_files xs (file ∷ files) = with_files (with_file xs file) files

abbrev pub files_behind : (before : List SourceFile) → List FileLine → List LoadLine → (loaded : List SourceFile) → List SourceFile
files_behind before given loads loaded = with_files [] (before ++ in_line_order given loads loaded)
