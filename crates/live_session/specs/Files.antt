-- The texts behind an edit, by the names of their files.
use Rattle.std.specs.Prelude.{ℕ, nat_lt, if◌then◌else◌, List, [], ◌∷◌, ◌++◌, take, drop}
use Rattle.std.specs.List.{prefix_len}
use Rattle.std.specs.Str.{bytes_eq}
use Rattle.ls_text.specs.Texts.{text_at}
use Rattle.ls_text.specs.declared.source_file.SourceFile.{SourceFile}
use Rattle.command_read.specs.Asking.{GivenFile, LoadedFile}

pub record TextFile : Type 0 where
  pub name : List ℕ
  pub text : List ℕ

abbrev pub text_file : (names : List (List ℕ)) → SourceFile → TextFile
text_file names f = record { name = text_at names f.name.0; text = f.text }

-- how many loads, from the first on, stand before a line
abbrev pub loads_before : (line : ℕ) → List LoadedFile → ℕ
loads_before line loads = prefix_len (λ (load : LoadedFile). nat_lt load.line line) loads

-- the files that a block gives, and those that it loads, in line order
abbrev pub in_line_order : List GivenFile → List LoadedFile → (loaded : List TextFile) → List TextFile
in_line_order [] loads loaded = loaded
in_line_order (given ∷ more) loads loaded =
    take (loads_before given.line loads) loaded
    ++ record { name = given.name; text = given.text } ∷ in_line_order more (drop (loads_before given.line loads) loads) (drop (loads_before given.line loads) loaded)

-- a file that is named again keeps its place and takes the new text
abbrev pub with_file : List TextFile → TextFile → List TextFile
with_file [] file = file ∷ []
with_file (x ∷ xs) file = if bytes_eq file.name x.name then file ∷ xs else x ∷ with_file xs file

-- these files, and then further ones
abbrev pub with_files : List TextFile → List TextFile → List TextFile
with_files xs [] = xs
with_files xs (file ∷ files) = with_files (with_file xs file) files

-- the files behind a block, whose loads gave these texts
abbrev pub files_behind : (before : List TextFile) → List GivenFile → List LoadedFile → (loaded : List TextFile) → List TextFile
files_behind before given loads loaded = with_files [] (before ++ in_line_order given loads loaded)
