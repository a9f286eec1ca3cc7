-- Which files a block names.
use Rattle.std.specs.Prelude.{ℕ, ◌||◌, ◌==◌, Bool, List}
use Rattle.std.specs.List.{list_any}
use Rattle.command_read.specs.declared.file_line.FileLine.{FileLine}
use Rattle.command_read.specs.declared.load_line.LoadLine.{LoadLine}

-- whether a name is that of a file that is given or loaded
abbrev pub is_known : ℕ → List FileLine → List LoadLine → Bool
is_known id files loads = list_any (λ (f : FileLine). id == f.file.name.0) files || list_any (λ (l : LoadLine). id == l.name.0) loads
