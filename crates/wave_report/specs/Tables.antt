-- Tables: the registers of a design by their hierarchical names (IEEE Std 1364-2005, 12.4), a line each; the lines are this project's own.
use Rattle.std.specs.Prelude.{ℕ, ◌==◌, if◌then◌else◌, List, [], ◌∷◌, ◌++◌, codes}
use Rattle.std.specs.List.{starts_with}
use Rattle.typed_ir.specs.Cycles.{Signal, Flat}
use Rattle.typed_ir.specs.Orders.{at_or}
use Rattle.typed_ir.specs.Paths.{joined}
use Rattle.wave_report.specs.Digits.{hex_text}

-- the line of a register by its path, its width and its value
abbrev pub line_text : List ℕ → ℕ → ℕ → List ℕ
line_text path width value = path ++ (codes " " ++ (hex_text width value ++ (10 ∷ [])))

-- that line, where the path begins with the prefix
abbrev pub shown_line : List ℕ → List ℕ → ℕ → ℕ → List ℕ
shown_line prefix path width value = if starts_with ◌==◌ path prefix then line_text path width value else []

abbrev pub signal_line : List (List ℕ) → List ℕ → ℕ → Signal → List ℕ
signal_line names prefix value x = shown_line prefix (joined names x.path) x.width value

-- the lines of these signals, each with the value at its place
abbrev pub signal_lines : List (List ℕ) → List ℕ → List Signal → List ℕ → List ℕ → List ℕ
signal_lines names prefix signals [] values = []
signal_lines names prefix signals (r ∷ rs) [] = []
signal_lines names prefix signals (r ∷ rs) (x ∷ xs) =
    at_or (signal_line names prefix x) [] signals r ++ signal_lines names prefix signals rs xs

-- the registers of a design whose paths begin with the prefix, in the design's order, where these are the values of all
unfoldable pub table_text : List (List ℕ) → Flat → List ℕ → List ℕ → List ℕ
table_text names design values prefix = signal_lines names prefix design.signals design.registers values
