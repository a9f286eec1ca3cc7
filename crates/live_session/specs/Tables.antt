-- Tables of registers, by the texts of their paths.
use Rattle.std.specs.Prelude.{ℕ, List, [], ◌∷◌, ◌++◌}
use Rattle.typed_ir.specs.Cycles.{width_at, truth}
use Rattle.typed_ir.specs.Orders.{at_or}
use Rattle.wave_report.specs.Tables.{shown_line}
use Rattle.live_session.specs.Rows.{Row, given_at}
use Rattle.live_session.specs.Spelled.{Spelled, dotted, input_texts}

-- the registers of a design at a cycle as they are after a run from reset on the record
abbrev pub true_registers : Spelled → (record_ : List Row) → (cycle : ℕ) → List ℕ
true_registers design record_ cycle = truth design.flat (given_at (input_texts design) record_) cycle

-- a line for each of these registers whose path begins with the prefix, with its value
abbrev pub table_lines : Spelled → (prefix : List ℕ) → (registers values : List ℕ) → List ℕ
table_lines design prefix [] values = []
table_lines design prefix (r ∷ rs) [] = []
table_lines design prefix (r ∷ rs) (x ∷ xs) =
    at_or (λ (path : List (List ℕ)). shown_line prefix (dotted path) (width_at design.flat r) x) [] design.paths r ++ table_lines design prefix rs xs
