-- What a record has: its limit, and one row a cycle.
use Rattle.std.specs.Prelude.{ℕ, List}
use Rattle.machine.specs.Rows.{expanded}
use Rattle.stimulus.specs.declared.recorded.Record.{Record}

-- how many names may be set
abbrev pub limit_of : Record → ℕ
limit_of r = r.limit

abbrev pub rows_of : Record → List (List (ℕ × ℕ))
rows_of r = expanded r.runs.items
