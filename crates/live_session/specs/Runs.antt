-- Why rows of a run aren't recorded.
use Rattle.std.specs.Prelude.{ℕ, Bool, nat_lt, if◌then◌else◌, List, ◌++◌, Option, Some, None, is_some}

-- 69 where more names would be set than the limit, else 68 where the room is used up; None: the rows are recorded
abbrev pub run_code : (limit names : ℕ) → (has_room : Bool) → Option ℕ
run_code limit names has_room = if nat_lt limit names then Some 69 else (if has_room then None else Some 68)

-- the rows of a record behind that
abbrev pub rows_behind : Option ℕ → (rows more : List (List (ℕ × ℕ))) → List (List (ℕ × ℕ))
rows_behind code rows more = if is_some code then rows else rows ++ more
