-- Places in a text: lines and byte columns from 1.
use Rattle.std.specs.Prelude.{ℕ, ◌+◌, min, ◌==◌, if◌then◌else◌, List, [], ◌∷◌}
use Rattle.ls_text.specs.declared.place.Place.{Place}

-- one more; a count that rises stands still at its type's end
abbrev pub next : ℕ → ℕ
next n = min (n + 1) 4294967295

-- the place after one byte: a newline ends its line
abbrev pub step : Place → ℕ → Place
step at b =
    if b == 10 then record { file = at.file; line = next at.line; col = 1 }
    else record { file = at.file; line = at.line; col = next at.col }

-- the place after a stretch of bytes
abbrev pub place_after : Place → List ℕ → Place
place_after at [] = at
place_after at (b ∷ bs) = place_after (step at b) bs

-- where a file begins
abbrev pub file_start : ℕ → Place
file_start file = record { file = file; line = 1; col = 1 }
