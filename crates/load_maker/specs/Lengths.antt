-- How long scripts are.
use Rattle.std.specs.Prelude.{ℕ, ◌+◌, ◌*◌, ◌≤◌, length}
use Rattle.load_maker.specs.Scripts.{script_of}

-- at most 488 bytes, and 51 for each stage
abbrev pub AreShort : Type 0
AreShort = (n : ℕ) → n ≤ 4096 → length (script_of n) ≤ 488 + 51 * n
