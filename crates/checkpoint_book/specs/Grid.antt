-- The marks of a run one by one, and lists that have the same rows.
use Rattle.std.specs.Prelude.{◌≡◌, ℕ, ◌+◌, ◌-◌, ◌%◌, ◌≤◌, List, if◌then◌else◌, leb, suc}
use Rattle.machine.specs.Rows.{slice, between}

-- the next multiple of the interval after `at`, or the end where that comes first
abbrev pub next_mark : ℕ → ℕ → ℕ → ℕ
next_mark interval at end = if leb (suc (interval - at % interval)) (end - at) then at + (interval - at % interval) else end

-- a record and rows have the same row at each cycle from c to end - 1
abbrev pub AgreeFrom : {R : Type 0} → ℕ → ℕ → ℕ × List R → List R → Type 0
AgreeFrom c end rows all = (a b : ℕ) → c ≤ a → b ≤ end → between rows a b ≡ slice all a b
