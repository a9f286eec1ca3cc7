-- What holds of each command that a script asks for.
use Rattle.std.specs.Prelude.{◌≡◌, ℕ, ◌^◌, ◌<◌, ◌≤◌, Bool, List, ◌∷◌, length, Result, Ok, IfOk, IfSome, ⊤}
use Rattle.std.specs.List.{All}
use Rattle.ls_text.specs.Readings.{TextFault}
use Rattle.command_read.specs.Asking.{GivenFile, Asked, Edits, Sets, Runs, Shows, Settles, AsksStatus, Quits}
use Rattle.command_read.specs.Scripts.{asks}

-- Of its form: a text that a block gives has at most 4,194,304 bytes; a `set` has a pair, and its values are below 2^128; a number of cycles
-- is below 2^64, and a number of passes from 1 to 1024.
abbrev pub IsFormed : Asked → Type 0
IsFormed (Edits block) = All (λ (f : GivenFile). length f.text ≤ 4194304) block.files
IsFormed (Sets line values) = (0 < length values) × All (λ (v : List ℕ × ℕ). v.1 < 2 ^ 128) values
IsFormed (Runs line n) = n < 2 ^ 64
IsFormed (Shows line prefix) = ⊤
IsFormed (Settles line passes) = IfSome passes (λ n. (1 ≤ n) × (n ≤ 1024))
IsFormed (AsksStatus line) = ⊤
IsFormed (Quits line) = ⊤

-- each command that bytes ask for is of its form
abbrev pub AsksFormed : Type 0
AsksFormed = (end : Bool) (number : ℕ) (bytes : List ℕ) → All (λ (r : Result Asked TextFault). IfOk r IsFormed) (asks end number bytes)

-- so the command that bytes ask for first is
abbrev pub AsksFormedFirst : Type 0
AsksFormedFirst = (end : Bool) (number : ℕ) (bytes : List ℕ) (asked : Asked) (rest : List (Result Asked TextFault))
    → asks end number bytes ≡ Ok asked ∷ rest → IsFormed asked
