-- Where a line ends among bytes.
use Rattle.std.specs.Prelude.{◌≡◌, ℕ, ◌+◌, ◌<◌, ◌≤◌, ◌==◌, not, Bool, true, List, length, take, drop}
use Rattle.std.specs.List.{prefix_len}
use Rattle.std.specs.Str.Lines.{strip_carriage_return}
use Rattle.command_read.specs.Leading.{Leads}

-- how many bytes stand before the first newline
abbrev pub line_length : List ℕ → ℕ
line_length bytes = prefix_len (λ b. not (b == 10)) bytes

-- the bytes begin with a line of that length, and the next one begins there; a line that is shorter than what it takes is ended by a newline
pub record IsLineAt (ended : Bool) (bytes : List ℕ) (len next : ℕ) : Type 0 where
  pub leads : Leads ended bytes (take len bytes) (drop next bytes)
  pub within : next ≤ length bytes
  pub some : 0 < next
  pub shorter : len ≤ next
  pub last : next ≤ len → (next ≡ length bytes) × (ended ≡ true)
  pub newline : len < next → next ≡ line_length bytes + 1
  pub strips : len < next → take len bytes ≡ strip_carriage_return (take (line_length bytes) bytes)
