-- The lines that answer `status`.
use Rattle.std.specs.Prelude.{ℕ, ◌+◌, ◌==◌, not, List, [], map, take, drop, length, Option, Some, None}
use Rattle.std.specs.List.{prefix_len}
use Rattle.module_registry.specs.Keys.{KeyData}
use Rattle.sha2.specs.Sha256.{sha256}
use Rattle.wave_report.specs.Replies.{status_text}
use Rattle.wave_report.specs.declared.unit_line.UnitLine.{UnitLine}
use Rattle.live_session.specs.Spelled.{Spelled}
use Rattle.live_session.specs.Worlds.{World, cycle}

-- a key's text begins with `module`, a space, and the name of the module up to the next one
abbrev pub module_in : (key : List ℕ) → List ℕ
module_in key = take (prefix_len (λ (b : ℕ). not (b == 32)) (drop 7 key)) (drop 7 key)

-- a unit by its module and the digest of its key (FIPS 180-4)
abbrev pub unit_line : (key : List ℕ) → UnitLine
unit_line key = record { «module» = module_in key; digest = sha256 key }

-- the same of a key whose digest is at hand
abbrev pub key_line : KeyData → UnitLine
key_line key = record { «module» = module_in key.text; digest = key.digest }

-- the version, the cycle, how many marks there are, and the units of the design
abbrev pub status_lines : World → Option Spelled → List ℕ
status_lines w None = status_text w.version (cycle w) 0 []
status_lines w (Some design) = status_text w.version (cycle w) (length w.grid + 1) (map unit_line design.keys)
