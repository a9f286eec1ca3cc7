-- What a reader finds among the bytes that it holds.
use Rattle.std.specs.Prelude.{◌≡◌, ℕ, ◌+◌, ◌-◌, ◌<◌, ◌≤◌, Bool, true, List, [], ◌∷◌, ◌++◌, length, take, drop, Result, Err}
use Rattle.ls_text.specs.Readings.{TextFault}
use Rattle.command_read.specs.declared.reader.Reader.{Reader}
use Rattle.command_read.specs.declared.line_end.LineEnd.{LineEnd}
use Rattle.command_read.specs.declared.item.Item.{Item}
use Rattle.command_read.specs.declared.item.Item.TheVariants.{Line, Block, Open}
use Rattle.command_read.specs.Lines.{script_lines, words}
use Rattle.command_read.specs.Leading.{MayFollow}
use Rattle.command_read.specs.LineEnds.{IsLineAt}
use Rattle.command_read.specs.Asking.{Asked, fault_on}
use Rattle.command_read.specs.LineCommands.{line_command}
use Rattle.command_read.specs.Blocks.{block_command}
use Rattle.command_read.specs.Scripts.{asks}
use Rattle.command_read.specs.Readers.{left, next_number, has_ended, asked_of}

-- a line ends there that begins at that place of what a reader holds
pub record IsEndOf (r : Reader) (from : ℕ) (found : LineEnd) : Type 0 where
  pub is : IsLineAt (has_ended r) (drop from (left r)) (found.end - from) (found.next - from)
  pub low : from ≤ found.end
  pub order : found.end ≤ found.next
  pub high : found.next ≤ length (left r)
  pub more : from < found.next

-- what a reader asks for first is that, whatever comes behind, and then what so many bytes and lines further is asked for
abbrev pub AsksFirst : Reader → (first : Result Asked TextFault) → (bytes lines : ℕ) → Type 0
AsksFirst r first bytes lines = (more : List ℕ) → (end : Bool) → MayFollow (has_ended r) more end
    → asked_of r more end ≡ first ∷ asks end (next_number r + lines) (drop bytes (left r) ++ more)

-- what that asks for which stands at the front of what a reader holds
abbrev pub item_asked : Reader → Item → Result Asked TextFault
item_asked r (Line end next) = line_command (next_number r) (words (take end (left r)))
item_asked r (Block body end next lines) = block_command (next_number r) (script_lines true (take (end - body) (drop body (left r))))
item_asked r Open = Err (fault_on 66 (next_number r) [])

-- that stands at the front of what a reader holds
abbrev pub IsAtFront : Reader → Item → Type 0
IsAtFront r (Line end next) = (end ≤ next) × (next ≤ length (left r)) × (0 < next)
    × AsksFirst r (line_command (next_number r) (words (take end (left r)))) next 1
IsAtFront r (Block body end next lines) =
    (body ≤ end) × (end ≤ next) × (next ≤ length (left r)) × (lines ≤ next) × (0 < next)
    × AsksFirst r (block_command (next_number r) (script_lines true (take (end - body) (drop body (left r))))) next lines
IsAtFront r Open = (has_ended r ≡ true) × (asked_of r [] true ≡ Err (fault_on 66 (next_number r) []) ∷ [])
