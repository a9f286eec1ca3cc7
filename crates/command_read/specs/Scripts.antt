-- The commands of a script.
use Rattle.std.specs.Prelude.{ℕ, ◌+◌, Bool, true, false, ◌||◌, not, if◌then◌else◌, List, [], ◌∷◌, ◌++◌, take, codes, Result, Ok, Err}
use Rattle.std.specs.Str.{bytes_eq}
use Rattle.ls_text.specs.Readings.{TextFault}
use Rattle.command_read.specs.Lines.{script_lines, words, is_skipped, are_just, begin_with}
use Rattle.command_read.specs.Asking.{Asked, Edits, Sets, Runs, Shows, Settles, AsksStatus, Quits, fault_on}
use Rattle.command_read.specs.LineCommands.{line_command}
use Rattle.command_read.specs.Blocks.{block_command}

-- where a line stands
pub data Stand : Type 0 where
  Outside : Stand
  -- in the block whose `edit` has that line, behind these lines of it; in a text or not
  Within : (first : ℕ) (before : List (List ℕ)) (in_text : Bool) → Stand

-- A lone `edit` outside of a block opens one, a lone `end` in it, outside of its texts, ends it. A line that begins with `file` opens a
-- text, `.` ends it.
abbrev pub stand_behind : Stand → (number : ℕ) → (line : List ℕ) → Stand
stand_behind Outside number line = if are_just (codes "edit") (words line) then Within number [] false else Outside
stand_behind (Within first before true) number line = Within first (before ++ line ∷ []) (not (bytes_eq line (codes ".")))
stand_behind (Within first before false) number line =
    if are_just (codes "end") (words line) then Outside else Within first (before ++ line ∷ []) (begin_with (codes "file") (words line))

-- what is asked for as a line is complete: a line outside of blocks says itself what, and an `end` says it of its block
abbrev pub asked_at : Stand → (number : ℕ) → (line : List ℕ) → List (Result Asked TextFault)
asked_at Outside number line =
    if is_skipped (words line) || are_just (codes "edit") (words line) then [] else line_command number (words line) ∷ []
asked_at (Within first before true) number line = []
asked_at (Within first before false) number line = if are_just (codes "end") (words line) then block_command first before ∷ [] else []

-- 66, where the input ends in a block
abbrev pub asked_last : (ended : Bool) → Stand → List (Result Asked TextFault)
asked_last ended Outside = []
asked_last ended (Within first before in_text) = if ended then Err (fault_on 66 first []) ∷ [] else []

-- what lines from that number on ask for: commands, and the faults of those that are refused
abbrev pub asked_by : (ended : Bool) → Stand → (number : ℕ) → List (List ℕ) → List (Result Asked TextFault)
asked_by ended stand number [] = asked_last ended stand
asked_by ended stand number (line ∷ lines) =
    asked_at stand number line ++ asked_by ended (stand_behind stand number line) (number + 1) lines

-- what bytes outside of blocks ask for, the first of which begin the line of that number
unfoldable pub asks : (ended : Bool) → (number : ℕ) → List ℕ → List (Result Asked TextFault)
asks ended number bytes = asked_by ended Outside number (script_lines ended bytes)

-- whether it is `quit`
abbrev pub is_quit : Result Asked TextFault → Bool
is_quit (Ok (Edits block)) = false
is_quit (Ok (Sets line values)) = false
is_quit (Ok (Runs line n)) = false
is_quit (Ok (Shows line prefix)) = false
is_quit (Ok (Settles line passes)) = false
is_quit (Ok (AsksStatus line)) = false
is_quit (Ok (Quits line)) = true
is_quit (Err fault) = false

-- those up to the first `quit`
abbrev pub up_to_quit : List (Result Asked TextFault) → List (Result Asked TextFault)
up_to_quit [] = []
up_to_quit (x ∷ xs) = x ∷ (if is_quit x then [] else up_to_quit xs)

-- the commands and the refused lines of a script, of which the first 67,108,864 bytes count
unfoldable pub commands : List ℕ → (ended : Bool) → List (Result Asked TextFault)
commands bytes ended = up_to_quit (asks ended 1 (take 67108864 bytes))
