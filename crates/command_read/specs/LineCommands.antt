-- The commands of one line.
use Rattle.std.specs.Prelude.{ℕ, ◌&&◌, nat_le, if◌then◌else◌, List, [], ◌∷◌, codes, Option, Some, None, Result, Ok}
use Rattle.std.specs.Str.{bytes_eq}
use Rattle.ls_text.specs.Options.{guard}
use Rattle.ls_text.specs.Readings.{TextFault, ◌>>=◌}
use Rattle.command_read.specs.Lines.{only}
use Rattle.command_read.specs.Values.{count_of, setting_of, shown_of}
use Rattle.command_read.specs.Asking.{Asked, Sets, Runs, Shows, Settles, AsksStatus, Quits, bad_command, of_form, of_number}

-- the one word of a list, or 60
abbrev pub just_one : (line : ℕ) → List (List ℕ) → Result (List ℕ) TextFault
just_one line ws = of_number line (only ws)

-- a command without further words
abbrev pub lone : (line : ℕ) → Asked → List (List ℕ) → Result Asked TextFault
lone line asked [] = Ok asked
lone line asked (w ∷ ws) = bad_command line []

-- the pairs PORT=HEX of words, or 61 at the first that isn't one
abbrev pub settings : (line : ℕ) → List (List ℕ) → Result (List (List ℕ × ℕ)) TextFault
settings line [] = Ok []
settings line (w ∷ ws) = do
  value ← of_form line (shown_of w) (setting_of w)
  values ← settings line ws
  Ok (value ∷ values)

-- `set PORT=HEX ..`, with at least one pair
abbrev pub set_command : (line : ℕ) → List (List ℕ) → Result Asked TextFault
set_command line [] = bad_command line []
set_command line (w ∷ ws) = settings line (w ∷ ws) >>= λ values. Ok (Sets line values)

-- `run N`
unfoldable pub run_command : (line : ℕ) → List (List ℕ) → Result Asked TextFault
run_command line ws = do
  word ← just_one line ws
  n ← of_form line word (count_of word)
  Ok (Runs line n)

-- `show [PREFIX]`
abbrev pub show_command : (line : ℕ) → List (List ℕ) → Result Asked TextFault
show_command line [] = Ok (Shows line [])
show_command line (w ∷ ws) = just_one line (w ∷ ws) >>= λ prefix. Ok (Shows line prefix)

-- a number of passes, from 1 to 1024
abbrev pub passes_of : Option ℕ → Option ℕ
passes_of None = None
passes_of (Some n) = guard (nat_le 1 n && nat_le n 1024) n

abbrev pub settle_with : (line : ℕ) → (word : List ℕ) → Result Asked TextFault
settle_with line word = of_form line word (passes_of (count_of word)) >>= λ n. Ok (Settles line (Some n))

-- `settle [N]`
abbrev pub settle_command : (line : ℕ) → List (List ℕ) → Result Asked TextFault
settle_command line [] = Ok (Settles line None)
settle_command line (w ∷ ws) = just_one line (w ∷ ws) >>= λ word. settle_with line word

-- a line that begins with this word, outside of blocks
abbrev pub command_of : (line : ℕ) → (word : List ℕ) → List (List ℕ) → Result Asked TextFault
command_of line word ws =
    if bytes_eq word (codes "set") then set_command line ws
    else if bytes_eq word (codes "run") then run_command line ws
    else if bytes_eq word (codes "show") then show_command line ws
    else if bytes_eq word (codes "settle") then settle_command line ws
    else if bytes_eq word (codes "status") then lone line (AsksStatus line) ws
    else if bytes_eq word (codes "quit") then lone line (Quits line) ws
    else if bytes_eq word (codes "edit") then bad_command line []
    else bad_command line (word ∷ [])

-- the command of the words of a line outside of blocks, which aren't skipped and no lone `edit`
unfoldable pub line_command : (line : ℕ) → List (List ℕ) → Result Asked TextFault
line_command line [] = bad_command line []
line_command line (word ∷ ws) = command_of line word ws
