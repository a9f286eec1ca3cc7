-- What a block asks for: its lines up to `end`, one after the other.
use Rattle.std.specs.Prelude.{ℕ, ◌+◌, ◌||◌, ◌==◌, nat_lt, Bool, if◌then◌else◌, List, [], ◌∷◌, ◌++◌, length, codes, slice_index, Option, Some, None, Result, Ok, Err}
use Rattle.std.specs.List.{list_any}
use Rattle.std.specs.Str.{bytes_eq}
use Rattle.ls_text.specs.FileNames.{is_file_name}
use Rattle.ls_text.specs.Readings.{TextFault, ◌>>=◌}
use Rattle.reg_ops.specs.Operations.{Operation, Renames, Creates, Deletes}
use Rattle.command_read.specs.Lines.{words, both}
use Rattle.command_read.specs.Values.{is_identifier, register_of, created_of}
use Rattle.command_read.specs.Asking.{GivenFile, LoadedFile, LineOperation, Block, Asked, Edits, fault_on, bad_command, bad_value, of_form, of_number}
use Rattle.command_read.specs.LineCommands.{just_one}

-- what a line of a block says outside of texts
pub data Entry : Type 0 where
  Skipped : Entry
  Top : (name : List ℕ) → Entry
  Clock : (name : List ℕ) → Entry
  -- a file whose text follows
  Gives : (name : List ℕ) → Entry
  Loads : (name : List ℕ) → Entry
  Operates : (op : Operation) → Entry

-- NAME of a module or a clock, or 61
abbrev pub design_name : (line : ℕ) → (word : List ℕ) → Result (List ℕ) TextFault
design_name line word = if is_identifier word then Ok word else bad_value line word

abbrev pub just_name : (line : ℕ) → List (List ℕ) → Result (List ℕ) TextFault
just_name line ws = just_one line ws >>= λ word. design_name line word

-- FILE, or 61
abbrev pub file_name : (line : ℕ) → (word : List ℕ) → Result (List ℕ) TextFault
file_name line word = if is_file_name word then Ok word else bad_value line word

abbrev pub just_file : (line : ℕ) → List (List ℕ) → Result (List ℕ) TextFault
just_file line ws = just_one line ws >>= λ word. file_name line word

-- M.OLD M.NEW of one module; where there are two, the second word is shown
abbrev pub renamed : (line : ℕ) → (old new : List ℕ) → Result Operation TextFault
renamed line old new = do
  from ← of_form line old (register_of old)
  to ← of_form line new (register_of new)
  if bytes_eq from.0 to.0 then Ok (Renames from.0 from.1 to.1) else bad_value line new

-- `rename M.OLD M.NEW`
unfoldable pub rename_entry : (line : ℕ) → List (List ℕ) → Result Operation TextFault
rename_entry line ws = of_number line (both ws) >>= λ registers. renamed line registers.0 registers.1

-- `create M.R=HEX`
unfoldable pub create_entry : (line : ℕ) → List (List ℕ) → Result Operation TextFault
create_entry line ws = do
  word ← just_one line ws
  created ← of_form line word (created_of word)
  Ok (Creates created.0 created.1 created.2)

-- `delete M.R`
unfoldable pub delete_entry : (line : ℕ) → List (List ℕ) → Result Operation TextFault
delete_entry line ws = do
  word ← just_one line ws
  register ← of_form line word (register_of word)
  Ok (Deletes register.0 register.1)

-- a line of a block that begins with this word; a lone `end` isn't among them
abbrev pub entry_of : (line : ℕ) → (word : List ℕ) → List (List ℕ) → Result Entry TextFault
entry_of line word ws =
    if slice_index word 0 == 35 then Ok Skipped
    else if bytes_eq word (codes "top") then just_name line ws >>= (λ name. Ok (Top name))
    else if bytes_eq word (codes "clock") then just_name line ws >>= (λ name. Ok (Clock name))
    else if bytes_eq word (codes "file") then just_file line ws >>= (λ name. Ok (Gives name))
    else if bytes_eq word (codes "load") then just_file line ws >>= (λ name. Ok (Loads name))
    else if bytes_eq word (codes "rename") then rename_entry line ws >>= (λ op. Ok (Operates op))
    else if bytes_eq word (codes "create") then create_entry line ws >>= (λ op. Ok (Operates op))
    else if bytes_eq word (codes "delete") then delete_entry line ws >>= (λ op. Ok (Operates op))
    else if bytes_eq word (codes "end") then bad_command line []
    else bad_command line (word ∷ [])

unfoldable pub block_entry : (line : ℕ) → List (List ℕ) → Result Entry TextFault
block_entry line [] = Ok Skipped
block_entry line (word ∷ ws) = entry_of line word ws

-- a block as far as it is read, and the file whose text is being read, where one is
pub record Reading : Type 0 where
  pub block : Block
  pub file : Option GivenFile

-- whether a block names a file already, be it given or loaded
abbrev pub names_file : Block → List ℕ → Bool
names_file block name = list_any (λ f. bytes_eq name f.name) block.files || list_any (λ f. bytes_eq name f.name) block.loads

abbrev pub with_file : Block → GivenFile → Block
with_file b file = record b { files = b.files ++ file ∷ [] }

abbrev pub with_load : Block → LoadedFile → Block
with_load b load = record b { loads = b.loads ++ load ∷ [] }

abbrev pub with_op : Block → LineOperation → Block
with_op b op = record b { ops = b.ops ++ op ∷ [] }

-- the block with what its line says; a later top or clock stands for an earlier one, and a file is named once
abbrev pub with_entry : Block → (line : ℕ) → Entry → Result Reading TextFault
with_entry b line Skipped = Ok (record { block = b; file = None })
with_entry b line (Top name) = Ok (record { block = record b { top = Some name }; file = None })
with_entry b line (Clock name) = Ok (record { block = record b { clock = Some name }; file = None })
with_entry b line (Gives name) =
    if names_file b name then bad_value line name
    else Ok (record { block = b; file = Some (record { line = line; name = name; text = [] }) })
with_entry b line (Loads name) =
    if names_file b name then bad_value line name
    else Ok (record { block = with_load b (record { line = line; name = name }); file = None })
with_entry b line (Operates op) = Ok (record { block = with_op b (record { line = line; op = op }); file = None })

-- the block with a file whose text is whole; 10 where that has more than 4,194,304 bytes
abbrev pub with_text : Block → GivenFile → Result Reading TextFault
with_text b file =
    if nat_lt 4194304 (length file.text) then Err (fault_on 10 file.line (file.name ∷ []))
    else Ok (record { block = with_file b file; file = None })

abbrev pub more_text : GivenFile → (line : List ℕ) → GivenFile
more_text file line = record file { text = file.text ++ (line ++ 10 ∷ []) }

-- the block behind one more line: of the text that is being read, which a `.` ends, or else one that says something
abbrev pub reading_behind : Block → Option GivenFile → (number : ℕ) → (line : List ℕ) → Result Reading TextFault
reading_behind b None number line = block_entry number (words line) >>= λ entry. with_entry b number entry
reading_behind b (Some file) number line =
    if bytes_eq line (codes ".") then with_text b file else Ok (record { block = b; file = Some (more_text file line) })

-- the block behind the lines from that number on, or the first fault among them
abbrev pub reading_of : Reading → (number : ℕ) → List (List ℕ) → Result Reading TextFault
reading_of reading number [] = Ok reading
reading_of reading number (line ∷ lines) =
    reading_behind reading.block reading.file number line >>= λ next. reading_of next (number + 1) lines

-- a block of which only the line of `edit` is read
abbrev pub begun_at : (line : ℕ) → Reading
begun_at line = record { block = record { line = line; top = None; clock = None; files = []; loads = []; ops = [] }; file = None }

-- the block whose `edit` has that line, of the lines between that and its `end`
unfoldable pub block_command : (line : ℕ) → List (List ℕ) → Result Asked TextFault
block_command line lines = reading_of (begun_at line) (line + 1) lines >>= λ reading. Ok (Edits reading.block)
