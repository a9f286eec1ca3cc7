-- What commands, and what is read of them so far, mean by a table of names.
use Rattle.std.specs.Prelude.{◌≡◌, ℕ, ◌<◌, List, map, Option, IfSome, ⊤}
use Rattle.std.specs.Option.{option_map}
use Rattle.std.specs.List.{All}
use Rattle.ls_text.specs.Texts.{text_at}
use Rattle.ls_text.specs.TextViews.{text_of}
use Rattle.ls_text.specs.Readings.{TextFault, fault_view}
use Rattle.ls_text.specs.declared.name_id.NameId.{NameId}
use Rattle.ls_text.specs.declared.refusal.Refusal.{Refusal}
use Rattle.ls_text.specs.declared.refusal.Refusal.TheVariants as refusal
use Rattle.reg_ops.specs.Operations.{operation, HasNames}
use Rattle.command_read.specs.declared.file_line.FileLine.{FileLine}
use Rattle.command_read.specs.declared.load_line.LoadLine.{LoadLine}
use Rattle.command_read.specs.declared.op_line.OpLine.{OpLine}
use Rattle.command_read.specs.declared.port_value.PortValue.{PortValue}
use Rattle.command_read.specs.declared.edit.Edit.{Edit as EditBlock}
use Rattle.command_read.specs.declared.command.Command.{Command}
use Rattle.command_read.specs.declared.command.Command.TheVariants.{Edit, Set, Run, Show, Settle, Status, Quit}
use Rattle.command_read.specs.declared.block_line.BlockLine.{BlockLine}
use Rattle.command_read.specs.declared.block_line.BlockLine.TheVariants as said
use Rattle.command_read.specs.declared.open_text.OpenText.{OpenText}
use Rattle.command_read.specs.declared.draft.Draft.{Draft}
use Rattle.command_read.specs.Asking.{GivenFile, LoadedFile, LineOperation, Block, Asked, Edits, Sets, Runs, Shows, Settles, AsksStatus, Quits}
use Rattle.command_read.specs.Blocks.{Entry, Skipped, Top, Clock, Gives, Loads, Operates, Reading}

abbrev pub given_file : List (List ℕ) → FileLine → GivenFile
given_file names f = record { line = f.line; name = text_at names f.file.name.0; text = f.file.text }

abbrev pub loaded_file : List (List ℕ) → LoadLine → LoadedFile
loaded_file names l = record { line = l.line; name = text_at names l.name.0 }

abbrev pub line_operation : List (List ℕ) → OpLine → LineOperation
line_operation names o = record { line = o.line; op = operation names o.op }

abbrev pub setting : List (List ℕ) → PortValue → List ℕ × ℕ
setting names v = (text_at names v.port.0, v.value)

abbrev pub edited : List (List ℕ) → EditBlock → Block
edited names e = record {
  line = e.line;
  top = option_map (text_of names) e.top;
  clock = option_map (text_of names) e.clock;
  files = map (given_file names) e.files;
  loads = map (loaded_file names) e.loads;
  ops = map (line_operation names) e.ops;
}

-- what a command means by a table of names
abbrev pub spoken : List (List ℕ) → Command → Asked
spoken names (Edit block) = Edits (edited names block)
spoken names (Set line values) = Sets line (map (setting names) values)
spoken names (Run line n) = Runs line n
spoken names (Show line prefix) = Shows line prefix
spoken names (Settle line passes) = Settles line passes
spoken names (Status line) = AsksStatus line
spoken names (Quit line) = Quits line

-- a name, where there is one, is among so many
abbrev pub IsWithin : ℕ → Option NameId → Type 0
IsWithin count name = IfSome name (λ (id : NameId). id.0 < count)

abbrev pub AreFilesWithin : ℕ → List FileLine → Type 0
AreFilesWithin count files = All (λ (f : FileLine). f.file.name.0 < count) files

abbrev pub AreLoadsWithin : ℕ → List LoadLine → Type 0
AreLoadsWithin count loads = All (λ (l : LoadLine). l.name.0 < count) loads

abbrev pub AreOpsWithin : ℕ → List OpLine → Type 0
AreOpsWithin count ops = All (λ (o : OpLine). HasNames count o.op) ops

-- the names of a block are among so many
pub record IsEditWithin (count : ℕ) (e : EditBlock) : Type 0 where
  pub tops : IsWithin count e.top
  pub clocks : IsWithin count e.clock
  pub given : AreFilesWithin count e.files
  pub loaded : AreLoadsWithin count e.loads
  pub operations : AreOpsWithin count e.ops

-- the names of a command are among so many
abbrev pub IsCommandWithin : ℕ → Command → Type 0
IsCommandWithin count (Edit block) = IsEditWithin count block
IsCommandWithin count (Set line values) = All (λ (v : PortValue). v.port.0 < count) values
IsCommandWithin count (Run line n) = ⊤
IsCommandWithin count (Show line prefix) = ⊤
IsCommandWithin count (Settle line passes) = ⊤
IsCommandWithin count (Status line) = ⊤
IsCommandWithin count (Quit line) = ⊤

-- a refusal is that fault, or memory ran out
abbrev pub IsFault : List (List ℕ) → Refusal → TextFault → Type 0
IsFault names (refusal.Fault f) fault = fault_view names f ≡ fault
IsFault names refusal.NoMemory fault = ⊤

-- what a line of a block says
abbrev pub entry : List (List ℕ) → BlockLine → Entry
entry names said.Skipped = Skipped
entry names (said.Top name) = Top (text_of names name)
entry names (said.Clock name) = Clock (text_of names name)
entry names (said.File name) = Gives (text_of names name)
entry names (said.Load name) = Loads (text_of names name)
entry names (said.Op op) = Operates (operation names op)

abbrev pub IsEntryWithin : ℕ → BlockLine → Type 0
IsEntryWithin count said.Skipped = ⊤
IsEntryWithin count (said.Top name) = name.0 < count
IsEntryWithin count (said.Clock name) = name.0 < count
IsEntryWithin count (said.File name) = name.0 < count
IsEntryWithin count (said.Load name) = name.0 < count
IsEntryWithin count (said.Op op) = HasNames count op

-- a file whose text is being read
abbrev pub open_file : List (List ℕ) → OpenText → GivenFile
open_file names t = record { line = t.line; name = text_at names t.name.0; text = t.text.items }

-- a block as far as it is read
abbrev pub drafted : List (List ℕ) → Draft → Block
drafted names d = record {
  line = d.line;
  top = option_map (text_of names) d.top;
  clock = option_map (text_of names) d.clock;
  files = map (given_file names) d.files.given.items;
  loads = map (loaded_file names) d.files.loaded.items;
  ops = map (line_operation names) d.ops.items;
}

abbrev pub reading : List (List ℕ) → Draft → Reading
reading names d = record { block = drafted names d; file = option_map (open_file names) d.text }

-- the names of what is read of a block are among so many
pub record IsDraftWithin (count : ℕ) (d : Draft) : Type 0 where
  pub tops : IsWithin count d.top
  pub clocks : IsWithin count d.clock
  pub given : AreFilesWithin count d.files.given.items
  pub loaded : AreLoadsWithin count d.files.loaded.items
  pub operations : AreOpsWithin count d.ops.items
  pub named : IfSome d.text (λ (t : OpenText). t.name.0 < count)
