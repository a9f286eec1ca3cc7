-- What commands do to a session, or why they are refused.
use Rattle.std.specs.Prelude.{ℕ, ◌+◌, ◌-◌, ◌*◌, ◌^◌, ◌==◌, ◌||◌, not, nat_lt, min, if◌then◌else◌, List, [], ◌∷◌, ◌++◌, map, length, replicate, Option, Some, None, Result, Ok, Err}
use Rattle.std.specs.List.{list_any, filter}
use Rattle.std.specs.Option.{option_or, unwrap_or}
use Rattle.std.specs.Str.{bytes_eq}
use Rattle.ls_text.specs.Readings.{TextFault}
use Rattle.typed_ir.specs.Cycles.{width_at}
use Rattle.stimulus.specs.Rows.{names_set}
use Rattle.book_history.specs.Book.{grid as mark_cycles}
use Rattle.book_history.specs.Outline.{add_marks, last_until}
use Rattle.command_read.specs.Asking.{Block, Asked, Edits, Sets, Runs, Shows, Settles, AsksStatus, Quits}
use Rattle.live_session.specs.Files.{TextFile, files_behind}
use Rattle.live_session.specs.Loads.{LoadAnswer, loaded_files}
use Rattle.live_session.specs.Operations.{registers_of, operations_fault}
use Rattle.live_session.specs.Rows.{Row, with_value, are_same}
use Rattle.live_session.specs.Settings.{Settings}
use Rattle.live_session.specs.Spelled.{Answer, Spelled, input_texts}
use Rattle.live_session.specs.Worlds.{World, Refused, refused_at, refused_text, cycle}

-- a command or a refused line, with what the outside says to it: what a shelf answers to the loads that are reached, and what the files behind
-- a block come to, which is looked at where there is no fault before
pub record Told : Type 0 where
  pub asked : Result Asked TextFault
  pub loads : List LoadAnswer
  pub answer : Answer

-- ---- edits

-- the files behind a block
abbrev pub files_after : World → Block → (loaded : List TextFile) → List TextFile
files_after w block loaded = files_behind w.files block.files block.loads loaded

abbrev pub top_after : World → Block → Option (List ℕ)
top_after w block = option_or block.top w.top

abbrev pub clock_after : World → Block → List ℕ
clock_after w block = unwrap_or block.clock w.clock

-- the keys that aren't held
abbrev pub missing_keys : (held keys : List (List ℕ)) → List (List ℕ)
missing_keys held keys = filter (λ (key : List ℕ). not (list_any (bytes_eq key) held)) keys

-- the next version: these files with this design, and nothing else is new but that the units of its keys are held; it is charged 1
abbrev pub edited : World → Block → (loaded : List TextFile) → Spelled → World
edited w block loaded design = record w {
  files = files_after w block loaded;
  top = top_after w block;
  clock = clock_after w block;
  version = w.version + 1;
  design = Some design;
  held = w.held ++ missing_keys w.held design.keys;
  charge = w.charge + 1;
}

abbrev pub unless : Option Refused → World → Result World Refused
unless None w = Ok w
unless (Some refused) w = Err refused

-- the faults of the texts, from their number on, and at last those of the operations
abbrev pub planned_verdict : World → Block → (loaded : List TextFile) → Answer → Result World Refused
planned_verdict w block loaded (Err fault) = Err (refused_text (files_after w block loaded) block.line fault)
planned_verdict w block loaded (Ok design) =
    unless (operations_fault (registers_of w.design) (registers_of (Some design)) [] block.ops) (edited w block loaded design)

abbrev pub loaded_verdict : World → Block → Answer → Result (List TextFile) Refused → Result World Refused
loaded_verdict w block answer (Err refused) = Err refused
loaded_verdict w block answer (Ok loaded) = planned_verdict w block loaded answer

-- 68 before anything is loaded
abbrev pub edit_verdict : Settings → World → Block → List LoadAnswer → Answer → Result World Refused
edit_verdict st w block loads answer =
    if nat_lt st.room (w.charge + 1) then Err (refused_at 68 block.line [])
    else loaded_verdict w block answer (loaded_files block.loads loads)

-- ---- stimulus

-- the width of the input of that name, where there is one
abbrev pub width_in : List (List ℕ) → List ℕ → (name : List ℕ) → Option ℕ
width_in [] widths name = None
width_in (text ∷ texts) [] name = None
width_in (text ∷ texts) (width ∷ widths) name = if bytes_eq text name then Some width else width_in texts widths name

abbrev pub input_width : Spelled → (name : List ℕ) → Option ℕ
input_width design name = width_in (input_texts design) (map (width_at design.flat) design.flat.inputs) name

-- 63 where the top has no such input, else 61 where the value doesn't fit it
abbrev pub port_fault : (line : ℕ) → (port : List ℕ) → (value : ℕ) → Option ℕ → Option Refused
port_fault line port value None = Some (refused_at 63 line (port ∷ []))
port_fault line port value (Some width) = if nat_lt value (2 ^ width) then None else Some (refused_at 61 line (port ∷ []))

abbrev pub row_unless : Option Refused → Result Row Refused → Result Row Refused
row_unless None row = row
row_unless (Some refused) row = Err refused

-- the row with these values, one after the other
abbrev pub set_row : (line : ℕ) → Spelled → Row → List (List ℕ × ℕ) → Result Row Refused
set_row line design row [] = Ok row
set_row line design row (v ∷ vs) =
    row_unless (port_fault line v.0 v.1 (input_width design v.0)) (set_row line design (with_value row v.0 v.1) vs)

abbrev pub with_row : World → Result Row Refused → Result World Refused
with_row w (Ok row) = Ok (record w { row = row })
with_row w (Err refused) = Err refused

abbrev pub set_verdict : World → (line : ℕ) → List (List ℕ × ℕ) → Option Spelled → Result World Refused
set_verdict w line values None = Err (refused_at 62 line [])
set_verdict w line values (Some design) = with_row w (set_row line design w.row values)

-- ---- runs and displays

-- the row is set in so many cycles more; there is a mark at each multiple of the interval among these, and at their end
abbrev pub ran : Settings → World → (n : ℕ) → World
ran st w n = record w {
  record_ = w.record_ ++ replicate n w.row;
  grid = add_marks w.grid (mark_cycles st.interval (cycle w) n);
  charge = w.charge + 1;
}

abbrev pub counted_verdict : Settings → World → (line n : ℕ) → Result World Refused
counted_verdict st w line n =
    if (n == 0) || nat_lt 1000000000 n then Err (refused_at 64 line [])
    else if nat_lt st.cycles (cycle w + n) then Err (refused_at 65 line [])
    else if nat_lt st.stimulus (names_set are_same length (w.record_ ++ replicate n w.row)) then Err (refused_at 69 line [])
    else if nat_lt st.room (w.charge + 1) then Err (refused_at 68 line [])
    else Ok (ran st w n)

abbrev pub run_verdict : Settings → World → (line n : ℕ) → Option Spelled → Result World Refused
run_verdict st w line n None = Err (refused_at 62 line [])
run_verdict st w line n (Some design) = counted_verdict st w line n

-- so much more of the session's room is used, where it is there
abbrev pub charged : Settings → World → (line more : ℕ) → Result World Refused
charged st w line more = if nat_lt st.room (w.charge + more) then Err (refused_at 68 line []) else Ok (record w { charge = w.charge + more })

abbrev pub show_verdict : Settings → World → (line : ℕ) → Option Spelled → Result World Refused
show_verdict st w line None = Err (refused_at 62 line [])
show_verdict st w line (Some design) = charged st w line 1

-- a pass for each link, or as many as are said; each pass has room for a claim and an install, and the display for one
abbrev pub passes_of : World → Option ℕ → ℕ
passes_of w passes = unwrap_or passes (length w.grid)

abbrev pub settle_charge : World → Option ℕ → ℕ
settle_charge w passes = 2 * min (passes_of w passes) (length w.grid) + 1

abbrev pub settle_verdict : Settings → World → (line : ℕ) → Option ℕ → Option Spelled → Result World Refused
settle_verdict st w line passes None = Err (refused_at 62 line [])
settle_verdict st w line passes (Some design) = charged st w line (settle_charge w passes)

-- ---- all commands

abbrev pub command_verdict : Settings → World → Asked → List LoadAnswer → Answer → Result World Refused
command_verdict st w (Edits block) loads answer = edit_verdict st w block loads answer
command_verdict st w (Sets line values) loads answer = set_verdict w line values w.design
command_verdict st w (Runs line n) loads answer = run_verdict st w line n w.design
command_verdict st w (Shows line prefix) loads answer = show_verdict st w line w.design
command_verdict st w (Settles line passes) loads answer = settle_verdict st w line passes w.design
command_verdict st w (AsksStatus line) loads answer = Ok w
command_verdict st w (Quits line) loads answer = Ok w

-- the world behind a command, or its refusal
abbrev pub verdict : Settings → World → Result Asked TextFault → List LoadAnswer → Answer → Result World Refused
verdict st w (Ok asked) loads answer = command_verdict st w asked loads answer
verdict st w (Err fault) loads answer = Err (refused_text [] 0 fault)

-- the cycle from which an edit is simulated: that of the last mark which is at least the lookback behind, or 0
abbrev pub chosen : Settings → World → ℕ
chosen st w = last_until (cycle w - st.lookback) 0 w.grid
