-- The lines that answer commands, by the world at each one's place and what the history says at its own entry.
use Rattle.std.specs.Prelude.{ℕ, ◌-◌, ◌==◌, if◌then◌else◌, List, [], ◌∷◌, ◌++◌, map, length, codes, decimal, Option, Some, None, Result, Ok, Err}
use Rattle.std.specs.List.{flat_map}
use Rattle.ls_text.specs.Faults.{code_name, line_text}
use Rattle.ls_text.specs.Readings.{TextFault}
use Rattle.ls_port.specs.declared.shelf_answer.ShelfAnswer.{ShelfAnswer}
use Rattle.wave_report.specs.Replies.{edit_text, run_text}
use Rattle.book_history.specs.Moments.{Moment}
use Rattle.command_read.specs.Asking.{Asked, Edits, Sets, Runs, Shows, Settles, AsksStatus, Quits}
use Rattle.live_session.specs.Judging.{verdict_on, after}
use Rattle.live_session.specs.Loads.{LoadAnswer, shelf_answers}
use Rattle.live_session.specs.Logs.{State}
use Rattle.live_session.specs.Settings.{Settings}
use Rattle.live_session.specs.Shown.{answer_of, display_text, last_values, settle_text}
use Rattle.live_session.specs.Spelled.{Spelled}
use Rattle.live_session.specs.Statuses.{status_lines}
use Rattle.live_session.specs.Verdicts.{Told, missing_keys, chosen}
use Rattle.live_session.specs.Worlds.{World, Where, InText, OnLine, Refused, cycle}

-- how many units were built, and how many were there
abbrev pub accepted_text : Settings → (old new : World) → Option Spelled → List ℕ
accepted_text st old new None = []
accepted_text st old new (Some design) =
    let built = length (missing_keys old.held design.keys) in edit_text new.version built (length design.keys - built) (chosen st old)

abbrev pub where_text : Where → List ℕ
where_text (InText file line col) = file ++ (58 ∷ decimal line) ++ (58 ∷ decimal col)
where_text (OnLine line) = line_text line

-- each name after a space, and `-` where there is none
abbrev pub shown_names : List (List ℕ) → List ℕ
shown_names names = if length names == 0 then codes " -" else flat_map (λ (name : List ℕ). 32 ∷ name) names

-- the line of a refusal
abbrev pub refusal_text : Refused → List ℕ
refusal_text r =
    codes "refused " ++ decimal r.code ++ codes " " ++ code_name r.code ++ codes " "
    ++ where_text r.place ++ shown_names r.names ++ (10 ∷ [])

-- ---- the commands' own entries, each with the book before it

module _ {D R O : Type 0} where
  -- the lines of a command that is accepted and leads from the one world to the other, whose own entry that is
  abbrev pub entry_text : Settings → Asked → (old new : World) → Moment D State R O → List ℕ
  entry_text st (Edits block) old new m = accepted_text st old new new.design
  entry_text st (Sets line values) old new m = []
  entry_text st (Runs line n) old new m = run_text (cycle new)
  entry_text st (Shows line prefix) old new m = display_text new prefix new.design (answer_of m.entry) (last_values m.book)
  entry_text st (Settles line passes) old new m = settle_text new (answer_of m.entry)
  entry_text st (AsksStatus line) old new m = []
  entry_text st (Quits line) old new m = []

  -- the same with the next of the entries, and those that are left; none where it isn't there
  abbrev pub next_text : Settings → Asked → (old new : World) → List (Moment D State R O) → Option (List ℕ × List (Moment D State R O))
  next_text st asked old new [] = None
  next_text st asked old new (m ∷ ms) = Some (entry_text st asked old new m, ms)

  -- `set`, `status` and `quit` have no entry
  abbrev pub command_text : Settings → Asked → (old new : World) → List (Moment D State R O) → Option (List ℕ × List (Moment D State R O))
  command_text st (Edits block) old new ms = next_text st (Edits block) old new ms
  command_text st (Sets line values) old new ms = Some (codes "ok set\n", ms)
  command_text st (Runs line n) old new ms = next_text st (Runs line n) old new ms
  command_text st (Shows line prefix) old new ms = next_text st (Shows line prefix) old new ms
  command_text st (Settles line passes) old new ms = next_text st (Settles line passes) old new ms
  command_text st (AsksStatus line) old new ms = Some (status_lines new new.design, ms)
  command_text st (Quits line) old new ms = Some (codes "ok quit\n", ms)

  abbrev pub asked_text : Settings → Result Asked TextFault → (old new : World) → List (Moment D State R O) → Option (List ℕ × List (Moment D State R O))
  asked_text st (Ok asked) old new ms = command_text st asked old new ms
  asked_text st (Err fault) old new ms = Some ([], ms)

  -- a refused command has no entry
  abbrev pub answer_text : Settings → Result Asked TextFault → World → Result World Refused → List (Moment D State R O)
      → Option (List ℕ × List (Moment D State R O))
  answer_text st asked old (Ok new) ms = asked_text st asked old new ms
  answer_text st asked old (Err refused) ms = Some (refusal_text refused, ms)

  -- the lines that answer a command, and the entries that are left
  abbrev pub reply : Settings → Told → World → List (Moment D State R O) → Option (List ℕ × List (Moment D State R O))
  reply st t w ms = answer_text st t.asked w (verdict_on st t w) ms

  abbrev pub text_then : Option (List ℕ × List (Moment D State R O)) → (List (Moment D State R O) → List ℕ) → List ℕ
  text_then None more = []
  text_then (Some r) more = r.0 ++ more r.1

  -- the lines that answer some commands; they stop at the first whose entry isn't there
  abbrev pub lines : Settings → List Told → World → List (Moment D State R O) → List ℕ
  lines st [] w ms = []
  lines st (t ∷ ts) w ms = text_then (reply st t w ms) (λ (rest : List (Moment D State R O)). lines st ts (after st t w) rest)

-- ---- what was told

abbrev pub asked_of : List Told → List (Result Asked TextFault)
asked_of told = map (λ (t : Told). t.asked) told

abbrev pub answers_to_command : Asked → List LoadAnswer → List ShelfAnswer
answers_to_command (Edits block) loads = shelf_answers block.loads loads
answers_to_command (Sets line values) loads = []
answers_to_command (Runs line n) loads = []
answers_to_command (Shows line prefix) loads = []
answers_to_command (Settles line passes) loads = []
answers_to_command (AsksStatus line) loads = []
answers_to_command (Quits line) loads = []

abbrev pub answers_to : Result Asked TextFault → List LoadAnswer → List ShelfAnswer
answers_to (Ok asked) loads = answers_to_command asked loads
answers_to (Err fault) loads = []

-- what a shelf answered to the loads of all these, each under the name of its file
abbrev pub answers_of : List Told → List ShelfAnswer
answers_of told = flat_map (λ (t : Told). answers_to t.asked t.loads) told
