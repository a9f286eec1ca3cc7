-- What the loads of a block come to in the code.
use Rattle.std.specs.Prelude.{◌≡◌, ◌≤◌, ◌<◌, ℕ, List, [], map, length, Result, Ok, Err}
use Rattle.std.specs.List.{All, list_any}
use Rattle.std.specs.declared.option.Option.{Option}
use Rattle.ls_text.specs.Readings.{fault_view}
use Rattle.ls_text.specs.declared.name_id.NameId.{NameId}
use Rattle.ls_text.specs.declared.source_file.SourceFile.{SourceFile}
use Rattle.ls_port.specs.declared.shelf_answer.ShelfAnswer.{ShelfAnswer}
use Rattle.command_read.specs.Asking.{LoadedFile}
use Rattle.command_read.specs.Spoken.{loaded_file}
use Rattle.command_read.specs.declared.load_line.LoadLine.{LoadLine}
use Rattle.live_session.specs.Files.{TextFile, text_file}
use Rattle.live_session.specs.Loads.{LoadAnswer, AddsAnswers, AreAnswers, AreToFirst, HasFailed, is_broken, loaded_files, shelf_answers}
use Rattle.live_session.specs.Worlds.{Refused, refused_text}
use Rattle.live_session.specs.declared.loads.Loads.{Loads}
use Rattle.live_session.specs.declared.loads.Loads.TheVariants as loads

abbrev pub result_of : (names : List (List ℕ)) → Loads → Result (List TextFile) Refused
result_of names (loads.Given files) = Ok (map (text_file names) files.items)
result_of names (loads.Refused fault) = Err (refused_text [] 0 (fault_view names fault))

-- a text of a length that files have for each load, or a fault, with names that are among so many
abbrev pub AreUsable : (count : ℕ) → List LoadLine → Loads → Type 0
AreUsable count lines (loads.Given files) =
    All (λ (f : SourceFile). f.name.0 < count) files.items
    × All (λ (f : SourceFile). length f.text ≤ 4194304) files.items
    × (length files.items ≡ length lines)
AreUsable count lines (loads.Refused fault) = All (λ (id : NameId). id.0 < count) fault.names

-- for some answers of the shelf, which it has added to those that it tells
pub record ComesTo (names : List (List ℕ)) (lines : List LoadLine) (before behind : Option (List ShelfAnswer)) (faults count : ℕ) (l : Loads) : Type 0 where
  pub answers : List LoadAnswer
  pub right : AreAnswers (map (loaded_file names) lines) answers
  pub adds : AddsAnswers before behind (shelf_answers (map (loaded_file names) lines) answers)
  pub cause : HasFailed (list_any is_broken answers) faults count
  pub comes : loaded_files (map (loaded_file names) lines) answers ≡ result_of names l
  pub usable : AreUsable (length names) lines l

-- loads that came to nothing: the answers grow by some to the first of them
pub record Loses (lines : List LoadedFile) (before behind : Option (List ShelfAnswer)) : Type 0 where
  pub more : List ShelfAnswer
  pub adds : AddsAnswers before behind more
  pub first : AreToFirst lines more
