-- What a shelf answers to the loads of a block.
use Rattle.std.specs.Prelude.{◌≡◌, ◌≤◌, ⊤, ℕ, Bool, true, false, nat_lt, if◌then◌else◌, List, [], ◌∷◌, ◌++◌, length, Result, Ok, Err}
use Rattle.std.specs.Bool.{MatchBool}
use Rattle.std.specs.declared.option.Option.{Option}
use Rattle.std.specs.declared.option.Option.TheVariants.{Some, None}
use Rattle.ls_port.specs.declared.shelf_answer.ShelfAnswer.{ShelfAnswer}
use Rattle.ls_port.specs.declared.shelf_answer.ShelfAnswer.TheVariants as shelf
use Rattle.ls_port.specs.Causes.{Rose}
use Rattle.command_read.specs.Asking.{LoadedFile, Asked, Edits, Sets, Runs, Shows, Settles, AsksStatus, Quits}
use Rattle.live_session.specs.Files.{TextFile}
use Rattle.live_session.specs.Sessions.{limits_of, world}
use Rattle.live_session.specs.Worlds.{Refused, refused_at}
use Rattle.live_session.specs.declared.session.Session.{Session}

pub data LoadAnswer : Type 0 where
  Gave : (text : List ℕ) → LoadAnswer
  Broke : LoadAnswer

-- a load is reached where each one before it gave a text of at most 4,194,304 bytes; these are the answers to those that are, and no more
abbrev pub AreAnswers : List LoadedFile → List LoadAnswer → Type 0
AreAnswers [] answers = answers ≡ []
AreAnswers (load ∷ loads) [] = ⊥
AreAnswers (load ∷ loads) (Broke ∷ answers) = answers ≡ []
AreAnswers (load ∷ loads) (Gave text ∷ answers) = MatchBool (nat_lt 4194304 (length text)) (answers ≡ []) (AreAnswers loads answers)

abbrev pub file_then : TextFile → Result (List TextFile) Refused → Result (List TextFile) Refused
file_then file (Ok files) = Ok (file ∷ files)
file_then file (Err refused) = Err refused

-- the files that are loaded; 67 where the shelf failed and 10 where a text is longer, with the file, at the line of the load
abbrev pub loaded_files : List LoadedFile → List LoadAnswer → Result (List TextFile) Refused
loaded_files [] answers = Ok []
loaded_files (load ∷ loads) [] = Ok []
loaded_files (load ∷ loads) (Broke ∷ answers) = Err (refused_at 67 load.line (load.name ∷ []))
loaded_files (load ∷ loads) (Gave text ∷ answers) =
    if nat_lt 4194304 (length text) then Err (refused_at 10 load.line (load.name ∷ []))
    else file_then (record { name = load.name; text = text }) (loaded_files loads answers)

-- the same answers as a shelf lists them
abbrev pub shelf_answer : LoadedFile → LoadAnswer → ShelfAnswer
shelf_answer load (Gave text) = shelf.Given load.name text
shelf_answer load Broke = shelf.Failed load.name

abbrev pub shelf_answers : List LoadedFile → List LoadAnswer → List ShelfAnswer
shelf_answers [] answers = []
shelf_answers (load ∷ loads) [] = []
shelf_answers (load ∷ loads) (answer ∷ answers) = shelf_answer load answer ∷ shelf_answers loads answers

-- whether the shelf failed at one of them
abbrev pub is_broken : LoadAnswer → Bool
is_broken (Gave text) = false
is_broken Broke = true

-- the count of faults has risen by one where the shelf failed, and else it is as before
abbrev pub HasFailed : (failed : Bool) → (before behind : ℕ) → Type 0
HasFailed failed before behind = MatchBool failed (Rose before behind) (behind ≡ before)

-- the answers of a shelf that tells them grow by these
abbrev pub AddsAnswers : Option (List ShelfAnswer) → Option (List ShelfAnswer) → List ShelfAnswer → Type 0
AddsAnswers None new more = ⊤
AddsAnswers (Some xs) None more = ⊥
AddsAnswers (Some xs) (Some ys) more = ys ≡ xs ++ more

abbrev pub name_in : ShelfAnswer → List ℕ
name_in (shelf.Given name text) = name
name_in (shelf.Failed name) = name

-- these are answers to the first of the loads, each under the name of its file, and none comes behind one that wasn't a text of at most 4,194,304 bytes
abbrev pub AreToFirst : List LoadedFile → List ShelfAnswer → Type 0
AreToFirst loads [] = ⊤
AreToFirst [] (a ∷ answers) = ⊥
AreToFirst (load ∷ loads) (shelf.Given name text ∷ answers) =
    (name ≡ load.name) × MatchBool (nat_lt 4194304 (length text)) (answers ≡ []) (AreToFirst loads answers)
AreToFirst (load ∷ loads) (shelf.Failed name ∷ answers) = (name ≡ load.name) × (answers ≡ [])

abbrev pub loads_of : Asked → List LoadedFile
loads_of (Edits block) = block.loads
loads_of (Sets line values) = []
loads_of (Runs line n) = []
loads_of (Shows line prefix) = []
loads_of (Settles line passes) = []
loads_of (AsksStatus line) = []
loads_of (Quits line) = []

-- A command that has no reply in this session: the answers of a shelf that tells them grow by some to the first of its loads, and by none where the
-- session's room is full, since no load is reached then.
pub record LosesAnswers (s : Session) (asked : Asked) (before behind : Option (List ShelfAnswer)) : Type 0 where
  pub more : List ShelfAnswer
  pub adds : AddsAnswers before behind more
  pub first : AreToFirst (loads_of asked) more
  pub reached : (grid : List ℕ) → (limits_of s).rooms.session ≤ (world s grid).charge → more ≡ []
