-- What the files of a session come to, whatever the table of names is, and which answers of the outside are right. The grammar is a relation, so these are.
use Rattle.std.specs.Prelude.{◌≡◌, ◌<◌, ◌+◌, ⊤, ℕ, nat_lt, List, [], ◌∷◌, map, length, Option, Some, None, Result, Ok, Err}
use Rattle.std.specs.Bool.{MatchBool}
use Rattle.ls_text.specs.declared.name_id.NameId.{NameId}
use Rattle.ls_text.specs.declared.source_file.SourceFile.{SourceFile}
use Rattle.ls_text.specs.Readings.{TextFault}
use Rattle.ls_text.specs.Texts.{text_at, HasEachOnce}
use Rattle.command_read.specs.Asking.{Block, Asked, Edits, Sets, Runs, Shows, Settles, AsksStatus, Quits}
use Rattle.version_swap.specs.Plans.{DesignOfTexts, Plans}
use Rattle.live_session.specs.Files.{TextFile, text_file}
use Rattle.live_session.specs.Judging.{after}
use Rattle.live_session.specs.Loads.{LoadAnswer, AreAnswers, loaded_files}
use Rattle.live_session.specs.Settings.{Settings}
use Rattle.live_session.specs.Spelled.{Answer, spelled_answer}
use Rattle.live_session.specs.Verdicts.{Told, files_after, top_after, clock_after}
use Rattle.live_session.specs.Worlds.{World}

-- the number is that of a name with this text
abbrev pub HasText : List (List ℕ) → NameId → List ℕ → Type 0
HasText names id text = (id.0 < length names) × (text_at names id.0 ≡ text)

-- no name, or one with this text
abbrev pub HasMaybe : List (List ℕ) → Option NameId → Option (List ℕ) → Type 0
HasMaybe names None None = ⊤
HasMaybe names None (Some text) = ⊥
HasMaybe names (Some id) None = ⊥
HasMaybe names (Some id) (Some text) = HasText names id text

-- files with this top and this clock come to a design or to their first fault
pub record FilesRead (files : List TextFile) (top : Option (List ℕ)) (clock : List ℕ) (answer : Answer) : Type 0 where
  -- a table in which each text stands once, and the files, the top and the clock by it
  pub names : List (List ℕ)
  pub once : HasEachOnce names
  pub sources : List SourceFile
  pub are : map (text_file names) sources ≡ files
  pub top_id : Option NameId
  pub top_is : HasMaybe names top_id top
  pub clock_id : NameId
  pub clock_is : HasText names clock_id clock
  -- what they come to
  pub read : Result DesignOfTexts TextFault
  pub plans : Plans names sources top_id clock_id read
  pub same : answer ≡ spelled_answer names read

-- ---- right answers

-- the answer to files is looked at where all loads gave a text
pub record IsRightEdit (w : World) (block : Block) (loads : List LoadAnswer) (answer : Answer) : Type 0 where
  pub loaded : AreAnswers block.loads loads
  pub read : (files : List TextFile) → loaded_files block.loads loads ≡ Ok files
      → FilesRead (files_after w block files) (top_after w block) (clock_after w block) answer

-- nothing is loaded where the room is full
abbrev pub IsRightBlock : Settings → World → Block → List LoadAnswer → Answer → Type 0
IsRightBlock st w block loads answer =
    MatchBool (nat_lt st.room (w.charge + 1)) (loads ≡ []) (IsRightEdit w block loads answer)

abbrev pub IsRightCommand : Settings → World → Asked → List LoadAnswer → Answer → Type 0
IsRightCommand st w (Edits block) loads answer = IsRightBlock st w block loads answer
IsRightCommand st w (Sets line values) loads answer = loads ≡ []
IsRightCommand st w (Runs line n) loads answer = loads ≡ []
IsRightCommand st w (Shows line prefix) loads answer = loads ≡ []
IsRightCommand st w (Settles line passes) loads answer = loads ≡ []
IsRightCommand st w (AsksStatus line) loads answer = loads ≡ []
IsRightCommand st w (Quits line) loads answer = loads ≡ []

abbrev pub IsRightAsked : Settings → World → Result Asked TextFault → List LoadAnswer → Answer → Type 0
IsRightAsked st w (Ok asked) loads answer = IsRightCommand st w asked loads answer
IsRightAsked st w (Err fault) loads answer = loads ≡ []

-- what is told of a command is right: the shelf answered the loads that are reached and no other, and the files come to that
abbrev pub IsRight : Settings → World → Told → Type 0
IsRight st w t = IsRightAsked st w t.asked t.loads t.answer

-- and so of commands one after another
abbrev pub AreRight : Settings → World → List Told → Type 0
AreRight st w [] = ⊤
AreRight st w (t ∷ ts) = IsRight st w t × AreRight st (after st t w) ts
