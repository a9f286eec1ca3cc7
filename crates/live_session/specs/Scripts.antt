-- Which entries of a history are those of commands.
use Rattle.std.specs.List.{All}
use Rattle.std.specs.Prelude.{◌≡◌, ◌<◌, ◌==◌, ◌+◌, ⊤, ℕ, if◌then◌else◌, List, [], ◌∷◌, ◌++◌, length, map, replicate, Option, Some, None, Result, Ok, Err}
use Rattle.ls_text.specs.Readings.{TextFault}
use Rattle.ls_text.specs.Texts.{HasEachOnce}
use Rattle.book_history.specs.Book.{Opens, Runs as RunsEvent, Reloads, Shows as ShowsEvent}
use Rattle.book_history.specs.Outline.{Outline, outline_in}
use Rattle.segment_verify.specs.Passes.{IsSettle}
use Rattle.command_read.specs.Asking.{Asked, Block, LineOperation, Edits, Sets, Runs, Shows, Settles, AsksStatus, Quits}
use Rattle.cycle_eval.specs.Designs.{design_flat}
use Rattle.cycle_eval.specs.declared.design.Design.{Design}
use Rattle.reg_ops.specs.Operations.{HasNames, operation}
use Rattle.typed_ir.specs.Cycles.{Signal}
use Rattle.module_registry.specs.Keys.{KeyData}
use Rattle.version_swap.specs.Behind.{design_of}
use Rattle.live_session.specs.Judging.{verdict_on, after}
use Rattle.live_session.specs.Logs.{InputRow, LogEvent, LogMoment, Ops}
use Rattle.live_session.specs.Rows.{Row, row_of}
use Rattle.live_session.specs.Settings.{Settings}
use Rattle.live_session.specs.Spelled.{Spelled, spelled}
use Rattle.live_session.specs.Verdicts.{Told, chosen, passes_of}
use Rattle.live_session.specs.Worlds.{World, Refused}

-- the names of a signal are among so many
abbrev pub IsNamedIn : (count : ℕ) → Signal → Type 0
IsNamedIn count x = (x.in_module < count) × All (λ (n : ℕ). n < count) x.path

-- a design of a world, by a table of names
pub record IsDesign (names : List (List ℕ)) (design : Option Spelled) (machine : Design) : Type 0 where
  pub keys : List KeyData
  pub is : design ≡ Some (spelled names (design_of machine keys))
  pub within : All (IsNamedIn (length names)) (design_flat machine).signals

-- rows of a world, by a table of names
pub record AreRows (names : List (List ℕ)) (record_ : List Row) (rows : List InputRow) : Type 0 where
  pub are : map (row_of names) rows ≡ record_
  pub within : All (All (λ (p : ℕ × ℕ). p.0 < length names)) rows

-- the operations of a block, by a table of names
pub record AreOperations (names : List (List ℕ)) (lines : List LineOperation) (ops : Ops) : Type 0 where
  pub are : map (operation names) ops ≡ map (λ (o : LineOperation). o.op) lines
  pub within : All (HasNames (length names)) ops

-- the first edit opens the book, and a later one has its operations
abbrev pub IsEdit : (names : List (List ℕ)) → Settings → (old new : World) → Block → List LogEvent → Type 0
IsEdit names st old new block es =
    (machine : Design) × IsDesign names new.design machine
    × (ops : Ops) × AreOperations names block.ops ops × (es ≡ (if old.version == 0 then Opens 1 machine else Reloads (old.version + 1) machine ops (chosen st old)) ∷ [])

-- the session's own entries of an accepted command that leads from the one world to the other
abbrev pub IsAccepted : (names : List (List ℕ)) → Settings → (old new : World) → List LogEvent → Asked → Type 0
IsAccepted names st old new es (Edits block) = IsEdit names st old new block es
IsAccepted names st old new es (Sets line values) = es ≡ []
IsAccepted names st old new es (Runs line n) = (rows : List InputRow) × AreRows names (replicate n old.row) rows × (es ≡ RunsEvent n rows ∷ [])
IsAccepted names st old new es (Shows line prefix) = (answer : Option ℕ) × (es ≡ ShowsEvent answer ∷ [])
IsAccepted names st old new es (Settles line passes) = IsSettle (passes_of old passes) (length old.grid) es
IsAccepted names st old new es (AsksStatus line) = es ≡ []
IsAccepted names st old new es (Quits line) = es ≡ []

-- a refused command has none
abbrev pub IsJudged : (names : List (List ℕ)) → Settings → Result Asked TextFault → World → List LogEvent → Result World Refused → Type 0
IsJudged names st (Ok asked) old es (Ok new) = IsAccepted names st old new es asked
IsJudged names st (Err fault) old es (Ok new) = es ≡ []
IsJudged names st asked old es (Err refused) = es ≡ []

-- ---- the book at the place of a command's own entry

-- a book without a version beside a world without a design, or the world's design
abbrev pub IsCurrent : (names : List (List ℕ)) → Option Spelled → Option Design → Type 0
IsCurrent names None None = ⊤
IsCurrent names None (Some machine) = ⊥
IsCurrent names (Some design) None = ⊥
IsCurrent names (Some design) (Some machine) = IsDesign names (Some design) machine

-- by a table of names it has the version, the design, the record and the cycles of the marks of the world
pub record Agrees (names : List (List ℕ)) (w : World) (o : Outline Design InputRow) : Type 0 where
  pub version : o.version ≡ w.version
  pub machine : IsCurrent names w.design o.machine
  pub rows : AreRows names w.record_ o.rows
  pub marks : o.marks ≡ w.grid

-- the world at the place of a command that has an entry of its own
abbrev pub entry_worlds : World → Asked → List World
entry_worlds w (Edits block) = w ∷ []
entry_worlds w (Sets line values) = []
entry_worlds w (Runs line n) = w ∷ []
entry_worlds w (Shows line prefix) = w ∷ []
entry_worlds w (Settles line passes) = w ∷ []
entry_worlds w (AsksStatus line) = []
entry_worlds w (Quits line) = []

-- where it is accepted
abbrev pub judged_worlds : World → Result Asked TextFault → Result World Refused → List World
judged_worlds w (Ok asked) (Ok new) = entry_worlds w asked
judged_worlds w (Err fault) (Ok new) = []
judged_worlds w asked (Err refused) = []

-- one by one, the book at an entry is as the world
abbrev pub AllAgree : (names : List (List ℕ)) → List World → List LogMoment → Type 0
AllAgree names [] [] = ⊤
AllAgree names [] (m ∷ ms) = ⊥
AllAgree names (w ∷ ws) [] = ⊥
AllAgree names (w ∷ ws) (m ∷ ms) = Agrees names w (outline_in m.book) × AllAgree names ws ms

-- ---- commands

-- the session's own entries of a command, and the book at the one that the command has of its own, in one table of names in which each text stands once
pub record IsPart (st : Settings) (asked : Result Asked TextFault) (old : World) (es : List LogEvent) (ms : List LogMoment) (v : Result World Refused)
    : Type 0 where
  pub names : List (List ℕ)
  pub once : HasEachOnce names
  pub is : IsJudged names st asked old es v
  pub agree : AllAgree names (judged_worlds old asked v) ms

-- the entries of these commands, one after another, and the book at each
abbrev pub IsScript : Settings → List Told → World → List LogEvent → List LogMoment → Type 0
IsScript st [] w es ms = (es ≡ []) × (ms ≡ [])
IsScript st (t ∷ ts) w es ms =
    (own : List LogEvent) × (rest : List LogEvent) × (here : List LogMoment) × (there : List LogMoment) × (es ≡ own ++ rest) × (ms ≡ here ++ there)
    × IsPart st t.asked w own here (verdict_on st t w) × IsScript st ts (after st t w) rest there
