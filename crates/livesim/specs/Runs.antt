-- A whole run: what it took, what it asked of the shelf, what it wrote, and its status.
use Rattle.std.specs.Prelude.{◌≡◌, ◌≢◌, ◌⊎◌, ◌<◌, ◌≤◌, ◌^◌, ◌+◌, ◌-◌, min, ℕ, zero, suc, Bool, true, false, List, [], ◌∷◌, length, ◌++◌, Result, Ok, Err, if◌then◌else◌}
use Rattle.std.specs.List.{list_any}
use Rattle.std.specs.declared.option.Option.{Option}
use Rattle.std.specs.declared.option.Option.TheVariants.{Some, None}
use Rattle.std.specs.Io.KnownBytes.{Consumes, Appends, IsAtEnd}
use Rattle.ls_text.specs.Readings.{TextFault}
use Rattle.ls_port.specs.declared.shelf_answer.ShelfAnswer.{ShelfAnswer}
use Rattle.wave_report.specs.Replies.{show_text}
use Rattle.command_read.specs.Asking.{Asked, Settles, Shows, LoadedFile}
use Rattle.command_read.specs.Runs.{Continues}
use Rattle.command_read.specs.Scripts.{asks, commands, is_quit}
use Rattle.live_session.specs.Judging.{after, world_after, any_refused}
use Rattle.live_session.specs.Loads.{AddsAnswers, AreToFirst, is_broken, loads_of}
use Rattle.live_session.specs.Readings.{AreRight}
use Rattle.book_history.specs.Book.{Closes}
use Rattle.book_history.specs.Owned.{owned}
use Rattle.segment_verify.specs.Passes.{IsUnfinished}
use Rattle.live_session.specs.Logs.{IsLegal, Log, LogEvent, LogMoment, moments_of}
use Rattle.live_session.specs.Replies.{lines, reply, asked_of, answers_of}
use Rattle.live_session.specs.Scripts.{IsScript}
use Rattle.live_session.specs.Shown.{answer_of}
use Rattle.live_session.specs.Tables.{table_lines, true_registers}
use Rattle.live_session.specs.Settings.{Settings}
use Rattle.live_session.specs.Spelled.{Spelled}
use Rattle.live_session.specs.Verdicts.{Told, passes_of, settle_verdict}
use Rattle.live_session.specs.Worlds.{World, fresh, cycle}
use Rattle.livesim.specs.Writing.{Writes}

-- at least that was written
abbrev pub WritesAtLeast : Option (List ℕ) → Option (List ℕ) → List ℕ → Type 0
WritesAtLeast old new front = (more : List ℕ) × Appends old new (front ++ more)

-- whether the last of these is `quit`
abbrev pub end_with_quit : List (Result Asked TextFault) → Bool
end_with_quit [] = false
end_with_quit (x ∷ []) = is_quit x
end_with_quit (x ∷ y ∷ xs) = end_with_quit (y ∷ xs)

-- Of these bytes those of the last read, at most 65,536, are behind others that ask for fewer commands than so many.
abbrev pub AreSoon : (count : ℕ) → (bytes : List ℕ) → Type 0
AreSoon count bytes =
    (early : List ℕ) × (last : List ℕ) × (bytes ≡ early ++ last) × (length last ≤ 65536) × (length (asks false 1 early) < count)

-- at how many of these the shelf failed
abbrev pub count_broken : List Told → ℕ
count_broken [] = 0
count_broken (t ∷ ts) = (if list_any is_broken t.loads then 1 else 0) + count_broken ts

-- the count of faults has risen by so many, or stands at its last value
abbrev pub RisesBy : (count before behind : ℕ) → Type 0
RisesBy zero before behind = behind ≡ before
RisesBy (suc n) before behind = behind ≡ min (before + suc n) (2 ^ 64 - 1)

-- the loads of the first of these, where that is an edit
abbrev pub loads_first : List (Result Asked TextFault) → List LoadedFile
loads_first [] = []
loads_first (Ok asked ∷ rest) = loads_of asked
loads_first (Err fault ∷ rest) = []

-- the commands' own entries that are left behind some commands
abbrev pub left_then : Option (List ℕ × List LogMoment) → List LogMoment
left_then None = []
left_then (Some r) = r.1

abbrev pub entries_left : Settings → List Told → World → List LogMoment → List LogMoment
entries_left st [] w ms = ms
entries_left st (t ∷ ts) w ms = entries_left st ts (after st t w) (left_then (reply st t w ms))

-- the lines that tell the truth of a design at a world's cycle: the registers of a run from reset on the record, and that they are settled
abbrev pub true_display : World → (prefix : List ℕ) → Spelled → List ℕ
true_display w prefix design =
    show_text (cycle w) w.version ++ table_lines design prefix design.flat.registers (true_registers design w.record_ (cycle w))

-- ---- the history

-- it has the settings of the options, and the rooms of the program
abbrev pub HasSettings : Settings → Log → Type 0
HasSettings st j =
    (j.settings.interval ≡ st.interval) × (j.settings.lookback ≡ st.lookback) × (j.settings.rooms.session ≡ st.room) × (j.settings.rooms.workers ≡ 3145728)

-- The next of these commands is a settle, which is accepted in that world; and it has more passes to make than so many.
pub record IsCut (st : Settings) (w : World) (made : ℕ) (asked : List (Result Asked TextFault)) : Type 0 where
  pub line : ℕ
  pub passes : Option ℕ
  pub later : List (Result Asked TextFault)
  pub settles : asked ≡ Ok (Settles line passes) ∷ later
  pub behind : World
  pub accepted : settle_verdict st w line passes w.design ≡ Ok behind
  pub few : made < min (passes_of w passes) (length w.grid)

-- The session's own entries are those of these commands, with the book at each, and then the close. Where memory ran out in a settle behind them, the
-- first passes of this may stand before the close, the last perhaps given up, without its show; or there is no entry, and then nothing was told.
pub data HasEntries (st : Settings) (told : List Told) (rest : List (Result Asked TextFault)) (status : ℕ) (own : List LogEvent)
    (moments : List LogMoment) : Type 0 where
  all_entries : (entries : List LogEvent) → own ≡ entries ++ Closes ∷ [] → IsScript st told fresh entries moments
      → HasEntries st told rest status own moments
  unfinished_settle : (entries passes : List LogEvent) → status ≡ 5 → own ≡ entries ++ (passes ++ Closes ∷ [])
      → IsScript st told fresh entries moments → (unfinished : IsUnfinished passes) → IsCut st (world_after st told fresh) unfinished.count rest
      → HasEntries st told rest status own moments
  no_entries : status ≡ 5 → own ≡ [] → told ≡ [] → HasEntries st told rest status own moments

-- The script of these bytes was carried out, and the input ends with them or not. The lines of its commands were written, but at 4 and 5 perhaps only a
-- front of these; and this is the history of the book.
pub record HasRun (st : Settings) (written_old written_new : Option (List ℕ)) (answers_old answers_new : Option (List ShelfAnswer))
    (faults_old faults_new : ℕ) (bytes : List ℕ) (ended : Bool) (status : ℕ) (history : Log) : Type 0 where
  -- commands from the first on, each with what the shelf answered and its files come to
  pub told : List Told
  pub right : AreRight st fresh told
  -- they are all commands of these bytes, but at 4 and 5 perhaps only the first ones
  pub all : status ≢ 4 → status ≢ 5 → asked_of told ≡ commands bytes ended
  pub begins : (rest : List (Result Asked TextFault)) × (commands bytes ended ≡ asked_of told ++ rest)
  -- and begin those that these bytes have where the input ends with them: so at 4 and 5 it is one whether or not the source has anything left
  pub begins_all : Continues (asked_of told) (commands bytes true)
  -- at 0 and 1 the input was read to its end or to `quit`, and 1 says that a command was refused
  pub whole : (status ≡ 0) ⊎ (status ≡ 1) → (ended ≡ true) ⊎ (end_with_quit (commands bytes ended) ≡ true)
  pub judged : (status ≡ 0) ⊎ (status ≡ 1) → status ≡ (if any_refused st told fresh then 1 else 0)
  -- at 3 and 6 it wasn't
  pub cut : (status ≡ 3) ⊎ (status ≡ 6) → ended ≡ false
  -- what the shelf answered: to each load that is reached, in their order; where memory ran out also to the first loads of the next command, but to none
  -- where the session's room is full, since none is reached then
  pub lost : List ShelfAnswer
  pub answered : AddsAnswers answers_old answers_new (answers_of told ++ lost)
  pub none_lost : status ≢ 5 → lost ≡ []
  pub lost_first : AreToFirst (loads_first begins.0) lost
  pub none_reached : st.room ≤ (world_after st told fresh).charge → lost ≡ []
  -- its count has risen by as many as there are commands at which it failed; where memory ran out perhaps by one more
  pub failed : RisesBy (count_broken told) faults_old faults_new ⊎ ((status ≡ 5) × RisesBy (count_broken told + 1) faults_old faults_new)
  -- what was written: the lines of these commands at their places in the history; at 4 and 5 a front of them, with at least those of all but the last command
  pub written : status ≢ 4 → status ≢ 5 → Appends written_old written_new (lines st told fresh (moments_of history))
  pub front : Writes written_old written_new (lines st told fresh (moments_of history))
  pub most : (before : List Told) (last : Told) → before ++ last ∷ [] ≡ told
      → WritesAtLeast written_old written_new (lines st before fresh (moments_of history))
  -- it has the settings of these options; but where memory ran out as the words were read it has no entry, and they aren't known
  pub settings : HasSettings st history ⊎ ((status ≡ 5) × (history.events ≡ []))
  -- the history is legal, and its entries are those of these commands: so a refused command has none, and a settle with a pass for each link answers
  -- settled
  pub legal : IsLegal history
  -- at the place of each command's own entry the book has the version, the design, the record and the marks of the world
  pub entries : HasEntries st told begins.0 status (owned history.events) (moments_of history)
  -- a display whose entry says that all is settled tells the truth of the world's design on its record
  pub settled : (before rest : List Told) (line : ℕ) (prefix : List ℕ) (t : Told) (design : Spelled) (m : LogMoment) (ms : List LogMoment)
      → before ++ t ∷ rest ≡ told → t.asked ≡ Ok (Shows line prefix) → (world_after st before fresh).design ≡ Some design
      → (world_after st before fresh).charge < st.room → entries_left st before fresh (moments_of history) ≡ m ∷ ms → answer_of m.entry ≡ None
      → lines st told fresh (moments_of history)
      ≡ lines st before fresh (moments_of history)
      ++ (true_display (world_after st before fresh) prefix design ++ lines st rest (after st t (world_after st before fresh)) ms)
  -- 6 comes exactly where too much was taken
  pub too_much : status ≡ 6 → 67108864 < length bytes
  pub not_too_much : 67108864 < length bytes → status ≡ 6

-- These bytes were taken, and the input ended with them or not; and their script was carried out.
pub record Lived (st : Settings) (left_old left_new written_old written_new : Option (List ℕ)) (answers_old answers_new : Option (List ShelfAnswer))
    (faults_old faults_new : ℕ) (bytes : List ℕ) (ended : Bool) (status : ℕ) (history : Log) : Type 0 where
  -- what the source had left is the bytes taken, and then what it has left now
  pub consumed : Consumes left_old left_new bytes
  pub at_end : ended ≡ true → IsAtEnd left_new
  pub ran : HasRun st written_old written_new answers_old answers_new faults_old faults_new bytes ended status history
  -- at 4, and where the script quit: once the last command that is told was complete, nothing more was read
  pub soon : (status ≡ 4) ⊎ (end_with_quit (asked_of ran.told) ≡ true) → AreSoon (length ran.told) bytes

-- at status 0, 1 or 5, where nothing outside failed and the script isn't too long
abbrev pub IsComplete : ℕ → Type 0
IsComplete status = (status ≡ 0) ⊎ ((status ≡ 1) ⊎ (status ≡ 5))
