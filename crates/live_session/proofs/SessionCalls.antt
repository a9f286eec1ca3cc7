-- Calls of a session by those of the design that it runs, and a command by its call.
use Rattle.std.proofs.Common.{◌≡◌, ◌∙◌, ◌+◌, ◌*◌, ◌≤◌, ◌<◌, ℕ, Bool, List, [], map, Result, Ok, Err, refl, sym, ap, ap₂, subst, true, arith}
use Rattle.std.specs.Prelude.{IfOk, IfSome, OnErr, Option, Some, None}
use Rattle.book_history.specs.Book.{Settings as BookSettings}
use Rattle.ls_text.specs.Texts.{HasEachOnce}
use Rattle.ls_port.specs.declared.shelf_answer.ShelfAnswer.{ShelfAnswer}
use Rattle.command_read.specs.Asking.{Asked, AsksStatus, Block, Edits, Quits}
use Rattle.command_read.specs.Scripts.{is_quit}
use Rattle.command_read.specs.Spoken.{edited, loaded_file}
use Rattle.command_read.specs.declared.edit.Edit.{Edit}
use Rattle.command_read.specs.declared.load_line.LoadLine.{LoadLine}
use Rattle.cycle_eval.specs.Designs.{work_of}
use Rattle.module_registry.specs.Entries.{Entry}
use Rattle.module_registry.specs.Views.{entries_of}
use Rattle.wave_report.specs.Replies.{status_text}
use Rattle.live_session.specs.Begins.{Begins, IsBegun, IsRefused}
use Rattle.live_session.specs.Beside.{Stands, StandsBeside, settings_by, settings_in, world_in}
use Rattle.live_session.specs.Done.{told}
use Rattle.live_session.specs.Files.{TextFile}
use Rattle.live_session.specs.Judging.{verdict_on}
use Rattle.live_session.specs.Kept.{IsKept}
use Rattle.live_session.specs.Loaded.{Loses}
use Rattle.live_session.specs.Loads.{AreToFirst, LosesAnswers}
use Rattle.live_session.specs.Logs.{Log, LogEvent, LogMoment, marks_of}
use Rattle.live_session.specs.Sessions.{limits_of, running_work, running_world, world, world_of}
use Rattle.live_session.specs.Settings.{Settings}
use Rattle.live_session.specs.Statuses.{status_lines}
use Rattle.live_session.specs.Steps.{StepsTo, StopsInTurn}
use Rattle.live_session.specs.Taken.{LosesBlock, TakesBlock, none_taken}
use Rattle.live_session.specs.Turns.{Accepts, Answers, AnswersFrom, AnswersIn, Refuses, StopsFrom, no_answer, undone_at}
use Rattle.live_session.specs.Worlds.{World, Refused, fresh, refused_at}
use Rattle.live_session.specs.declared.begun.Begun.{Begun}
use Rattle.live_session.specs.declared.begun.Begun.TheVariants as begun
use Rattle.live_session.specs.declared.limits.Limits.{Limits}
use Rattle.live_session.specs.declared.reply.Reply.{Reply}
use Rattle.live_session.specs.declared.running.Running.{Running}
use Rattle.live_session.specs.declared.session.Session.{Session}
use Rattle.live_session.proofs.Judged.{told_done}
use Rattle.live_session.proofs.SessionSteps.{answers_for, none_twice, refuses_with, stops_before}

-- ---- what runs in a session

pub kept_there : (names : List (List ℕ)) (limits : Limits) (running : Option Running) (r : Running) → running ≡ Some r
    → IfSome running (IsKept names limits) → IsKept names limits r
kept_there names limits running r is h = subst (λ (o : Option Running). IfSome o (IsKept names limits)) is h

pub stands_there : (limits : Limits) (running : Option Running) (r : Running) (j : Log) → running ≡ Some r → Stands limits running j
    → Stands limits (Some r) j
stands_there limits running r j is h = subst (λ (o : Option Running). Stands limits o j) is h

pub charge_there : (names : List (List ℕ)) (entries : List Entry) (grid : List ℕ) (running : Option Running) (r : Running) (most : ℕ)
    → running ≡ Some r
    → (running_world names entries grid running).charge < most → r.charge < most
charge_there names entries grid running r most is h = subst (λ (o : Option Running). (running_world names entries grid o).charge < most) is h

pub counted_there : (running : Option Running) (r : Running) (cycles before behind : ℕ) → running ≡ Some r
    → behind ≤ before + cycles * work_of r.version.value.machine.value → behind ≤ before + cycles * running_work running
counted_there running r cycles before behind is h = subst (λ (o : Option Running). behind ≤ before + cycles * running_work o) (sym is) h

-- a command that no design runs for
pub none_runs : {E : Type 0} (asked : Asked) (s : Session) (j : Log) (line : ℕ) (result : Result Reply E) → s.running ≡ None
    → verdict_on (settings_in s j) (told (Ok asked) [] no_answer) fresh ≡ Err (refused_at 62 line [])
    → IfOk result (Refuses (refused_at 62 line [])) → IfOk result (Answers asked s s j j)
none_runs asked s j line result none is says =
    refuses_with asked s j (refused_at 62 line []) result
    (ap (λ (o : Option Running). verdict_on (settings_in s j) (told (Ok asked) [] no_answer)
    (running_world s.names (entries_of s.registry) (marks_of j) o))
    none ∙ is) says

-- a call that asks nothing of the book
module _ {E : Type 0} (asked : Asked) (old : Session) (j : Log) (r x : Running) (runs : old.running ≡ Some r) (beside : StandsBeside old j) where
  pub answers_beside : (result : Result Reply E)
      → IfOk result (λ reply. (i : Log) → Stands old.limits (Some r) i → AnswersIn old.names old.limits asked r x i i reply)
      → IfOk result (AnswersFrom (settings_in old j) asked (world_in old j) (world_of old.names (entries_of old.registry) (marks_of j) x) j j)
  answers_beside (Err e) h = tt
  answers_beside (Ok reply) h =
      answers_for asked old j j r x runs reply (h j (stands_there old.limits old.running r j runs beside.stands))

  pub stays_beside : (result : Result Reply E) → OnErr result (x ≡ r)
      → OnErr result (StopsFrom (settings_in old j) asked (world_in old j) (world_of old.names (entries_of old.registry) (marks_of j) x) j j)
  stays_beside (Ok reply) h = tt
  stays_beside (Err e) h =
      undone_at refl refl
      (ap (world_of old.names (entries_of old.registry) (marks_of j)) h
      ∙ ap (running_world old.names (entries_of old.registry) (marks_of j)) (sym runs))

-- `status` of what runs
pub status_on : {E : Type 0} (s : Session) (j : Log) (r : Running) → HasEachOnce s.names → s.running ≡ Some r
    → IfSome s.running (IsKept s.names s.limits)
    → StandsBeside s j → (result : Result Reply E)
    → IfOk result (λ reply. (names : List (List ℕ)) (limits : Limits) (line : ℕ) → HasEachOnce names → IsKept names limits r
    → Stands limits (Some r) j
    → AnswersIn names limits (AsksStatus line) r r j j reply)
    → IfOk result (λ reply. (line : ℕ) → Answers (AsksStatus line) s s j j reply)
status_on s j r once is kept beside (Err e) h = tt
status_on s j r once is kept beside (Ok reply) h = λ (line : ℕ).
    subst (λ (w : World). AnswersFrom (settings_in s j) (AsksStatus line) (world_in s j) w j j reply)
    (sym (ap (running_world s.names (entries_of s.registry) (marks_of j)) is))
    (answers_for (AsksStatus line) s j j r r is reply
    (h s.names s.limits line once (kept_there s.names s.limits s.running r is kept) (stands_there s.limits s.running r j is beside.stands)))

-- `status` before the first design
pub status_fresh : {E : Type 0} (s : Session) (j : Log) → s.running ≡ None → (result : Result Reply E) → IfOk result (Accepts (status_text 0 0 0 []))
    → IfOk result (λ r. (line : ℕ) → Answers (AsksStatus line) s s j j r)
status_fresh s j none (Err e) says = tt
status_fresh s j none (Ok reply) says = λ (line : ℕ).
    let w = world_in s j in
    let is : w ≡ fresh = ap (running_world s.names (entries_of s.registry) (marks_of j)) none in
    told_done (settings_in s j) (AsksStatus line) [] none_twice w w (Ok w) reply j w refl refl refl refl
    (λ (rest : List LogMoment). ap (λ (text : List ℕ). Some (text, rest)) (ap (λ (x : World). status_lines x x.design) is ∙ sym says.text))
    says.refusal

-- `status` and `quit` of one line
pub status_at : {E : Type 0} (line : ℕ) (s : Session) (j : Log) (result : Result Reply E)
    → IfOk result (λ r. (n : ℕ) → Answers (AsksStatus n) s s j j r) → IfOk result (Answers (AsksStatus line) s s j j)
status_at line s j (Err e) h = tt
status_at line s j (Ok reply) h = h line

pub quit_at : {E : Type 0} (line : ℕ) (s : Session) (j : Log) (result : Result Reply E)
    → IfOk result (λ r. (n : ℕ) (x : Session) (i : Log) → Answers (Quits n) x x i i r) → IfOk result (Answers (Quits line) s s j j)
quit_at line s j (Err e) h = tt
quit_at line s j (Ok reply) h = h line s j

-- ---- a first block

-- the loads came to nothing
pub loses_loads : (s : Session) (names : List (List ℕ)) (e : Edit) (lines : List LoadLine) (before behind : Option (List ShelfAnswer))
    → ((grid : List ℕ) → (world s grid).charge < (limits_of s).rooms.session) → lines ≡ e.loads
    → Loses (map (loaded_file names) lines) before behind → LosesAnswers s (Edits (edited names e)) before behind
loses_loads s names e lines before behind room same l = record {
  more = l.more;
  adds = l.adds;
  first = subst (λ (ls : List LoadLine). AreToFirst (map (loaded_file names) ls) l.more) same l.first;
  reached = λ grid full. absurd (omega (arith, full, room grid));
}

-- no entry is new
pub stands_none : (limits : Limits) (running : Option Running) (was is : Log) → is.settings ≡ was.settings → is.events ≡ was.events
    → Stands limits running was → Stands limits running is
stands_none limits running was is settings events h =
    subst (λ (j : Log). Stands limits running j)
    (ap₂ (λ (st : BookSettings) (es : List LogEvent). record { settings = st; events = es }) (sym settings) (sym events)) h

-- no design runs, and none does behind it
pub fresh_behind : (st : Settings) (block : Block) (given : Result (List TextFile) Refused) (old new : World) (was is : Log)
    → old ≡ fresh → new ≡ fresh → is.settings ≡ was.settings → is.events ≡ was.events → LosesBlock st block given old new was is
fresh_behind st block given old new was is before behind settings events = none_taken settings events (behind ∙ sym before)

pub fresh_refused : (names : List (List ℕ)) (limits : Limits) (block : Block) (loaded : List TextFile) (entries : List Entry) (was is : Log)
    (b : Begun)
    (reply : Reply) (old new : World) → old ≡ fresh → new ≡ fresh → b ≡ begun.Refused reply → Begins names limits block loaded entries was is b
    → TakesBlock (settings_by limits was) block (Ok loaded) old new was is reply.lines reply.refused
fresh_refused names limits block loaded entries was is b reply old new before behind same h =
    let so : IsRefused limits block loaded entries was is reply = subst (Begins names limits block loaded entries was is) same h in
    subst (λ (w : World). TakesBlock (settings_by limits was) block (Ok loaded) w new was is reply.lines reply.refused) (sym before)
    (subst (λ (w : World). TakesBlock (settings_by limits was) block (Ok loaded) fresh w was is reply.lines reply.refused) (sym behind) so.takes)

pub is_refused : (names : List (List ℕ)) (limits : Limits) (block : Block) (loaded : List TextFile) (entries : List Entry) (was is : Log) (b : Begun)
    (reply : Reply) → b ≡ begun.Refused reply → Begins names limits block loaded entries was is b → IsRefused limits block loaded entries was is reply
is_refused names limits block loaded entries was is b reply same h = subst (Begins names limits block loaded entries was is) same h

pub fresh_accepted : (names : List (List ℕ)) (limits : Limits) (block : Block) (loaded : List TextFile) (entries : List Entry) (was is : Log)
    (running : Running) (line : List ℕ) (reply : Reply) (old : World) → old ≡ fresh → IsBegun names limits block loaded entries was is running line
    → Accepts line reply
    → TakesBlock (settings_by limits was) block (Ok loaded) old (world_of names entries (marks_of is) running) was is reply.lines reply.refused
fresh_accepted names limits block loaded entries was is running line reply old before so says =
    let new = world_of names entries (marks_of is) running in
    subst (λ (w : World). TakesBlock (settings_by limits was) block (Ok loaded) w new was is reply.lines reply.refused) (sym before)
    (subst (λ (text : List ℕ). TakesBlock (settings_by limits was) block (Ok loaded) fresh new was is text reply.refused) (sym says.text)
    (subst (TakesBlock (settings_by limits was) block (Ok loaded) fresh new was is line) (sym says.refusal) so.takes))

-- ---- a command by its call

module _ {E : Type 0} (asked also : Asked) (same : also ≡ asked) (before behind : Option (List ShelfAnswer)) (result : Result Reply E) where
  module _ (faults count : ℕ) (old new : Session) (was is : Log) where
    pub steps_as : IfOk result (λ r. StepsTo true (Ok asked) before behind faults count old new was is r.lines r.refused)
        → IfOk result (λ r. StepsTo true (Ok also) before behind faults count old new was is r.lines r.refused)
    steps_as h = subst (λ (a : Asked). IfOk result (λ r. StepsTo true (Ok a) before behind faults count old new was is r.lines r.refused)) (sym same) h

    pub stops_as : OnErr result (StopsInTurn (Ok asked) before behind faults count old new was is)
        → OnErr result (StopsInTurn (Ok also) before behind faults count old new was is)
    stops_as h = subst (λ (a : Asked). OnErr result (StopsInTurn (Ok a) before behind faults count old new was is)) (sym same) h

  pub loses_as : (s : Session) → OnErr result (LosesAnswers s asked before behind) → OnErr result (LosesAnswers s also before behind)
  loses_as s h = subst (λ (a : Asked). OnErr result (LosesAnswers s a before behind)) (sym same) h

-- whether it is `quit`
pub quits_as : {E : Type 0} (asked also : Asked) (same : also ≡ asked) (quit : Bool) → is_quit (Ok asked) ≡ quit → (result : Result Reply E)
    → IfOk result (λ r. r.quit ≡ quit) → IfOk result (λ r. r.quit ≡ is_quit (Ok also))
quits_as asked also same quit is (Err e) h = tt
quits_as asked also same quit is (Ok reply) h = h ∙ sym is ∙ ap (λ (a : Asked). is_quit (Ok a)) (sym same)

-- memory ran out before a block was taken
pub block_stops : {E : Type 0} (block : Block) (s : Session) (j : Log) (before behind : Option (List ShelfAnswer)) (faults count : ℕ)
    (result : Result Reply E) → OnErr result (StopsInTurn (Ok (Edits block)) before behind faults count s s j j)
block_stops block s j before behind faults count (Ok reply) = tt
block_stops block s j before behind faults count (Err e) = stops_before block s j before behind faults count
