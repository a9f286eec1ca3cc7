-- Steps of a session by the replies of its calls.
use Rattle.std.proofs.Common.{◌≡◌, ◌∙◌, ◌≤◌, ◌<◌, ◌+◌, ◌⊎◌, ℕ, Bool, true, false, cond, ltb, List, [], ◌∷◌, map, length, Result, Ok, Err, refl, sym, ap, subst, inl, inr, true≢false, arith, append-nil}
use Rattle.std.specs.Prelude.{codes, IfOk, IfSome, OnErr, Some, None, is_err, is_some}
use Rattle.std.specs.Bool.{MatchBool}
use Rattle.std.specs.List.{All}
use Rattle.std.specs.declared.option.Option.{Option}
use Rattle.std.proofs.lemmas.Bool.{le-ltb, lt-ltb}
use Rattle.std.proofs.lemmas.List.Elements.{All-cons, All-head, All-nil, All-tail}
use Rattle.ls_port.specs.Causes.{Rose}
use Rattle.ls_port.specs.declared.shelf_answer.ShelfAnswer.{ShelfAnswer}
use Rattle.ls_text.specs.Readings.{TextFault}
use Rattle.ls_text.specs.Texts.{Grows, HasEachOnce}
use Rattle.ls_text.proofs.Options.{no_value}
use Rattle.command_read.specs.Asking.{Asked, Block, Edits, GivenFile, LoadedFile, Quits}
use Rattle.command_read.specs.Formed.{IsFormed}
use Rattle.command_read.specs.Spoken.{edited, given_file, spoken}
use Rattle.command_read.specs.declared.command.Command.{Command}
use Rattle.command_read.specs.declared.command.Command.TheVariants as the_command
use Rattle.command_read.specs.declared.edit.Edit.{Edit}
use Rattle.command_read.specs.declared.file_line.FileLine.{FileLine}
use Rattle.module_registry.specs.Entries.{Entry}
use Rattle.module_registry.specs.Views.{entries_of}
use Rattle.live_session.specs.Beside.{StandsBeside, settings_by, settings_in, world_in}
use Rattle.live_session.specs.Done.{IsDone, told}
use Rattle.live_session.specs.Files.{TextFile}
use Rattle.live_session.specs.Judging.{verdict_on}
use Rattle.live_session.specs.Kept.{IsKept}
use Rattle.live_session.specs.Loaded.{ComesTo, result_of}
use Rattle.live_session.specs.Loads.{LoadAnswer, Gave, Broke, AddsAnswers, AreAnswers, AreToFirst, HasFailed, LosesAnswers, loaded_files, shelf_answers}
use Rattle.live_session.specs.Logs.{Log, LogMoment, marks_of}
use Rattle.live_session.specs.Readings.{IsRight, IsRightEdit}
use Rattle.live_session.specs.Replies.{answers_to_command}
use Rattle.live_session.specs.Sessions.{limits_of, running_world, world, world_of}
use Rattle.live_session.specs.Settings.{Settings}
use Rattle.live_session.specs.Steps.{StepsTo, StopsInTurn, loses, stays}
use Rattle.live_session.specs.Taken.{LosesBlock, TakesBlock, lost_lines, none_taken}
use Rattle.live_session.specs.Turns.{Answers, AnswersFrom, AnswersIn, Refuses, StopsAt, StopsFrom, StopsIn, lost_at, no_answer, undone_at}
use Rattle.live_session.specs.Verdicts.{Told, loaded_verdict}
use Rattle.live_session.specs.Worlds.{World, Refused, fresh, refused_at, refused_text}
use Rattle.live_session.specs.declared.limits.Limits.{Limits}
use Rattle.live_session.specs.declared.loads.Loads.{Loads}
use Rattle.live_session.specs.declared.reply.Reply.{Reply}
use Rattle.live_session.specs.declared.running.Running.{Running}
use Rattle.live_session.specs.declared.session.Session.{Session}
use Rattle.live_session.proofs.GivenLoads.{none_added}
use Rattle.live_session.proofs.Growing.{kept_grown}
use Rattle.live_session.proofs.Judged.{refused_done, told_done}

-- no text stands twice in no table
pub none_twice : HasEachOnce []
none_twice = λ i j lt below. absurd (omega (arith, lt))

-- what is kept of a design is kept by a table that has grown
pub kept_on_names : (old new : List (List ℕ)) → Grows old new → (limits : Limits) (running : Option Running) → IfSome running (IsKept old limits)
    → IfSome running (IsKept new limits)
kept_on_names old new grows limits None h = tt
kept_on_names old new grows limits (Some r) h = kept_grown old new grows limits r h

-- ---- replies to commands that look at nothing outside

-- a refusal leaves session and book as they are
pub refuses_done : (st : Settings) (asked : Result Asked TextFault) (w : World) (v : Result World Refused) (j : Log) (refused : Refused) (r : Reply)
    → v ≡ Err refused → Refuses refused r → IsDone true st asked w w v j j r.lines r.refused
refuses_done st (Ok asked) w v j refused r is says = refused_done st asked [] none_twice w w v r j refused is says refl
refuses_done st (Err fault) w v j refused r is says =
    subst (λ (x : Result World Refused). IsDone true st (Err fault) w w x j j r.lines r.refused) (sym is)
    (record {
      added = [];
      settings = refl;
      events = sym (append-nil j.events);
      goes = refl;
      refusal = says.refusal;
      all_own = λ alone. tt;
      part = record { names = []; once = none_twice; is = refl; agree = tt };
      tells = λ (rest : List LogMoment). ap (λ (text : List ℕ). Some (text, rest)) (sym says.text);
    })

pub refuses_with : {E : Type 0} (asked : Asked) (s : Session) (j : Log) (refused : Refused) (result : Result Reply E)
    → verdict_on (settings_in s j) (told (Ok asked) [] no_answer) (world_in s j) ≡ Err refused
    → IfOk result (Refuses refused) → IfOk result (Answers asked s s j j)
refuses_with asked s j refused (Err e) is says = tt
refuses_with asked s j refused (Ok reply) is says =
    refuses_done (settings_in s j) (Ok asked) (world_in s j) (verdict_on (settings_in s j) (told (Ok asked) [] no_answer) (world_in s j)) j refused
    reply is
    says

module _ (asked : Asked) (old : Session) (was is : Log) (r x : Running) (runs : old.running ≡ Some r) where
  world_was : world_in old was ≡ world_of old.names (entries_of old.registry) (marks_of was) r
  world_was = ap (running_world old.names (entries_of old.registry) (marks_of was)) runs

  abbrev world_is : World
  world_is = world_of old.names (entries_of old.registry) (marks_of is) x

  -- a design that runs answers for its session
  pub answers_for : (reply : Reply) → AnswersIn old.names old.limits asked r x was is reply
      → AnswersFrom (settings_in old was) asked (world_in old was) world_is was is reply
  answers_for reply h =
      let st = settings_by old.limits was in
      subst (λ (w : World). IsDone true st (Ok asked) w world_is (verdict_on st (told (Ok asked) [] no_answer) w) was is reply.lines reply.refused)
      (sym world_was) (h (entries_of old.registry))

  pub answers_on : {E : Type 0} (result : Result Reply E) → IfOk result (AnswersIn old.names old.limits asked r x was is)
      → IfOk result (AnswersFrom (settings_in old was) asked (world_in old was) world_is was is)
  answers_on (Err e) h = tt
  answers_on (Ok reply) h = answers_for reply h

  -- and stops for it
  pub stops_for : StopsIn old.names old.limits asked r x was is → StopsFrom (settings_in old was) asked (world_in old was) world_is was is
  stops_for h =
      subst (λ (w : World). StopsFrom (settings_by old.limits was) asked w world_is was is) (sym world_was) (h (entries_of old.registry))

  pub stops_on : {E : Type 0} (result : Result Reply E) → OnErr result (StopsIn old.names old.limits asked r x was is)
      → OnErr result (StopsFrom (settings_in old was) asked (world_in old was) world_is was is)
  stops_on (Ok reply) h = tt
  stops_on (Err e) h = stops_for h

-- nothing is new
pub stops_still : {E : Type 0} (asked : Asked) (s : Session) (j : Log) (result : Result Reply E) → OnErr result (StopsAt asked s s j j)
stops_still asked s j (Ok reply) = tt
stops_still asked s j (Err e) = undone_at refl refl refl

-- `quit`
pub quits_so : (line : ℕ) (s : Session) (j : Log) (reply : Reply) → reply.lines ≡ codes "ok quit\n" → reply.refused ≡ false
    → Answers (Quits line) s s j j reply
quits_so line s j reply says accepts =
    told_done (settings_in s j) (Quits line) [] none_twice (world_in s j) (world_in s j) (Ok (world_in s j)) reply j (world_in s j) refl refl refl
    refl
    (λ (rest : List LogMoment). ap (λ (text : List ℕ). Some (text, rest)) (sym says)) accepts

-- ---- steps

-- a command that looks at nothing outside was done so
pub step_by : (alone : Bool) (asked : Asked) (answers : Option (List ShelfAnswer)) (faults : ℕ) (old new : Session) (was is : Log) (text : List ℕ)
    (refused : Bool) → limits_of new ≡ limits_of old → answers_to_command asked [] ≡ []
    → ((st : Settings) (w : World) → IsRight st w (told (Ok asked) [] no_answer)) → StandsBeside new is
    → IsDone alone (settings_in old was) (Ok asked) (world_in old was) (world_in new is)
    (verdict_on (settings_in old was) (told (Ok asked) [] no_answer) (world_in old was)) was is text refused
    → StepsTo alone (Ok asked) answers answers faults faults old new was is text refused
step_by alone asked answers faults old new was is text refused limits none right beside h = record {
  loads = [];
  answer = no_answer;
  adds = subst (AddsAnswers answers answers) (sym none) (none_added answers);
  cause = refl;
  limits = limits;
  right = right (settings_in old was) (world_in old was);
  done = h;
  beside = beside;
}

-- nothing is looked at
pub answered : {E : Type 0} (asked : Asked) (answers : Option (List ShelfAnswer)) (faults : ℕ) (old new : Session) (was is : Log)
    (result : Result Reply E)
    → limits_of new ≡ limits_of old → answers_to_command asked [] ≡ [] → ((st : Settings) (w : World) → IsRight st w (told (Ok asked) [] no_answer))
    → StandsBeside new is → IfOk result (Answers asked old new was is)
    → IfOk result (λ r. StepsTo true (Ok asked) answers answers faults faults old new was is r.lines r.refused)
answered asked answers faults old new was is (Err e) limits none right beside h = tt
answered asked answers faults old new was is (Ok reply) limits none right beside h =
    step_by true asked answers faults old new was is reply.lines reply.refused limits none right beside h

step_of : (asked : Asked) (answers : Option (List ShelfAnswer)) (faults : ℕ) (old new : Session) (was is : Log) (reply : Reply)
    → limits_of new ≡ limits_of old → answers_to_command asked [] ≡ [] → ((st : Settings) (w : World) → IsRight st w (told (Ok asked) [] no_answer))
    → StandsBeside new is → Answers asked old new was is reply
    → StepsTo true (Ok asked) answers answers faults faults old new was is reply.lines reply.refused
step_of asked answers faults old new was is reply limits none right beside h =
    answered {E = ℕ} asked answers faults old new was is (Ok reply) limits none right beside h

pub stopped : {E : Type 0} (asked : Asked) (answers : Option (List ShelfAnswer)) (faults : ℕ) (old new : Session) (was is : Log)
    (result : Result Reply E)
    → limits_of new ≡ limits_of old → answers_to_command asked [] ≡ [] → ((st : Settings) (w : World) → IsRight st w (told (Ok asked) [] no_answer))
    → StandsBeside new is → OnErr result (StopsAt asked old new was is)
    → OnErr result (StopsInTurn (Ok asked) answers answers faults faults old new was is)
stopped asked answers faults old new was is (Ok reply) limits none right beside h = tt
stopped asked answers faults old new was is (Err e) limits none right beside h = by h
  where
    by : StopsAt asked old new was is → StopsInTurn (Ok asked) answers answers faults faults old new was is
    by (undone_at settings events same) = stays settings events same
    by (lost_at reply done) = loses reply.lines reply.refused (step_of asked answers faults old new was is reply limits none right beside done)

-- so nothing is lost
pub none_lost : {E : Type 0} (s : Session) (asked : Asked) (answers : Option (List ShelfAnswer)) (result : Result Reply E)
    → OnErr result (LosesAnswers s asked answers answers)
none_lost s asked answers (Ok r) = tt
none_lost s asked answers (Err e) = record { more = []; adds = none_added answers; first = tt; reached = λ grid full. refl }

-- a line that is refused as it is read
pub fault_steps : {E : Type 0} (fault : TextFault) (s : Session) (result : Result Reply E) → IfOk result (Refuses (refused_text [] 0 fault))
    → IfOk result (λ r. (answers : Option (List ShelfAnswer)) (faults : ℕ) (j : Log) → StandsBeside s j
    → StepsTo true (Err fault) answers answers faults faults s s j j r.lines r.refused)
fault_steps fault s (Err e) says = tt
fault_steps fault s (Ok reply) says = λ (answers : Option (List ShelfAnswer)) (faults : ℕ) (j : Log) (beside : StandsBeside s j). record {
  loads = [];
  answer = no_answer;
  adds = none_added answers;
  cause = refl;
  limits = refl;
  right = refl;
  done = refuses_done (settings_in s j) (Err fault) (world_in s j) (Err (refused_text [] 0 fault)) j (refused_text [] 0 fault) reply refl says;
  beside = beside;
}

-- ---- answers to loads

pub failed_or : (failed : Bool) (faults count : ℕ) → HasFailed failed faults count → (count ≡ faults) ⊎ Rose faults count
failed_or true faults count h = inr h
failed_or false faults count h = inl h

-- nothing was loaded
none_given : (loads : List LoadedFile) → shelf_answers loads [] ≡ []
none_given [] = refl
none_given (load ∷ loads) = refl

abbrev nothing : List LoadAnswer
nothing = []

-- answers to the loads that are reached are to the first ones
pub all_to : (loads : List LoadedFile) (answers : List LoadAnswer) → AreAnswers loads answers → AreToFirst loads (shelf_answers loads answers)
all_to [] answers right = tt
all_to (load ∷ loads) [] right = tt
all_to (load ∷ loads) (Broke ∷ answers) right = (refl, ap (shelf_answers loads) right ∙ none_given loads)
all_to (load ∷ loads) (Gave text ∷ answers) right = (refl, by (ltb 4194304 (length text)) right (all_to loads answers))
  where
    by : (t : Bool) → MatchBool t (answers ≡ []) (AreAnswers loads answers)
        → (AreAnswers loads answers → AreToFirst loads (shelf_answers loads answers))
        → MatchBool t (shelf_answers loads answers ≡ []) (AreToFirst loads (shelf_answers loads answers))
    by true none later = ap (shelf_answers loads) none ∙ none_given loads
    by false more later = later more

-- ---- a block that is refused before anything is loaded

module _ (block : Block) (s : Session) (j : Log) (answers : Option (List ShelfAnswer)) (faults : ℕ) (beside : StandsBeside s j) where
  abbrev without : Told
  without = told (Ok (Edits block)) [] no_answer

  refuses_block : {E : Type 0} (refused : Refused) (result : Result Reply E) → verdict_on (settings_in s j) without (world_in s j) ≡ Err refused
      → IsRight (settings_in s j) (world_in s j) without → IfOk result (Refuses refused)
      → IfOk result (λ r. StepsTo true (Ok (Edits block)) answers answers faults faults s s j j r.lines r.refused)
  refuses_block refused (Err e) is right says = tt
  refuses_block refused (Ok reply) is right says = record {
    loads = [];
    answer = no_answer;
    adds = subst (AddsAnswers answers answers) (sym (none_given block.loads)) (none_added answers);
    cause = refl;
    limits = refl;
    right = right;
    done = refuses_done (settings_in s j) (Ok (Edits block)) (world_in s j) (verdict_on (settings_in s j) without (world_in s j)) j refused reply is
        says;
    beside = beside;
  }

  -- 68
  pub full_steps : {E : Type 0} (result : Result Reply E) → (limits_of s).rooms.session ≤ (world_in s j).charge
      → IfOk result (Refuses (refused_at 68 block.line []))
      → IfOk result (λ r. StepsTo true (Ok (Edits block)) answers answers faults faults s s j j r.lines r.refused)
  full_steps result full =
      let w = world_in s j in
      let no_room : ltb (limits_of s).rooms.session (w.charge + 1) ≡ true = lt-ltb (limits_of s).rooms.session (w.charge + 1) (omega (arith, full)) in
      refuses_block (refused_at 68 block.line []) result
      (ap (λ (b : Bool). cond b (Err (refused_at 68 block.line [])) (loaded_verdict w block no_answer (loaded_files block.loads nothing))) no_room)
      (subst (λ (b : Bool). MatchBool b (nothing ≡ nothing) (IsRightEdit w block nothing no_answer)) (sym no_room) refl)

-- ---- blocks whose loads came to something

-- by worlds that are the same
module _ {E : Type 0} (st : Settings) (block : Block) (given : Result (List TextFile) Refused) (x y old new : World) (was is : Log)
    (result : Result Reply E)
    (same : old ≡ x) (also : new ≡ y) where
  pub takes_ok : IfOk result (λ r. TakesBlock st block given x y was is r.lines r.refused)
      → IfOk result (λ r. TakesBlock st block given old new was is r.lines r.refused)
  takes_ok h =
      subst (λ (w : World). IfOk result (λ r. TakesBlock st block given w new was is r.lines r.refused)) (sym same)
      (subst (λ (w : World). IfOk result (λ r. TakesBlock st block given x w was is r.lines r.refused)) (sym also) h)

  pub loses_err : OnErr result (LosesBlock st block given x y was is) → OnErr result (LosesBlock st block given old new was is)
  loses_err h =
      subst (λ (w : World). OnErr result (LosesBlock st block given w new was is)) (sym same)
      (subst (λ (w : World). OnErr result (LosesBlock st block given x w was is)) (sym also) h)

-- no design runs
pub fresh_world : (names : List (List ℕ)) (entries : List Entry) (grid : List ℕ) (running : Option Running) → is_some running ≡ false
    → running_world names entries grid running ≡ fresh
fresh_world names entries grid running is = ap (running_world names entries grid) (no_value running is)

-- a fault of its loads
pub refused_loads : {E : Type 0} (block : Block) (s : Session) (j : Log) (refused : Refused) (result : Result Reply E) → IfOk result (Refuses refused)
    → IfOk result (λ r. TakesBlock (settings_in s j) block (Err refused) (world_in s j) (world_in s j) j j r.lines r.refused)
refused_loads block s j refused (Err e) says = tt
refused_loads block s j refused (Ok reply) says = record {
  answer = no_answer;
  read = λ files is. absurd (true≢false (ap is_err is));
  done = refuses_done (settings_in s j) (Ok (Edits block)) (world_in s j) (Err refused) j refused reply refl says;
}

pub none_is_new : {E : Type 0} (st : Settings) (block : Block) (given : Result (List TextFile) Refused) (w : World) (j : Log)
    (result : Result Reply E)
    → OnErr result (LosesBlock st block given w w j j)
none_is_new st block given w j (Ok reply) = tt
none_is_new st block given w j (Err e) = none_taken refl refl refl

module _ (names : List (List ℕ)) (e : Edit) (old new : Session) (was is : Log) (before behind : Option (List ShelfAnswer)) (faults count : ℕ) where
  abbrev asks : Block
  asks = edited names e

  module _ (limits : limits_of new ≡ limits_of old) (beside : StandsBeside new is) (room : (world_in old was).charge < (limits_of old).rooms.session)
      (l : Loads) (h : ComesTo names e.loads before behind faults count l) where
    abbrev w : World
    w = world_in old was

    abbrev st : Settings
    st = settings_in old was

    has_room : ltb (limits_of old).rooms.session (w.charge + 1) ≡ false
    has_room = le-ltb (limits_of old).rooms.session (w.charge + 1) (omega (arith, room))

    -- a block whose loads came to that, and which was taken so
    pub block_steps : (text : List ℕ) (refused : Bool) → TakesBlock st asks (result_of names l) w (world_in new is) was is text refused
        → StepsTo true (Ok (Edits asks)) before behind faults count old new was is text refused
    block_steps text refused t =
        let is_verdict : verdict_on st (told (Ok (Edits asks)) h.answers t.answer) w ≡ loaded_verdict w asks t.answer (result_of names l) =
        ap (λ (b : Bool). cond b (Err (refused_at 68 asks.line [])) (loaded_verdict w asks t.answer (loaded_files asks.loads h.answers))) has_room
        ∙ ap (loaded_verdict w asks t.answer) h.comes in
        record {
          loads = h.answers;
          answer = t.answer;
          adds = h.adds;
          cause = h.cause;
          limits = limits;
          right =
              subst (λ (b : Bool). MatchBool b (h.answers ≡ nothing) (IsRightEdit w asks h.answers t.answer)) (sym has_room)
              (record { loaded = h.right; read = λ files is. t.read files (sym h.comes ∙ is) });
          done = subst (λ (v : Result World Refused). IsDone true st (Ok (Edits asks)) w (world_in new is) v was is text refused) (sym is_verdict) t.done;
          beside = beside;
        }

    pub all_steps : {E : Type 0} (result : Result Reply E)
        → IfOk result (λ r. TakesBlock st asks (result_of names l) w (world_in new is) was is r.lines r.refused)
        → IfOk result (λ r. StepsTo true (Ok (Edits asks)) before behind faults count old new was is r.lines r.refused)
    all_steps (Err error) t = tt
    all_steps (Ok reply) t = block_steps reply.lines reply.refused t

    pub all_stops : {E : Type 0} (result : Result Reply E) → OnErr result (LosesBlock st asks (result_of names l) w (world_in new is) was is)
        → OnErr result (StopsInTurn (Ok (Edits asks)) before behind faults count old new was is)
    all_stops (Ok reply) t = tt
    all_stops (Err error) t = by t
      where
        by : LosesBlock st asks (result_of names l) w (world_in new is) was is → StopsInTurn (Ok (Edits asks)) before behind faults count old new was is
        by (none_taken settings events same) = stays settings events same
        by (lost_lines text refused t) = loses text refused (block_steps text refused t)

  -- all answers to its loads
  pub all_lost : {E : Type 0} (l : Loads) (result : Result Reply E) → ((grid : List ℕ) → (world old grid).charge < (limits_of old).rooms.session)
      → ComesTo names e.loads before behind faults count l → OnErr result (LosesAnswers old (Edits asks) before behind)
  all_lost l (Ok reply) room h = tt
  all_lost l (Err error) room h = record {
    more = shelf_answers asks.loads h.answers;
    adds = h.adds;
    first = all_to asks.loads h.answers h.right;
    reached = λ grid full. absurd (omega (arith, full, room grid));
  }

-- memory ran out before a block was taken
pub stops_before : (block : Block) (s : Session) (j : Log) (before behind : Option (List ShelfAnswer)) (faults count : ℕ)
    → StopsInTurn (Ok (Edits block)) before behind faults count s s j j
stops_before block s j before behind faults count = stays refl refl refl

-- ---- commands

unmapped : (names : List (List ℕ)) (files : List FileLine) → All (λ (f : GivenFile). length f.text ≤ 4194304) (map (given_file names) files)
    → All (λ (g : FileLine). length g.file.text ≤ 4194304) files
unmapped names [] short = All-nil (λ (g : FileLine). length g.file.text ≤ 4194304)
unmapped names (f ∷ fs) short =
    All-cons (λ (g : FileLine). length g.file.text ≤ 4194304) f fs
    (All-head (λ (g : GivenFile). length g.text ≤ 4194304) (given_file names f) (map (given_file names) fs) short)
    (unmapped names fs (All-tail (λ (g : GivenFile). length g.text ≤ 4194304) (given_file names f) (map (given_file names) fs) short))

-- the texts that a block gives
pub given_short : (names : List (List ℕ)) (command : Command) (e : Edit) → command ≡ the_command.Edit e → IsFormed (spoken names command)
    → All (λ (g : FileLine). length g.file.text ≤ 4194304) e.files
given_short names command e is formed =
    unmapped names e.files (subst (λ (c : Command). IsFormed (spoken names c)) is formed)

-- a command that looks at nothing outside
module _ {E : Type 0} (names : List (List ℕ)) (command : Command) (asked : Asked) (answers : Option (List ShelfAnswer)) (faults : ℕ)
    (old new : Session)
    (was is : Log) (result : Result Reply E) (means : spoken names command ≡ asked) (limits : limits_of new ≡ limits_of old)
    (none : answers_to_command asked [] ≡ []) (right : (st : Settings) (w : World) → IsRight st w (told (Ok asked) [] no_answer))
    (beside : StandsBeside new is) where
  pub commanded : IfOk result (Answers asked old new was is)
      → IfOk result (λ r. StepsTo true (Ok (spoken names command)) answers answers faults faults old new was is r.lines r.refused)
  commanded h =
      subst (λ (a : Asked). IfOk result (λ r. StepsTo true (Ok a) answers answers faults faults old new was is r.lines r.refused)) (sym means)
      (answered asked answers faults old new was is result limits none right beside h)

  pub command_stops : OnErr result (StopsAt asked old new was is)
      → OnErr result (StopsInTurn (Ok (spoken names command)) answers answers faults faults old new was is)
  command_stops h =
      subst (λ (a : Asked). OnErr result (StopsInTurn (Ok a) answers answers faults faults old new was is)) (sym means)
      (stopped asked answers faults old new was is result limits none right beside h)
