-- A session that looks at its book before a settle, and a settle that is refused then.
use Rattle.std.proofs.Common.{◌≡◌, ◌∙◌, ℕ, ◌+◌, ◌<◌, true, false, List, [], length, Option, Some, None, Result, Ok, Err, refl, sym, ap, subst, append-nil}
use Rattle.std.specs.Prelude.{IfOk, OnErr}
use Rattle.std.specs.Option.{unwrap_or}
use Rattle.ls_port.specs.declared.shelf_answer.ShelfAnswer.{ShelfAnswer}
use Rattle.ls_text.specs.Texts.{HasEachOnce}
use Rattle.book_history.specs.Book.{Book, Settings as BookSettings}
use Rattle.book_history.specs.Readers.{links_in}
use Rattle.book_history.proofs.Outlines.{links_marked}
use Rattle.command_read.specs.Asking.{Asked, Settles}
use Rattle.cycle_eval.specs.declared.design.Design.{Design}
use Rattle.module_registry.specs.Views.{entries_of}
use Rattle.segment_verify.specs.Workers.{IsFree}
use Rattle.turn_settle.specs.Seen.{IsLegalUnder, book_seen}
use Rattle.turn_settle.specs.Visits.{IsVisit}
use Rattle.live_session.specs.AtTurn.{Sight, StandsAt, log_of}
use Rattle.live_session.specs.Beside.{StandsBeside, settings_in, world_in}
use Rattle.live_session.specs.Charging.{charge_for}
use Rattle.live_session.specs.Kept.{IsKept}
use Rattle.live_session.specs.Logs.{InputRow, IsLegal, Log, State, book_in, kit, marks_of, valid}
use Rattle.live_session.specs.Sessions.{limits_of, running_world, world, world_of}
use Rattle.live_session.specs.Settings.{Settings}
use Rattle.live_session.specs.Steps.{StepsTo, Stops, undone}
use Rattle.live_session.specs.Turns.{Accepts, Answers, AnswersFrom, Refuses}
use Rattle.live_session.specs.Worlds.{World, refused_at}
use Rattle.live_session.specs.declared.reply.Reply.{Reply}
use Rattle.live_session.specs.declared.running.Running.{Running}
use Rattle.live_session.specs.declared.session.Session.{Session}
use Rattle.live_session.proofs.Among.{Meets, beside_there, same_marks}
use Rattle.live_session.proofs.InTurn.{step_among, stops_among}
use Rattle.live_session.proofs.SessionCalls.{none_runs, stands_there}
use Rattle.live_session.proofs.SessionSteps.{answered, answers_on}
use Rattle.live_session.proofs.SettleRoom.{settle_refused}
use Rattle.live_session.proofs.SettledAtTurn.{book_is}
use Rattle.live_session.proofs.SharedSettles.{cancel, events_are, owned_of, settings_same}

-- ---- what a look leaves

module _ (s : Session) (v u : Sight) (at : StandsAt s v) (free : IsFree u) (visit : IsVisit kit valid [] v u) where
  looks_legal : IsLegal (log_of u)
  looks_legal =
      subst (λ (st : BookSettings). IsLegal (record { settings = st; events = u.seen })) (sym (settings_same s s v u [] visit.added))
      (subst (λ (o : Option BookSettings). IsLegalUnder kit valid o u.seen) (visit.added.settings ∙ at.carries) visit.legal)

  -- entries of others alone are new
  pub look_meets : Meets v (log_of u)
  look_meets = record {
    others = visit.added.begins.0;
    settings = settings_same s s v u [] visit.added;
    events = events_are s s v u [] visit.added;
    unowned = owned_of s v u [] visit.added at visit.own;
    none = λ alone. cancel v.seen visit.added.begins.0 [] (sym visit.added.begins.1 ∙ visit.added.whole alone);
    legal = looks_legal;
    seen_legal = at.legal;
  }

  -- the session stands at it as before
  pub looked_at : StandsAt s u
  looked_at = record {
    free = free;
    carries = visit.added.settings ∙ at.carries ∙ ap (λ (st : BookSettings). Some st) (sym (settings_same s s v u [] visit.added));
    sees = visit.own;
    legal = looks_legal;
    stands = beside_there v (log_of u) look_meets s at.stands;
  }

-- its links are one for each mark that it looks at
pub looked_links : (s : Session) (v u : Sight) (at : StandsAt s v) (free : IsFree u) (visit : IsVisit kit valid [] v u) (links : ℕ)
    → links ≡ links_in (book_seen kit v) → links ≡ length (marks_of (log_of u))
looked_links s v u at free visit links is =
    is ∙ ap (λ (b : Option (Book Design State InputRow)). links_in b) (book_is s v at) ∙ links_marked (book_in (log_of v))
    ∙ ap (λ (ms : List ℕ). length ms) (sym (same_marks v (log_of u) (look_meets s v u at free visit)))

-- nothing is new yet
pub meets_itself : (s : Session) (v : Sight) → StandsAt s v → Meets v (log_of v)
meets_itself s v at = record {
  others = [];
  settings = refl;
  events = sym (append-nil v.seen);
  unowned = refl;
  none = λ alone. refl;
  legal = at.legal;
  seen_legal = at.legal;
}

-- a settle doesn't end the run
pub settle_goes_on : {E : Type 0} (text : (grid : List ℕ) → List ℕ) (result : Result Reply E)
    → IfOk result (λ (reply : Reply). (grid : List ℕ) → Accepts (text grid) reply) → IfOk result (λ (reply : Reply). reply.quit ≡ false)
settle_goes_on text (Ok reply) says = (says []).goes_on
settle_goes_on text (Err e) says = tt

-- where memory ran out, told of a shelf that isn't asked
pub stop_there : {T E : Type 0} (result : Result T E) (P : Option (List ShelfAnswer) → ℕ → Type 0)
    → OnErr result ((answers : Option (List ShelfAnswer)) (faults : ℕ) → P answers faults) → (answers : Option (List ShelfAnswer)) (faults : ℕ)
    → OnErr result (P answers faults)
stop_there (Ok x) P h answers faults = tt
stop_there (Err e) P h answers faults = h answers faults

-- ---- a settle that is refused

-- an answer at the book that the session looks at, told of what its pass had seen
module _ (v : Sight) (i : Log) (m : Meets v i) (line : ℕ) (passes : Option ℕ) (old new : Session) (limits : limits_of new ≡ limits_of old)
    (beside : StandsBeside new i) where
  abbrev asked : Asked
  asked = Settles line passes

  told_seen : {E : Type 0} (result : Result Reply E) → ((answers : Option (List ShelfAnswer)) (faults : ℕ)
      → IfOk result (λ (r : Reply). StepsTo true (Ok asked) answers answers faults faults old new i i r.lines r.refused))
      → IfOk result (λ (r : Reply). (answers : Option (List ShelfAnswer)) (faults : ℕ)
      → StepsTo v.alone (Ok asked) answers answers faults faults old new (log_of v) i r.lines r.refused)
  told_seen (Err e) h = tt
  told_seen (Ok r) h = λ (answers : Option (List ShelfAnswer)) (faults : ℕ).
      step_among v i i m true (λ alone. refl) (Ok asked) answers answers faults faults old new r.lines r.refused (h answers faults)

  pub refused_steps : {E : Type 0} (result : Result Reply E) → IfOk result (Answers asked old new i i)
      → IfOk result (λ (r : Reply). (answers : Option (List ShelfAnswer)) (faults : ℕ)
      → StepsTo v.alone (Ok asked) answers answers faults faults old new (log_of v) i r.lines r.refused)
  refused_steps result h =
      told_seen result
      (λ (answers : Option (List ShelfAnswer)) (faults : ℕ).
      answered asked answers faults old new i i result limits refl (λ (st : Settings) (w : World). refl) beside h)

  -- memory ran out before its line was made
  pub refused_stops : {E : Type 0} (result : Result Reply E) → world_in new i ≡ world_in old i
      → OnErr result ((answers : Option (List ShelfAnswer)) (faults : ℕ)
      → Stops v.alone (Ok asked) answers answers faults faults old new (log_of v) i)
  refused_stops (Ok r) same = tt
  refused_stops (Err e) same = λ (answers : Option (List ShelfAnswer)) (faults : ℕ).
      stops_among v i i m true (λ alone. refl) (Ok asked) answers answers faults faults old new
      (undone (record { added = []; settings = refl; events = sym (append-nil i.events); none_own = refl; none = λ alone. refl }) same)

-- no design runs: 62
module _ {E : Type 0} (old new : Session) (v : Sight) (at : StandsAt old v) (none : old.running ≡ None) (limits : limits_of new ≡ limits_of old)
    (same : world_in new (log_of v) ≡ world_in old (log_of v)) (beside : StandsBeside new (log_of v)) (line : ℕ) (passes : Option ℕ)
    (result : Result Reply E) where
  pub none_steps : IfOk result (Refuses (refused_at 62 line []))
      → IfOk result (λ (r : Reply). (answers : Option (List ShelfAnswer)) (faults : ℕ)
      → StepsTo v.alone (Ok (Settles line passes)) answers answers faults faults old new (log_of v) (log_of v) r.lines r.refused)
  none_steps says =
      let i = log_of v in
      refused_steps v i (meets_itself old v at) line passes old new limits beside result
      (subst (λ (w : World). IfOk result (AnswersFrom (settings_in old i) (Settles line passes) (world_in old i) w i i)) (sym same)
      (none_runs (Settles line passes) old i line result none refl says))

  pub none_stops : OnErr result ((answers : Option (List ShelfAnswer)) (faults : ℕ)
      → Stops v.alone (Ok (Settles line passes)) answers answers faults faults old new (log_of v) (log_of v))
  none_stops = refused_stops v (log_of v) (meets_itself old v at) line passes old new limits beside result same

-- the room is too small: 68
module _ {E : Type 0} (old new : Session) (r x : Running) (runs : old.running ≡ Some r)
    (is_new : (grid : List ℕ) → world new grid ≡ world_of old.names (entries_of old.registry) grid x) (limits : limits_of new ≡ limits_of old)
    (once : HasEachOnce old.names) (kept : IsKept old.names old.limits r) (v u : Sight) (at : StandsAt old v) (free : IsFree u)
    (visit : IsVisit kit valid [] v u) (beside : StandsBeside new (log_of u)) (same : x ≡ r) (line : ℕ) (passes : Option ℕ) (links : ℕ)
    (marked : links ≡ length (marks_of (log_of u))) (result : Result Reply E) where
  pub full_steps : old.limits.rooms.session < r.charge + charge_for links (unwrap_or passes links) → IfOk result (Refuses (refused_at 68 line []))
      → IfOk result (λ (y : Reply). (answers : Option (List ShelfAnswer)) (faults : ℕ)
      → StepsTo v.alone (Ok (Settles line passes)) answers answers faults faults old new (log_of v) (log_of u) y.lines y.refused)
  full_steps full says =
      let i = log_of u in
      let there = stands_there old.limits old.running r i runs (looked_at old v u at free visit).stands.stands in
      refused_steps v i (look_meets old v u at free visit) line passes old new limits beside result
      (subst (λ (w : World). IfOk result (AnswersFrom (settings_in old i) (Settles line passes) (world_in old i) w i i)) (sym (is_new (marks_of i)))
      (answers_on (Settles line passes) old i i r x runs result
      (settle_refused old.names once old.limits r x kept line passes i there links marked same result full says)))

  pub full_stops : OnErr result ((answers : Option (List ShelfAnswer)) (faults : ℕ)
      → Stops v.alone (Ok (Settles line passes)) answers answers faults faults old new (log_of v) (log_of u))
  full_stops =
      let i = log_of u in
      refused_stops v i (look_meets old v u at free visit) line passes old new limits beside result
      (is_new (marks_of i) ∙ ap (world_of old.names (entries_of old.registry) (marks_of i)) same
      ∙ ap (running_world old.names (entries_of old.registry) (marks_of i)) (sym runs))
