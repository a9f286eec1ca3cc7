-- A command in one turn of the book: from what the pass had seen to what it then has seen.
use Rattle.std.proofs.Common.{◌≡◌, ◌∙◌, ℕ, ◌+◌, eqb, min, Bool, true, false, List, [], ◌∷◌, ◌++◌, length, Option, Some, Result, Ok, Err, refl, sym, ap, ap₂, subst, true≢false, append-nil}
use Rattle.std.specs.Prelude.{IfOk, OnErr}
use Rattle.ls_port.specs.declared.shelf_answer.ShelfAnswer.{ShelfAnswer}
use Rattle.ls_text.specs.Readings.{TextFault}
use Rattle.std.proofs.lemmas.Bool.{cond_both}
use Rattle.book_history.specs.Book.{Settings as BookSettings, Opens, Reloads, Runs as RunsEvent, Shows as ShowsEvent}
use Rattle.book_history.specs.Kind.{SessionsOwn, kind_of}
use Rattle.book_history.specs.Owned.{AllOwned, added, owned}
use Rattle.book_history.specs.Tickets.{MayAddAll, MayAddKind, kept_all, kept_by}
use Rattle.segment_verify.specs.Passes.{IsUnfinished}
use Rattle.book_turn.specs.Known.{entered, left}
use Rattle.book_turn.specs.Rule.{Learned, MayLeave}
use Rattle.book_history.proofs.Owned.{all_owned, owned_append}
use Rattle.book_turn.proofs.Histories.{added_append}
use Rattle.command_read.specs.Asking.{Asked, AsksStatus, Edits, Quits, Runs, Sets, Settles, Shows}
use Rattle.live_session.specs.AtTurn.{Sight, StandsAt, log_of}
use Rattle.live_session.specs.Beside.{StandsBeside, settings_in, world_in}
use Rattle.live_session.specs.CutShort.{HasStayed, IsCutShort}
use Rattle.live_session.specs.Done.{IsDone, told}
use Rattle.live_session.specs.Judging.{verdict_on}
use Rattle.live_session.specs.Logs.{IsLegal, Log, LogEvent, LogMoment, moments_after}
use Rattle.live_session.specs.Readings.{IsRight}
use Rattle.live_session.specs.Replies.{answer_text}
use Rattle.live_session.specs.Scripts.{IsAccepted, IsJudged, IsPart}
use Rattle.live_session.specs.Settings.{Settings}
use Rattle.live_session.specs.Steps.{StepsTo, Stops, StopsInTurn, cut_short, is_settle, loses, lost, stays, undone}
use Rattle.live_session.specs.Verdicts.{Told, chosen, passes_of}
use Rattle.live_session.specs.Worlds.{World, Refused}
use Rattle.live_session.specs.declared.reply.Reply.{Reply}
use Rattle.live_session.specs.declared.session.Session.{Session}
use Rattle.live_session.proofs.Among.{Meets, all_among, events_among, own_among, same_settings, same_world, spoken_among}
use Rattle.live_session.proofs.ShownBeside.{few_moved}

-- ---- entries of one turn

-- all are commands' own
abbrev pub AreSpoken : List LogEvent → Type 0
AreSpoken [] = Unit {0}
AreSpoken (e ∷ es) = (kind_of e ≡ SessionsOwn) × AreSpoken es

one_spoken : (es : List LogEvent) (e : LogEvent) → es ≡ e ∷ [] → kind_of e ≡ SessionsOwn → AreSpoken es
one_spoken es e is spoken = subst AreSpoken (sym is) (spoken, tt)

none_spoken : (es : List LogEvent) → es ≡ [] → AreSpoken es
none_spoken es is = subst AreSpoken (sym is) tt

accepted_spoken : (names : List (List ℕ)) (st : Settings) (old new : World) (es : List LogEvent) (asked : Asked) → is_settle (Ok asked) ≡ false
    → IsAccepted names st old new es asked → AreSpoken es
accepted_spoken names st old new es (Edits block) plain p =
    one_spoken es _ p.4
    (cond_both (eqb old.version 0) (Opens 1 p.0) (Reloads (old.version + 1) p.0 p.2 (chosen st old)) (λ (e : LogEvent). kind_of e ≡ SessionsOwn)
    (λ first. refl) (λ later. refl))
accepted_spoken names st old new es (Sets line values) plain p = none_spoken es p
accepted_spoken names st old new es (Runs line n) plain p = one_spoken es (RunsEvent n p.0) p.2 refl
accepted_spoken names st old new es (Shows line prefix) plain p = one_spoken es (ShowsEvent p.0) p.1 refl
accepted_spoken names st old new es (Settles line passes) plain p = absurd (true≢false plain)
accepted_spoken names st old new es (AsksStatus line) plain p = none_spoken es p
accepted_spoken names st old new es (Quits line) plain p = none_spoken es p

judged_spoken : (names : List (List ℕ)) (st : Settings) (asked : Result Asked TextFault) (old : World) (es : List LogEvent)
    (v : Result World Refused) → is_settle asked ≡ false → IsJudged names st asked old es v → AreSpoken es
judged_spoken names st (Ok asked) old es (Ok new) plain p = accepted_spoken names st old new es asked plain p
judged_spoken names st (Err fault) old es (Ok new) plain p = none_spoken es p
judged_spoken names st (Ok asked) old es (Err refused) plain p = none_spoken es p
judged_spoken names st (Err fault) old es (Err refused) plain p = none_spoken es p

-- a holder may add them, and keeps its tickets
spoken_may : (h : List LogEvent) (ts : List ℕ) (es : List LogEvent) → AreSpoken es → MayAddAll h ts es
spoken_may h ts [] all = tt
spoken_may h ts (e ∷ es) all = (
  subst (MayAddKind h ts) (sym all.0) tt,
  spoken_may (h ++ e ∷ []) (kept_by ts (kind_of e)) es all.1,
)

spoken_kept : (ts : List ℕ) (es : List LogEvent) → AreSpoken es → kept_all ts es ≡ ts
spoken_kept ts [] all = refl
spoken_kept ts (e ∷ es) all = ap (λ (us : List ℕ). kept_all us es) (ap (kept_by ts) all.0) ∙ spoken_kept ts es all.1

-- what a command has added in one turn
pub record AddsSpoken (i l : Log) : Type 0 where
  pub entries : List LogEvent
  pub settings : l.settings ≡ i.settings
  pub events : l.events ≡ i.events ++ entries
  pub spoken : AreSpoken entries
  pub all_own : AllOwned true entries

pub adds_of_step : (asked : Result Asked TextFault) → is_settle asked ≡ false → (before behind : Option (List ShelfAnswer)) (faults count : ℕ)
    (old new : Session) (i l : Log) (text : List ℕ) (refused : Bool) → StepsTo true asked before behind faults count old new i l text refused
    → AddsSpoken i l
adds_of_step asked plain before behind faults count old new i l text refused s =
    let d = s.done in
    record {
      entries = d.added;
      settings = d.settings;
      events = d.events;
      spoken =
          subst AreSpoken (all_owned d.added (d.all_own refl))
          (judged_spoken d.part.names (settings_in old i) asked (world_in old i) (owned d.added)
          (verdict_on (settings_in old i) (told asked s.loads s.answer) (world_in old i)) plain d.part.is);
      all_own = d.all_own refl;
    }

pub adds_of_stop : (asked : Result Asked TextFault) → is_settle asked ≡ false → (before behind : Option (List ShelfAnswer)) (faults count : ℕ)
    (old new : Session) (i l : Log) → StopsInTurn asked before behind faults count old new i l → AddsSpoken i l
adds_of_stop asked plain before behind faults count old new i l (stays settings events same) =
    record { entries = []; settings = settings; events = events ∙ sym (append-nil i.events); spoken = tt; all_own = tt }
adds_of_stop asked plain before behind faults count old new i l (loses text refused s) =
    adds_of_step asked plain before behind faults count old new i l text refused s

pub adds_of : {E : Type 0} (asked : Result Asked TextFault) → is_settle asked ≡ false → (before behind : Option (List ShelfAnswer)) (faults count : ℕ)
    (old new : Session) (i l : Log) (r : Result Reply E)
    → IfOk r (λ (x : Reply). StepsTo true asked before behind faults count old new i l x.lines x.refused)
    → OnErr r (StopsInTurn asked before behind faults count old new i l) → AddsSpoken i l
adds_of asked plain before behind faults count old new i l (Ok x) ok err =
    adds_of_step asked plain before behind faults count old new i l x.lines x.refused ok
adds_of asked plain before behind faults count old new i l (Err e) ok err = adds_of_stop asked plain before behind faults count old new i l err

-- ---- told of what the pass had seen

module _ (v : Sight) (i l : Log) (m : Meets v i) where
  abbrev seen : Log
  seen = log_of v

  pub done_among : (own : Bool) → (v.alone ≡ true → own ≡ true) → (st : Settings) (asked : Result Asked TextFault) (old new : World)
      (verdict : Result World Refused) (text : List ℕ) (refused : Bool) → IsDone own st asked old new verdict i l text refused
      → IsDone v.alone st asked old new verdict seen l text refused
  done_among own only st asked old new verdict text refused d = record {
    added = m.others ++ d.added;
    settings = d.settings ∙ m.settings;
    events = events_among v i m l d.added d.events;
    goes = d.goes;
    refusal = d.refusal;
    all_own = λ alone. all_among v i m d.added (d.all_own (only alone)) alone;
    part =
        subst (λ (es : List LogEvent). IsPart st asked old es (moments_after seen (m.others ++ d.added)) verdict) (sym (own_among v i m d.added))
        (subst (λ (ms : List LogMoment). IsPart st asked old (owned d.added) ms verdict) (sym (spoken_among v i m d.added)) d.part);
    tells = λ (rest : List LogMoment).
        ap (λ (ms : List LogMoment). answer_text st asked old verdict (ms ++ rest)) (spoken_among v i m d.added) ∙ d.tells rest;
  }

  module _ (own : Bool) (only : v.alone ≡ true → own ≡ true) (asked : Result Asked TextFault) (before behind : Option (List ShelfAnswer))
      (faults count : ℕ) (old new : Session) where
    abbrev IsStep : Settings → World → List ℕ → Bool → Told → Type 0
    IsStep st w text refused t =
        IsRight st w t × IsDone own st asked w (world_in new l) (verdict_on st t w) i l text refused

    pub step_among : (text : List ℕ) (refused : Bool) → StepsTo own asked before behind faults count old new i l text refused
        → StepsTo v.alone asked before behind faults count old new seen l text refused
    step_among text refused s =
        let t = told asked s.loads s.answer in
        let both : IsStep (settings_in old seen) (world_in old seen) text refused t =
        subst (λ (st : Settings). IsStep st (world_in old seen) text refused t) (same_settings v i m old.limits)
        (subst (λ (w : World). IsStep (settings_in old i) w text refused t) (same_world v i m old) (s.right, s.done)) in
        record {
          loads = s.loads;
          answer = s.answer;
          adds = s.adds;
          cause = s.cause;
          limits = s.limits;
          right = both.0;
          done = done_among own only (settings_in old seen) asked (world_in old seen) (world_in new l)
              (verdict_on (settings_in old seen) t (world_in old seen)) text refused both.1;
          beside = s.beside;
        }

    stayed_among : HasStayed own i l → HasStayed v.alone seen l
    stayed_among h = record {
      added = m.others ++ h.added;
      settings = h.settings ∙ m.settings;
      events = events_among v i m l h.added h.events;
      none_own = own_among v i m h.added ∙ h.none_own;
      none = λ alone. ap₂ (λ (xs ys : List LogEvent). xs ++ ys) (m.none alone) (h.none (only alone));
    }

    short_among : (command : Asked) → IsCutShort own (settings_in old i) command (world_in old i) (world_in new l) i l
        → IsCutShort v.alone (settings_in old seen) command (world_in old seen) (world_in new l) seen l
    short_among command c =
        let is : IsCutShort own (settings_in old seen) command (world_in old seen) (world_in new l) i l =
        subst (λ (st : Settings). IsCutShort own st command (world_in old seen) (world_in new l) i l) (same_settings v i m old.limits)
        (subst (λ (w : World). IsCutShort own (settings_in old i) command w (world_in new l) i l) (same_world v i m old) c) in
        let unfinished : IsUnfinished (owned (m.others ++ is.added)) = subst IsUnfinished (sym (own_among v i m is.added)) is.unfinished in
        record {
          line = is.line;
          passes = is.passes;
          added = m.others ++ is.added;
          settles = is.settles;
          settings = is.settings ∙ m.settings;
          events = events_among v i m l is.added is.events;
          unfinished = unfinished;
          all_own = λ alone. all_among v i m is.added (is.all_own (only alone)) alone;
          few = few_moved (owned is.added) (owned (m.others ++ is.added)) (sym (own_among v i m is.added)) is.unfinished
              (min (passes_of (world_in old seen) is.passes) (length (world_in old seen).grid)) is.few;
          accepted = is.accepted;
        }

    pub stops_among : Stops own asked before behind faults count old new i l → Stops v.alone asked before behind faults count old new seen l
    stops_among (undone h same) = undone (stayed_among h) (same ∙ same_world v i m old)
    stops_among (cut_short command is_command c) = cut_short command is_command (short_among command c)
    stops_among (lost text refused s) = lost text refused (step_among text refused s)

-- memory ran out in one turn
pub of_turn : (asked : Result Asked TextFault) (before behind : Option (List ShelfAnswer)) (faults count : ℕ) (old new : Session) (i l : Log)
    → StopsInTurn asked before behind faults count old new i l → Stops true asked before behind faults count old new i l
of_turn asked before behind faults count old new i l (stays settings events same) =
    undone (record { added = []; settings = settings; events = events ∙ sym (append-nil i.events); none_own = refl; none = λ alone. refl }) same
of_turn asked before behind faults count old new i l (loses text refused s) = lost text refused s

-- ---- the turn as a whole: v is what the pass knew, w what it knows within its turn, and x what it knows then; j is the book that it was given, i the
-- book behind the reference, and l the book after the command

module _ (s t : Session) (v w x : Sight) (i j l : Log) (knows : w ≡ entered v j) (same : i ≡ j) (session : v.session ≡ true) (at : StandsAt s v)
    (learned : Learned v j) (m : Meets v i) (adds : AddsSpoken i l) where
  known_here : w ≡ entered v i
  known_here = knows ∙ ap (entered v) (sym same)

  learned_here : Learned v i
  learned_here = subst (λ (y : Log). Learned v y) (sym same) learned

  new : added i.events l.events ≡ adds.entries
  new = ap (λ (h : List LogEvent). added i.events h) adds.events ∙ added_append i.events adds.entries

  pub may_leave : MayLeave w l
  may_leave = subst (λ (y : Sight). MayLeave y l) (sym known_here) (record {
    holds = refl;
    carries = learned_here.carries ∙ ap (λ (st : BookSettings). Some st) (sym adds.settings);
    extends = (adds.entries, adds.events);
    own =
        subst (λ (h : List LogEvent). AllOwned v.session h) (sym new)
        (subst (λ (own : Bool). AllOwned own adds.entries) (sym session) adds.all_own);
    tickets =
        subst (λ (h : List LogEvent). MayAddAll i.events v.tickets h) (sym new) (spoken_may i.events v.tickets adds.entries adds.spoken);
  })

  module _ (leaves : x ≡ left w l) where
    left_here : x ≡ left (entered v i) l
    left_here = leaves ∙ ap (λ (y : Sight). left y l) known_here

    log_left : log_of (left (entered v i) l) ≡ l
    log_left = ap (λ (st : BookSettings). record { settings = st; events = l.events }) (sym (adds.settings ∙ m.settings))

    pub log_then : log_of x ≡ l
    log_then = ap log_of left_here ∙ log_left

    pub stands_then : IsLegal l → StandsBeside t l → StandsAt t x
    stands_then legal beside = subst (StandsAt t) (sym left_here) (record {
      free = record {
        outside = refl;
        no_ticket = ap (kept_all v.tickets) new ∙ spoken_kept v.tickets adds.entries adds.spoken ∙ at.free.no_ticket;
      };
      carries = at.carries;
      sees =
          ap owned adds.events ∙ owned_append i.events adds.entries
          ∙ ap₂ (λ (h es : List LogEvent). h ++ es) (learned_here.own session) (all_owned adds.entries adds.all_own ∙ sym new);
      legal = subst (λ (st : BookSettings). IsLegal (record { settings = st; events = l.events })) (adds.settings ∙ m.settings) legal;
      stands = subst (StandsBeside t) (sym log_left) beside;
    })

    module _ {E : Type 0} (asked : Result Asked TextFault) (before behind : Option (List ShelfAnswer)) (faults count : ℕ) (r : Result Reply E) where
      pub steps_then : IfOk r (λ (y : Reply). StepsTo true asked before behind faults count s t i l y.lines y.refused)
          → IfOk r (λ (y : Reply). StepsTo v.alone asked before behind faults count s t (log_of v) (log_of x) y.lines y.refused)
      steps_then = by r
        where
          by : (r : Result Reply E) → IfOk r (λ (y : Reply). StepsTo true asked before behind faults count s t i l y.lines y.refused)
              → IfOk r (λ (y : Reply). StepsTo v.alone asked before behind faults count s t (log_of v) (log_of x) y.lines y.refused)
          by (Ok y) p =
              subst (λ (k : Log). StepsTo v.alone asked before behind faults count s t (log_of v) k y.lines y.refused) (sym log_then)
              (step_among v i l m true (λ alone. refl) asked before behind faults count s t y.lines y.refused p)
          by (Err e) p = tt

      pub stops_then : OnErr r (StopsInTurn asked before behind faults count s t i l)
          → OnErr r (Stops v.alone asked before behind faults count s t (log_of v) (log_of x))
      stops_then = by r
        where
          by : (r : Result Reply E) → OnErr r (StopsInTurn asked before behind faults count s t i l)
              → OnErr r (Stops v.alone asked before behind faults count s t (log_of v) (log_of x))
          by (Ok y) p = tt
          by (Err e) p =
              subst (λ (k : Log). Stops v.alone asked before behind faults count s t (log_of v) k) (sym log_then)
              (stops_among v i l m true (λ alone. refl) asked before behind faults count s t (of_turn asked before behind faults count s t i l p))
