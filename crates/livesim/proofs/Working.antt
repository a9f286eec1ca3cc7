-- The history that a book comes back with behind a session's work and its workers.
use Rattle.std.proofs.Common.{◌≡◌, ◌∙◌, ℕ, Bool, true, false, List, [], ◌∷◌, ◌++◌, length, Option, None, sym, ap, subst}
use Rattle.book_history.specs.Book.{Closes}
use Rattle.book_history.specs.Owned.{AllOwned, IsPrefix, owned}
use Rattle.book_turn.specs.Known.{apart_from_splits, begun}
use Rattle.book_turn.specs.Rule.{Learned}
use Rattle.book_history.proofs.Owned.{owned_append}
use Rattle.book_turn.proofs.Histories.{prefix_trans}
use Rattle.book_turn.specs.Turns.{GoesOn, HasAdded}
use Rattle.command_read.specs.Readers.{count_taken, has_ended, left, next_number, stopped}
use Rattle.command_read.specs.declared.reader.Reader.{Reader}
use Rattle.live_session.specs.AtTurn.{Sight, StandsAt, carried_settings, log_of}
use Rattle.live_session.specs.Beside.{StandsBeside}
use Rattle.live_session.specs.Logs.{IsLegal, Log, LogEvent}
use Rattle.live_session.specs.Sessions.{world}
use Rattle.live_session.specs.Worlds.{fresh}
use Rattle.live_session.specs.declared.session.Session.{Session}
use Rattle.live_session.proofs.SharedSettles.{cancel}
use Rattle.live_session.proofs.Standing.{are_owned}
use Rattle.live_session.proofs.StandingAtTurn.{made_at, split_stands}
use Rattle.ls_port.specs.declared.shelf_answer.ShelfAnswer.{ShelfAnswer}
use Rattle.live_options.specs.Words.{OptionsOf}
use Rattle.live_session.specs.Settings.{Settings}
use Rattle.livesim.specs.Histories.{EndsFrom}
use Rattle.livesim.specs.Runs.{HasSettings, Lived}
use Rattle.livesim.specs.Settings.{settings}
use Rattle.livesim.specs.Turns.{HasLimits, Shelves, Sources}
use Rattle.livesim.specs.Working.{IsReadyAt, Sinks, Works}
use Rattle.livesim.proofs.Histories.{settings_kept}
use Rattle.livesim.proofs.Over.{IsLived}

-- ---- a pass that was split

pub ready_split : (s : Session) (r : Reader) (v u : Sight) → apart_from_splits u ≡ apart_from_splits v → IsReadyAt s r v → IsReadyAt s r u
ready_split s r v u same h = record {
  begins = h.begins;
  at = split_stands s v u same h.at;
  blank = ap (λ (x : Sight). x.seen) same ∙ h.blank;
  limits = h.limits;
  left = h.left;
  number = h.number;
  taken = h.taken;
  ended = h.ended;
  going = h.going;
}

-- a session that has changed, as by reading, and stands beside what its pass has seen
pub stands_as : (s t : Session) (v : Sight) → StandsAt s v → StandsBeside t (log_of v) → StandsAt t v
stands_as s t v h beside = record { free = h.free; carries = h.carries; sees = h.sees; legal = h.legal; stands = beside }

-- ---- the end of a run

-- behind the session's work, its close and the joins, the book that comes back goes on from what the session had last seen
module _ (after behind last : Sight) (h : Log) (sees : owned after.seen ≡ after.own) (closed : HasAdded (Closes ∷ []) after behind)
    (own : last.own ≡ behind.own) (settings : last.settings ≡ behind.settings) (begins : IsPrefix behind.seen last.seen)
    (session : last.session ≡ true) (learned : Learned last h) where
  ends_in : IsPrefix after.seen h.events
  ends_in = prefix_trans after.seen behind.seen h.events closed.begins (prefix_trans behind.seen last.seen h.events begins learned.begins)

  pub ends_from : EndsFrom (log_of after) h
  ends_from = record {
    rest = ends_in.0;
    settings = sym (ap carried_settings (sym (settings ∙ closed.settings) ∙ learned.carries));
    events = ends_in.1;
    closes =
        cancel (owned after.seen) (owned ends_in.0) (Closes ∷ [])
        (sym (owned_append after.seen ends_in.0) ∙ ap owned (sym ends_in.1) ∙ learned.own session ∙ own ∙ closed.own
        ∙ ap (λ (es : List LogEvent). es ++ Closes ∷ []) (sym sees));
  }

-- a pass that was split carries the settings that it had
split_settings : (st : Settings) (v u : Sight) → apart_from_splits u ≡ apart_from_splits v → HasSettings st (log_of v) → HasSettings st (log_of u)
split_settings st v u same has =
    settings_kept st (log_of v) (log_of u) (ap (λ (x : Sight). carried_settings x.settings) same) has

-- what the work made of a pass that knew as much
pub works_as : {from to : Sources} {sink sunk : Sinks} {shelf shelved : Shelves} {r : Reader} (v x w y : Sight) (status : ℕ) → v ≡ x → w ≡ y
    → Works from to sink sunk shelf shelved r v w status → Works from to sink sunk shelf shelved r x y status
works_as {from} {to} {sink} {sunk} {shelf} {shelved} {r} v x w y status knew knows works =
    subst (λ (z : Sight). Works from to sink sunk shelf shelved r x z status) knows
    (subst (λ (z : Sight). Works from to sink sunk shelf shelved r z w status) knew works)

-- what a script's work tells, of the history that the book comes back with
pub worked_lived : (o : OptionsOf) (v before after behind last : Sight) (h : Log) (from to : Sources) (sink sunk : Sinks) (shelf shelved : Shelves) (r : Reader)
    (status : ℕ) → HasSettings (settings o) (log_of v) → apart_from_splits before ≡ apart_from_splits v
    → Works from to sink sunk shelf shelved r before after status → HasAdded (Closes ∷ []) after behind → last.own ≡ behind.own
    → last.settings ≡ behind.settings → IsPrefix behind.seen last.seen → last.session ≡ true → Learned last h → IsLegal h
    → IsLived (settings o) from to shelf shelved sink.written sunk.written (count_taken r) status h
worked_lived o v before after behind last h from to sink sunk shelf shelved r status has same works closed own kept begins session learned legal =
    works.lived o h (split_settings (settings o) v before same has)
    (ends_from after behind last h works.sees closed own kept begins session learned) legal

-- and of what references lead to that lead to the same
pub lived_at : (st : Settings) (left_old left_new left_is written_old written_new written_is : Option (List ℕ))
    (answers_old answers_new answers_are : Option (List ShelfAnswer)) (faults_old faults_new faults_are taken count status : ℕ) (h : Log)
    → left_new ≡ left_is → written_new ≡ written_is → answers_new ≡ answers_are → faults_new ≡ faults_are → taken ≡ count
    → (bytes : List ℕ) × (ended : Bool) × (length bytes ≡ count)
    × Lived st left_old left_is written_old written_is answers_old answers_are faults_old faults_are bytes ended status h
    → (bytes : List ℕ) × (ended : Bool) × (length bytes ≡ taken)
    × Lived st left_old left_new written_old written_new answers_old answers_new faults_old faults_new bytes ended status h
lived_at st left_old left_new left_is written_old written_new written_is answers_old answers_new answers_are faults_old faults_new faults_are taken count status h
    left written answers faults took l = (
      l.0,
      l.1,
      l.2 ∙ sym took,
      subst (λ (x : Option (List ℕ)). Lived st left_old x written_old written_new answers_old answers_new faults_old faults_new l.0 l.1 status h) (sym left)
          (subst (λ (x : Option (List ℕ)). Lived st left_old left_is written_old x answers_old answers_new faults_old faults_new l.0 l.1 status h) (sym written)
          (subst (λ (x : Option (List ShelfAnswer)). Lived st left_old left_is written_old written_is answers_old x faults_old faults_new l.0 l.1 status h)
          (sym answers)
          (subst (λ (x : ℕ). Lived st left_old left_is written_old written_is answers_old answers_are faults_old x l.0 l.1 status h) (sym faults) l.3))),
    )

-- where the session was alone from the beginning on, all entries are its own
pub alone_all : (v after last : Sight) (h : Log) → v.seen ≡ [] → v.own ≡ [] → v.alone ≡ true → GoesOn v after → HasAdded (Closes ∷ []) after last
    → owned h.events ≡ last.own → h.events ≡ last.seen → AllOwned true h.events
alone_all v after last h blank none alone goes closed own seen =
    let es : List LogEvent = goes.entries in
    let all_seen : last.seen ≡ es ++ Closes ∷ [] =
    closed.whole (goes.added.alone ∙ alone)
    ∙ ap (λ (xs : List LogEvent). xs ++ Closes ∷ []) (goes.added.whole alone ∙ ap (λ (xs : List LogEvent). xs ++ es) blank) in
    let all_own : last.own ≡ es ++ Closes ∷ [] =
    closed.own ∙ ap (λ (xs : List LogEvent). xs ++ Closes ∷ []) (goes.added.own ∙ ap (λ (xs : List LogEvent). xs ++ es) none) in
    are_owned h.events (own ∙ all_own ∙ sym all_seen ∙ sym seen)

-- ---- the beginning

-- a session without a design, beside a book that was just made
pub made_ready : (s : Session) (r : Reader) (v : Sight) (j : Log) → v ≡ begun j → j.events ≡ [] → StandsBeside s j
    → ((grid : List ℕ) → world s grid ≡ fresh) → HasLimits s → left r ≡ [] → next_number r ≡ 1 → count_taken r ≡ 0 → has_ended r ≡ false
    → stopped r ≡ None → IsReadyAt s r v
made_ready s r v j is blank beside begins limits nothing first none more going = record {
  begins = begins;
  at = made_at s v j is blank beside;
  blank = ap (λ (x : Sight). x.seen) is ∙ blank;
  limits = limits;
  left = nothing;
  number = first;
  taken = none;
  ended = more;
  going = going;
}
