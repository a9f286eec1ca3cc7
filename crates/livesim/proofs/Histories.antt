-- What a history has of the commands that were carried out, and of one more.
use Rattle.std.proofs.Common.{◌≡◌, ◌⊎◌, inl, inr, ℕ, Bool, List, [], ◌∷◌, ◌++◌, Option, None, Result, refl, sym, ap, ◌∙◌, subst, append-nil, append_assoc}
use Rattle.book_history.specs.Book.{Closes, Settings as BookSettings}
use Rattle.book_history.specs.Legal.{Legal}
use Rattle.book_history.specs.Moments.{moments_from}
use Rattle.book_history.specs.Owned.{owned}
use Rattle.book_history.proofs.Places.{moments-append}
use Rattle.segment_verify.specs.Passes.{IsUnfinished}
use Rattle.book_history.proofs.Owned.{owned_append}
use Rattle.command_read.specs.Asking.{Asked}
use Rattle.ls_text.specs.Readings.{TextFault}
use Rattle.live_session.specs.Done.{IsDone}
use Rattle.live_session.specs.Judging.{after, verdict_on, world_after}
use Rattle.live_session.specs.Logs.{IsLegal, Log, LogEvent, LogMoment, book_in, kit, moments_after, moments_of, valid}
use Rattle.live_session.specs.Replies.{lines, text_then}
use Rattle.live_session.specs.Scripts.{IsScript}
use Rattle.live_session.specs.Settings.{Settings}
use Rattle.live_session.specs.Verdicts.{Told}
use Rattle.live_session.specs.Worlds.{World, fresh}
use Rattle.live_session.proofs.SharedSettles.{AreQuiet, unfinished_quiet, unspoken_among}
use Rattle.livesim.specs.Histories.{EndsFrom}
use Rattle.livesim.specs.Runs.{HasEntries, all_entries, unfinished_settle, no_entries, HasSettings, IsCut}
use Rattle.livesim.proofs.Steps.{after-append, script-append}

-- These commands are carried out, and these are their lines: whatever commands and entries come behind, the lines of all are these and then those of
-- what comes behind.
pub record IsRecorded (st : Settings) (j : Log) (told : List Told) (text : List ℕ) : Type 0 where
  pub has : HasSettings st j
  pub script : IsScript st told fresh (owned j.events) (moments_of j)
  pub tells : (ts : List Told) (ms : List LogMoment) → lines st (told ++ ts) fresh (moments_of j ++ ms) ≡ text ++ lines st ts (world_after st told fresh) ms

-- before the first
pub none_recorded : (st : Settings) (j : Log) → HasSettings st j → j.events ≡ [] → IsRecorded st j [] []
none_recorded st j has blank = record {
  has = has;
  script = (ap (λ (es : List LogEvent). owned es) blank, ap (λ (es : List LogEvent). moments_from kit j.settings None es) blank);
  tells = λ ts ms. ap (λ (es : List LogEvent). lines st ts fresh (moments_from kit j.settings None es ++ ms)) blank;
}

pub settings_kept : (st : Settings) (j k : Log) → k.settings ≡ j.settings → HasSettings st j → HasSettings st k
settings_kept st j k same has = (
  ap (λ (s : BookSettings). s.interval) same ∙ has.0,
  ap (λ (s : BookSettings). s.lookback) same ∙ has.1,
  ap (λ (s : BookSettings). s.rooms.session) same ∙ has.2,
  ap (λ (s : BookSettings). s.rooms.workers) same ∙ has.3,
)

-- the commands' own entries of a history that has grown
pub moments_behind : (j k : Log) (own : List LogEvent) → k.settings ≡ j.settings → k.events ≡ j.events ++ own → moments_of k ≡ moments_of j ++ moments_after j own
moments_behind j k own same events =
    ap (λ (es : List LogEvent). moments_from kit k.settings None es) events
    ∙ ap (λ (s : BookSettings). moments_from kit s None (j.events ++ own)) same
    ∙ moments-append kit j.settings None j.events own

-- what comes behind them when the book is closed is none of them
module _ (now h : Log) (e : EndsFrom now h) where
  pub moments_ended : moments_of h ≡ moments_of now
  moments_ended =
      moments_behind now h e.rest e.settings e.events
      ∙ ap (λ (ms : List LogMoment). moments_of now ++ ms)
      (unspoken_among now.settings (book_in now) e.rest (subst AreQuiet (sym e.closes) (refl, tt)))
      ∙ append-nil (moments_of now)

  pub owned_ended : owned h.events ≡ owned now.events ++ Closes ∷ []
  owned_ended =
      ap owned e.events ∙ owned_append now.events e.rest ∙ ap (λ (es : List LogEvent). owned now.events ++ es) e.closes

-- one more
module _ (alone : Bool) (st : Settings) (j k : Log) (told : List Told) (t : Told) (text more : List ℕ) (new : World) (refused : Bool) (d : IsRecorded st j told text)
    (p : IsDone alone st t.asked (world_after st told fresh) new (verdict_on st t (world_after st told fresh)) j k more refused) where
  abbrev here : World
  here = world_after st told fresh

  moments_more : moments_of k ≡ moments_of j ++ moments_after j p.added
  moments_more = moments_behind j k p.added p.settings p.events

  lines_more : (ts : List Told) (ms : List LogMoment)
      → lines st ((told ++ t ∷ []) ++ ts) fresh (moments_of k ++ ms) ≡ (text ++ more) ++ lines st ts (world_after st (told ++ t ∷ []) fresh) ms
  lines_more ts ms =
      ap (λ (x : List Told). lines st x fresh (moments_of k ++ ms)) (append_assoc told (t ∷ []) ts)
      ∙ ap (λ (x : List LogMoment). lines st (told ++ t ∷ ts) fresh (x ++ ms)) moments_more
      ∙ ap (λ (x : List LogMoment). lines st (told ++ t ∷ ts) fresh x) (append_assoc (moments_of j) (moments_after j p.added) ms)
      ∙ d.tells (t ∷ ts) (moments_after j p.added ++ ms)
      ∙ ap (λ (x : Option (List ℕ × List LogMoment)). text ++ text_then x (λ (rest : List LogMoment). lines st ts (after st t here) rest)) (p.tells ms)
      ∙ sym (append_assoc text more (lines st ts (after st t here) ms))
      ∙ ap (λ (w : World). (text ++ more) ++ lines st ts w ms) (sym (after-append st told (t ∷ []) fresh))

  pub more_recorded : IsRecorded st k (told ++ t ∷ []) (text ++ more)
  more_recorded = record {
    has = settings_kept st j k p.settings d.has;
    script = subst (λ (es : List LogEvent). IsScript st (told ++ t ∷ []) fresh es (moments_of k))
        (sym (ap (λ (es : List LogEvent). owned es) p.events ∙ owned_append j.events p.added))
        (subst (λ (ms : List LogMoment). IsScript st (told ++ t ∷ []) fresh (owned j.events ++ owned p.added) ms) (sym moments_more)
        (script-append st told (owned j.events) (owned p.added) (moments_of j) (moments_after j p.added) t fresh d.script p.part));
    tells = lines_more;
  }

-- where only others' entries have come behind them
pub stayed_recorded : (st : Settings) (j k : Log) (told : List Told) (text : List ℕ) (added : List LogEvent) → k.settings ≡ j.settings
    → k.events ≡ j.events ++ added → owned added ≡ [] → IsRecorded st j told text → IsRecorded st k told text
stayed_recorded st j k told text added same events none d =
    let moments : moments_of k ≡ moments_of j = moments_behind j k added same events
    ∙ ap (λ (ms : List LogMoment). moments_of j ++ ms) (unspoken_among j.settings (book_in j) added (subst AreQuiet (sym none) tt))
    ∙ append-nil (moments_of j) in
    let its_own : owned k.events ≡ owned j.events = ap owned events ∙ owned_append j.events added
    ∙ ap (λ (es : List LogEvent). owned j.events ++ es) none ∙ append-nil (owned j.events) in
    record {
      has = settings_kept st j k same d.has;
      script = subst (λ (es : List LogEvent). IsScript st told fresh es (moments_of k)) (sym its_own)
          (subst (λ (ms : List LogMoment). IsScript st told fresh (owned j.events) ms) (sym moments) d.script);
      tells = λ ts ms. ap (λ (x : List LogMoment). lines st (told ++ ts) fresh (x ++ ms)) moments ∙ d.tells ts ms;
    }

-- the lines of these commands at their places, whatever comes behind
pub lines_with : (st : Settings) (j : Log) (told : List Told) (text : List ℕ) (ms : List LogMoment) → IsRecorded st j told text
    → lines st told fresh (moments_of j ++ ms) ≡ text
lines_with st j told text ms d =
    ap (λ (x : List Told). lines st x fresh (moments_of j ++ ms)) (sym (append-nil told)) ∙ d.tells [] ms ∙ append-nil text

lines_recorded : (st : Settings) (j : Log) (told : List Told) (text : List ℕ) → IsRecorded st j told text → lines st told fresh (moments_of j) ≡ text
lines_recorded st j told text d =
    ap (λ (ms : List LogMoment). lines st told fresh ms) (sym (append-nil (moments_of j))) ∙ lines_with st j told text [] d

-- ---- the history of a run

pub record IsHistory (st : Settings) (told : List Told) (rest : List (Result Asked TextFault)) (status : ℕ) (text : List ℕ) (h : Log) : Type 0 where
  pub has : HasSettings st h ⊎ ((status ≡ 5) × (h.events ≡ []))
  pub legal : IsLegal h
  pub entries : HasEntries st told rest status (owned h.events) (moments_of h)
  pub tells : lines st told fresh (moments_of h) ≡ text

-- behind these commands it was closed
pub ended_history : (st : Settings) (j h : Log) → EndsFrom j h → (told : List Told) (rest : List (Result Asked TextFault)) (text : List ℕ) (status : ℕ)
    → IsRecorded st j told text → IsLegal h → IsHistory st told rest status text h
ended_history st j h e told rest text status d legal = record {
  has = inl (settings_kept st j h e.settings d.has);
  legal = legal;
  entries = all_entries (owned j.events) (owned_ended j h e)
      (subst (λ (ms : List LogMoment). IsScript st told fresh (owned j.events) ms) (sym (moments_ended j h e)) d.script);
  tells = ap (λ (ms : List LogMoment). lines st told fresh ms) (moments_ended j h e) ∙ lines_recorded st j told text d;
}

-- behind them memory ran out in a settle, and then it was closed
pub unfinished_history : (st : Settings) (j k h : Log) → EndsFrom k h → (told : List Told) (rest : List (Result Asked TextFault)) (text : List ℕ) (status : ℕ)
    (added : List LogEvent) → status ≡ 5 → IsRecorded st j told text → k.settings ≡ j.settings → k.events ≡ j.events ++ added
    → (unfinished : IsUnfinished (owned added)) → IsCut st (world_after st told fresh) unfinished.count rest → IsLegal h
    → IsHistory st told rest status text h
unfinished_history st j k h e told rest text status added five d same events unfinished cut legal =
    let none : moments_after j added ≡ [] =
    unspoken_among j.settings (book_in j) added (unfinished_quiet (owned added) unfinished) in
    let moments : moments_of h ≡ moments_of j = moments_ended k h e ∙ moments_behind j k added same events
    ∙ ap (λ (ms : List LogMoment). moments_of j ++ ms) none ∙ append-nil (moments_of j) in
    let its_own : owned k.events ≡ owned j.events ++ owned added = ap owned events ∙ owned_append j.events added in
    record {
      has = inl (settings_kept st j h (e.settings ∙ same) d.has);
      legal = legal;
      entries = unfinished_settle (owned j.events) (owned added) five
          (owned_ended k h e ∙ ap (λ (es : List LogEvent). es ++ Closes ∷ []) its_own
          ∙ append_assoc (owned j.events) (owned added) (Closes ∷ []))
          (subst (λ (ms : List LogMoment). IsScript st told fresh (owned j.events) ms) (sym moments) d.script) unfinished cut;
      tells = ap (λ (ms : List LogMoment). lines st told fresh ms) moments ∙ lines_recorded st j told text d;
    }

-- there is no entry
pub nothing_history : (st : Settings) (rest : List (Result Asked TextFault)) (h : Log) → h.events ≡ [] → IsHistory st [] rest 5 [] h
nothing_history st rest h blank = record {
  has = inr (refl, blank);
  legal = subst (λ (es : List LogEvent). Legal kit valid h.settings es) (sym blank) (record { follows = tt; in_rooms = tt });
  entries = no_entries refl (ap (λ (es : List LogEvent). owned es) blank) refl;
  tells = refl;
}

-- what comes next still does where more commands come behind
pub entries_further : (st : Settings) (told : List Told) (rest more next : List (Result Asked TextFault)) (status : ℕ) (own : List LogEvent)
    (moments : List LogMoment) → next ≡ rest ++ more → HasEntries st told rest status own moments → HasEntries st told next status own moments
entries_further st told rest more next status own moments is (all_entries entries all script) = all_entries entries all script
entries_further st told rest more next status own moments is (unfinished_settle entries passes five all script unfinished cut) =
    unfinished_settle entries passes five all script unfinished
    (record {
      line = cut.line;
      passes = cut.passes;
      later = cut.later ++ more;
      settles = is ∙ ap (λ (r : List (Result Asked TextFault)). r ++ more) cut.settles;
      behind = cut.behind;
      accepted = cut.accepted;
      few = cut.few;
    })
entries_further st told rest more next status own moments is (no_entries five none nothing) = no_entries five none nothing
