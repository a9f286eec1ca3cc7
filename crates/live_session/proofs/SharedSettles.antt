-- A settle in turns of the book, told of what the pass had seen before it: its entries stand among those of others.
use Rattle.std.proofs.Common.{◌≡◌, ◌∙◌, ℕ, Bool, true, false, cond, List, [], ◌∷◌, ◌++◌, drop, Option, None, refl, sym, ap, ap₂, subst, true≢false, append_assoc}
use Rattle.book_history.specs.Book.{Book, Settings as BookSettings, Claims, Installs, Shows as ShowsEvent, apply, replay, replay_from}
use Rattle.book_history.specs.Moments.{is_spoken, moments_from}
use Rattle.book_history.specs.Outline.{blank, outline_from, outline_in}
use Rattle.book_history.specs.Owned.{added, is_owned, owned}
use Rattle.book_history.specs.declared.who.Who.TheVariants.{Session as SessionWho}
use Rattle.book_history.proofs.Outlines.{legal_outline, outline-append}
use Rattle.book_history.proofs.Places.{moments-append, replay-append}
use Rattle.book_history.proofs.Prefixes.{legal_first}
use Rattle.segment_verify.proofs.Counting.{passes_outline}
use Rattle.segment_verify.specs.Passes.{ArePasses, IsGivenUp, IsSettle, IsUnfinished, no_pass, no_ticket, one_more, one_ticket}
use Rattle.book_history.proofs.Owned.{owned_append}
use Rattle.book_turn.proofs.Histories.{added_append}
use Rattle.book_turn.specs.Turns.{HasAdded}
use Rattle.cycle_eval.specs.declared.design.Design.{Design}
use Rattle.live_session.specs.AtTurn.{Sight, StandsAt, carried_settings, log_of}
use Rattle.live_session.specs.Logs.{InputRow, IsLegal, Log, LogEvent, LogMoment, State, kit, moments_after, outline_of, valid}
use Rattle.live_session.specs.declared.session.Session.{Session}
use Rattle.live_session.proofs.Among.{quiet_entry}

abbrev has_none : List LogEvent → Bool
has_none [] = true
has_none (x ∷ xs) = false

pub cancel : (xs ys zs : List LogEvent) → xs ++ ys ≡ xs ++ zs → ys ≡ zs
cancel xs ys zs same = sym (added_append xs ys) ∙ ap (added xs) same ∙ added_append xs zs

-- ---- own entries among others

-- where one entry of the session stands among these
pub record IsAmong (zs ps : List LogEvent) (e : LogEvent) : Type 0 where
  pub front : List LogEvent
  pub back : List LogEvent
  pub split : zs ≡ front ++ e ∷ back
  pub before : owned front ≡ ps
  pub behind : owned back ≡ []

abbrev head_or : LogEvent → List LogEvent → LogEvent
head_or e [] = e
head_or e (x ∷ xs) = x

-- the last of them
pub last_among : (zs ps : List LogEvent) (e : LogEvent) → owned zs ≡ ps ++ e ∷ [] → IsAmong zs ps e
last_among [] [] e is = absurd (true≢false (ap has_none is))
last_among [] (p ∷ ps) e is = absurd (true≢false (ap has_none is))
last_among (z ∷ zs) ps e is = by (is_owned z) refl ps is (λ (qs : List LogEvent) (here : owned zs ≡ qs ++ e ∷ []). last_among zs qs e here)
  where
    with_front : (front : List LogEvent) (own : Bool) → is_owned z ≡ own → owned (z ∷ front) ≡ cond own (z ∷ owned front) (owned front)
    with_front front own is = ap (λ (b : Bool). cond b (z ∷ owned front) (owned front)) is

    by : (own : Bool) → is_owned z ≡ own → (ps : List LogEvent) → cond own (z ∷ owned zs) (owned zs) ≡ ps ++ e ∷ []
        → ((qs : List LogEvent) → owned zs ≡ qs ++ e ∷ [] → IsAmong zs qs e) → IsAmong (z ∷ zs) ps e
    by false other ps is more =
        let m = more ps is in
        record {
          front = z ∷ m.front;
          back = m.back;
          split = ap (λ (xs : List LogEvent). z ∷ xs) m.split;
          before = with_front m.front false other ∙ m.before;
          behind = m.behind;
        }
    by true own [] is more = record {
      front = [];
      back = zs;
      split = ap (λ (x : LogEvent). x ∷ zs) (ap (head_or z) is);
      before = refl;
      behind = ap (drop 1) is;
    }
    by true own (p ∷ ps) is more =
        let m = more ps (ap (drop 1) is) in
        record {
          front = z ∷ m.front;
          back = m.back;
          split = ap (λ (xs : List LogEvent). z ∷ xs) m.split;
          before = with_front m.front true own ∙ ap₂ (λ (x : LogEvent) (xs : List LogEvent). x ∷ xs) (ap (head_or z) is) m.before;
          behind = m.behind;
        }

-- entries of which the session's own have no moment
abbrev pub AreQuiet : List LogEvent → Type 0
AreQuiet [] = Unit {0}
AreQuiet (e ∷ es) = (is_spoken e ≡ false) × AreQuiet es

quiet-append : (xs ys : List LogEvent) → AreQuiet xs → AreQuiet ys → AreQuiet (xs ++ ys)
quiet-append [] ys front back = back
quiet-append (x ∷ xs) ys front back = (front.0, quiet-append xs ys front.1 back)

passes_quiet : (n : ℕ) (es : List LogEvent) → ArePasses n es → AreQuiet es
passes_quiet n es no_pass = tt
passes_quiet n es (one_more m k t a b j fs are is) =
    quiet-append fs (Claims t a b SessionWho ∷ Installs t j SessionWho ∷ []) (passes_quiet m fs are) (refl, (refl, tt))

given_up_quiet : (es : List LogEvent) → IsGivenUp es → AreQuiet es
given_up_quiet es no_ticket = tt
given_up_quiet es (one_ticket t a b) = (refl, (refl, tt))

pub unfinished_quiet : (es : List LogEvent) → IsUnfinished es → AreQuiet es
unfinished_quiet es u =
    subst AreQuiet (sym u.split) (quiet-append u.passes u.last (passes_quiet u.count u.passes u.are) (given_up_quiet u.last u.gave_up))

pub unspoken_among : (st : BookSettings) (b : Option (Book Design State InputRow)) (zs : List LogEvent) → AreQuiet (owned zs)
    → moments_from kit st b zs ≡ []
unspoken_among st b [] all = refl
unspoken_among st b (z ∷ zs) all = by (is_owned z) refl all (unspoken_among st (apply kit st b z) zs)
  where
    silent : (spoken : Bool) → spoken ≡ false → (ms : List LogMoment) → ms ≡ [] → cond spoken (record { entry = z; book = b } ∷ ms) ms ≡ []
    silent true e ms none = absurd (true≢false e)
    silent false e ms none = none

    by : (own : Bool) → is_owned z ≡ own → AreQuiet (cond own (z ∷ owned zs) (owned zs))
        → (AreQuiet (owned zs) → moments_from kit st (apply kit st b z) zs ≡ []) → moments_from kit st b (z ∷ zs) ≡ []
    by true own all more = silent (is_spoken z) all.0 (moments_from kit st (apply kit st b z) zs) (more all.1)
    by false other all more = silent (is_spoken z) (quiet_entry z other) (moments_from kit st (apply kit st b z) zs) (more all)

-- ---- what a pass has added

module _ (s t : Session) (v w : Sight) (es : List LogEvent) (adds : HasAdded es v w) where
  pub settings_same : (log_of w).settings ≡ (log_of v).settings
  settings_same = ap carried_settings adds.settings

  pub events_are : (log_of w).events ≡ (log_of v).events ++ adds.begins.0
  events_are = adds.begins.1

-- the session's own entries among those that it has newly seen
pub owned_of : (s : Session) (v w : Sight) (es : List LogEvent) (adds : HasAdded es v w) → StandsAt s v → owned w.seen ≡ w.own
    → owned adds.begins.0 ≡ es
owned_of s v w es adds before sees =
    cancel (owned v.seen) (owned adds.begins.0) es
    (sym (owned_append v.seen adds.begins.0) ∙ ap owned (sym adds.begins.1) ∙ sees ∙ adds.own
    ∙ ap (λ (h : List LogEvent). h ++ es) (sym before.sees))

module _ (s t : Session) (v w : Sight) (es : List LogEvent) (adds : HasAdded es v w) (before : StandsAt s v) (after : StandsAt t w) where
  abbrev was : Log
  was = log_of v

  abbrev now : Log
  now = log_of w

  abbrev zs : List LogEvent
  zs = adds.begins.0

  -- the session's own among them
  pub owned_are : owned zs ≡ es
  owned_are = owned_of s v w es adds before after.sees

  -- where the session is alone they are all
  pub alone_are : v.alone ≡ true → zs ≡ es
  alone_are alone = cancel v.seen zs es (sym adds.begins.1 ∙ adds.whole alone)

  legal_here : (front back : List LogEvent) → zs ≡ front ++ back → IsLegal (record { settings = was.settings; events = was.events ++ front })
  legal_here front back split =
      legal_first kit was.settings valid (was.events ++ front) back
      (subst (λ (h : List LogEvent). IsLegal (record { settings = was.settings; events = h }))
      (adds.begins.1 ∙ ap (λ (h : List LogEvent). was.events ++ h) split ∙ sym (append_assoc was.events front back))
      (subst (λ (st : BookSettings). IsLegal (record { settings = st; events = now.events })) (settings_same s t v w es adds) after.legal))

  -- a whole settle has one moment, at a book with the outline of that before
  module _ (n links : ℕ) (settle : IsSettle n links es) where
    abbrev pub among : IsAmong zs settle.passes (ShowsEvent settle.answer)
    among = last_among zs settle.passes (ShowsEvent settle.answer) (owned_are ∙ settle.split)

    abbrev pub shown_at : LogMoment
    shown_at = record { entry = ShowsEvent settle.answer; book = replay_from kit was.settings (replay kit was.settings was.events) among.front }

    pub one_moment : moments_after was zs ≡ shown_at ∷ []
    one_moment =
        let st = was.settings in
        let b = replay kit st was.events in
        let m = among in
        let front_quiet : AreQuiet (owned m.front) = subst AreQuiet (sym m.before) (passes_quiet settle.count settle.passes settle.are) in
        let none : moments_from kit st b m.front ≡ [] = unspoken_among st b m.front front_quiet in
        let rest : moments_from kit st (apply kit st (replay_from kit st b m.front) (ShowsEvent settle.answer)) m.back ≡ [] =
        unspoken_among st (apply kit st (replay_from kit st b m.front) (ShowsEvent settle.answer)) m.back (subst AreQuiet (sym m.behind) tt) in
        ap (moments_from kit st b) m.split
        ∙ moments-append kit st b m.front (ShowsEvent settle.answer ∷ m.back)
        ∙ ap₂ (λ (xs ys : List LogMoment). xs ++ shown_at ∷ ys) none rest

    pub same_there : outline_in (shown_at.book) ≡ outline_of was
    same_there =
        let st = was.settings in
        let m = among in
        ap outline_in (sym (replay-append kit st None was.events m.front))
        ∙ legal_outline kit valid st (was.events ++ m.front) (legal_here m.front (ShowsEvent settle.answer ∷ m.back) m.split)
        ∙ ap (outline_from st blank) (owned_append was.events m.front ∙ ap (λ (h : List LogEvent). owned was.events ++ h) m.before)
        ∙ outline-append st blank (owned was.events) settle.passes
        ∙ passes_outline st (outline_from st blank (owned was.events)) settle.count settle.passes settle.are
        ∙ sym (legal_outline kit valid st was.events before.legal)
