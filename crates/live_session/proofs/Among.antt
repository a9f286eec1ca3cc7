-- A session beside a book to which others added entries since its pass last saw it.
use Rattle.std.proofs.Common.{◌≡◌, ◌∙◌, Bool, true, false, cond, List, [], ◌∷◌, ◌++◌, Option, None, refl, sym, ap, ap₂, subst, true≢false, arith, append_assoc, append-nil}
use Rattle.ls_text.proofs.Lists.{none_behind}
use Rattle.book_history.specs.Book.{Book, Settings as BookSettings, apply, replay, replay_from}
use Rattle.book_history.specs.Kind.{Kind, SessionsOwn, DrawsTicket, UsesTicket, EndsClaims, kind_of}
use Rattle.book_history.specs.Moments.{is_spoken, is_spoken_kind, moments_from}
use Rattle.book_history.specs.Outline.{Outline, blank, outline_from}
use Rattle.book_history.specs.Owned.{AllOwned, is_of_session, is_owned, owned}
use Rattle.book_history.specs.Rooms.{count_all, no_entry}
use Rattle.book_history.proofs.Outlines.{legal_outline, owned_counts}
use Rattle.book_history.proofs.Places.{moments-append, replay-append}
use Rattle.book_turn.specs.Rule.{Learned}
use Rattle.book_history.proofs.Owned.{owned_append}
use Rattle.cycle_eval.specs.declared.design.Design.{Design}
use Rattle.live_session.specs.AtTurn.{Sight, StandsAt, carried_settings, log_of}
use Rattle.live_session.specs.Beside.{IsOutlined, Stands, StandsBeside, settings_by, world_in}
use Rattle.live_session.specs.Logs.{InputRow, IsLegal, Log, LogEvent, LogMoment, State, kit, marks_of, moments_after, outline_of, valid}
use Rattle.live_session.specs.Sessions.{limits_of, world}
use Rattle.live_session.specs.declared.limits.Limits.{Limits}
use Rattle.live_session.specs.declared.running.Running.{Running}
use Rattle.live_session.specs.declared.session.Session.{Session}

-- ---- entries of others

abbrev is_some_entry : List LogEvent → Bool
is_some_entry [] = false
is_some_entry (z ∷ zs) = true

quiet : (k : Kind) → is_of_session k ≡ false → is_spoken_kind k ≡ false
quiet SessionsOwn h = absurd (true≢false h)
quiet (DrawsTicket n by) h = refl
quiet (UsesTicket n by) h = refl
quiet EndsClaims h = absurd (true≢false h)

pub quiet_entry : (e : LogEvent) → is_owned e ≡ false → is_spoken e ≡ false
quiet_entry e other = quiet (kind_of e) other

-- none of them is a command's own
pub unspoken : (st : BookSettings) (b : Option (Book Design State InputRow)) (zs : List LogEvent) → owned zs ≡ [] → moments_from kit st b zs ≡ []
unspoken st b [] h = refl
unspoken st b (z ∷ zs) h = go (is_owned z) refl h (λ e. unspoken st (apply kit st b z) zs e)
  where
    silent : (spoken : Bool) → spoken ≡ false → (ms : List LogMoment) → ms ≡ []
        → cond spoken (record { entry = z; book = b } ∷ ms) ms ≡ []
    silent true e ms none = absurd (true≢false e)
    silent false e ms none = none

    go : (own : Bool) → is_owned z ≡ own → cond own (z ∷ owned zs) (owned zs) ≡ []
        → (owned zs ≡ [] → moments_from kit st (apply kit st b z) zs ≡ []) → moments_from kit st b (z ∷ zs) ≡ []
    go true is e more = absurd (true≢false (ap (λ (xs : List LogEvent). is_some_entry xs) e))
    go false is e more =
        silent (is_spoken z) (quiet_entry z is) (moments_from kit st (apply kit st b z) zs) (more e)

-- ---- a book that its pass has seen, and then entries of others

pub record Meets (v : Sight) (i : Log) : Type 0 where
  pub others : List LogEvent
  pub settings : i.settings ≡ (log_of v).settings
  pub events : i.events ≡ v.seen ++ others
  pub unowned : owned others ≡ []
  pub none : v.alone ≡ true → others ≡ []
  pub legal : IsLegal i
  pub seen_legal : IsLegal (log_of v)

-- the book that it is given
pub meets : (s : Session) (v : Sight) (i j : Log) → i ≡ j → Learned v j → v.session ≡ true → StandsAt s v → IsLegal i → Meets v i
meets s v i j same learned session at legal =
    let known : Learned v i = subst (λ (x : Log). Learned v x) (sym same) learned in
    let zs = known.begins.0 in
    let events : i.events ≡ v.seen ++ zs = known.begins.1 in
    record {
      others = zs;
      settings = sym (ap carried_settings known.carries);
      events = events;
      unowned =
          none_behind (owned v.seen) (owned zs)
          (sym (owned_append v.seen zs) ∙ ap (λ (h : List LogEvent). owned h) (sym events) ∙ known.own session ∙ sym at.sees);
      none = λ alone. none_behind v.seen zs (sym events ∙ known.whole alone);
      legal = legal;
      seen_legal = at.legal;
    }

module _ (v : Sight) (i : Log) (m : Meets v i) where
  abbrev was : Log
  was = log_of v

  pub same_owned : owned i.events ≡ owned v.seen
  same_owned =
      ap (λ (h : List LogEvent). owned h) m.events ∙ owned_append v.seen m.others ∙ ap (λ (h : List LogEvent). owned v.seen ++ h) m.unowned
      ∙ append-nil (owned v.seen)

  pub same_outline : outline_of i ≡ outline_of was
  same_outline =
      legal_outline kit valid i.settings i.events m.legal
      ∙ ap₂ (λ (st : BookSettings) (h : List LogEvent). outline_from st blank h) m.settings same_owned
      ∙ sym (legal_outline kit valid was.settings v.seen m.seen_legal)

  pub same_marks : marks_of i ≡ marks_of was
  same_marks = ap (λ (o : Outline Design InputRow). o.marks) same_outline

  same_session : (count_all no_entry i.events).session ≡ (count_all no_entry v.seen).session
  same_session =
      (owned_counts no_entry no_entry i.events refl refl).0
      ∙ ap (λ (h : List LogEvent). (count_all no_entry h).session) same_owned
      ∙ sym (owned_counts no_entry no_entry v.seen refl refl).0

  same_closed : (count_all no_entry i.events).closed ≡ (count_all no_entry v.seen).closed
  same_closed =
      (owned_counts no_entry no_entry i.events refl refl).1
      ∙ ap (λ (h : List LogEvent). (count_all no_entry h).closed) same_owned
      ∙ sym (owned_counts no_entry no_entry v.seen refl refl).1

  stands_there : (limits : Limits) (running : Option Running) → Stands limits running was → Stands limits running i
  stands_there limits running stands = record {
    outline = subst (IsOutlined running) (sym same_outline) stands.outline;
    still_open = same_closed ∙ stands.still_open;
    charged = omega (arith, same_session, stands.charged);
    rooms = ap (λ (st : BookSettings). st.rooms) m.settings ∙ stands.rooms;
  }

  -- the session stands beside it as before
  pub beside_there : (s : Session) → StandsBeside s was → StandsBeside s i
  beside_there s beside = record { stands = stands_there (limits_of s) s.running beside.stands; held = beside.held }

  pub same_settings : (limits : Limits) → settings_by limits i ≡ settings_by limits was
  same_settings limits = ap (λ (st : BookSettings). settings_by limits (record { settings = st; events = [] })) m.settings

  pub same_world : (s : Session) → world_in s i ≡ world_in s was
  same_world s = ap (world s) same_marks

  -- what comes behind these entries, told of what the pass had seen
  pub own_among : (es : List LogEvent) → owned (m.others ++ es) ≡ owned es
  own_among es = owned_append m.others es ∙ ap (λ (h : List LogEvent). h ++ owned es) m.unowned

  pub spoken_among : (es : List LogEvent) → moments_after was (m.others ++ es) ≡ moments_after i es
  spoken_among es =
      let st = was.settings in
      let b = replay kit st v.seen in
      moments-append kit st b m.others es
      ∙ ap (λ (ms : List LogMoment). ms ++ moments_from kit st (replay_from kit st b m.others) es) (unspoken st b m.others m.unowned)
      ∙ ap (λ (c : Option (Book Design State InputRow)). moments_from kit st c es) (sym (replay-append kit st None v.seen m.others))
      ∙ ap₂ (λ (x : BookSettings) (h : List LogEvent). moments_from kit x (replay kit x h) es) (sym m.settings) (sym m.events)

  pub all_among : (es : List LogEvent) → AllOwned true es → v.alone ≡ true → AllOwned true (m.others ++ es)
  all_among es all alone = subst (λ (zs : List LogEvent). AllOwned true (zs ++ es)) (sym (m.none alone)) all

  pub events_among : (is : Log) (es : List LogEvent) → is.events ≡ i.events ++ es → is.events ≡ v.seen ++ (m.others ++ es)
  events_among is es adds = adds ∙ ap (λ (h : List LogEvent). h ++ es) m.events ∙ append_assoc v.seen m.others es
