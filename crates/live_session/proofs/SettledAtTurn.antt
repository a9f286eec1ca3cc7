-- A session at its pass before and behind a settle that was charged before.
use Rattle.std.proofs.Common.{◌≡◌, ◌∙◌, ℕ, ◌+◌, ◌*◌, ◌≤◌, min, true, false, List, Option, Some, None, refl, sym, ap, subst, true≢false, arith}
use Rattle.std.specs.Prelude.{IfSome, is_some}
use Rattle.book_history.specs.Book.{Book, Settings as BookSettings}
use Rattle.book_history.specs.declared.rooms.Rooms.{Rooms as BookRooms}
use Rattle.book_history.specs.Owned.{owned}
use Rattle.book_history.specs.Readers.{IsOpened, links_in}
use Rattle.book_history.specs.Rooms.{count_all, no_entry}
use Rattle.book_history.proofs.Outlines.{owned_counts}
use Rattle.book_turn.specs.Turns.{GoesOn, HasAdded}
use Rattle.checkpoint_book.specs.Views.{counts_of}
use Rattle.cycle_eval.specs.declared.design.Design.{Design}
use Rattle.module_registry.specs.Views.{entries_of}
use Rattle.segment_verify.specs.Workers.{IsFree, is_closed}
use Rattle.turn_settle.specs.Seen.{FitRoom, HasOwnRoom, IsLegalUnder, book_seen, book_under}
use Rattle.turn_settle.specs.Settled.{HasSettledBeside, HasTriedBeside}
use Rattle.live_session.specs.AtTurn.{Sight, StandsAt, log_of}
use Rattle.live_session.specs.Beside.{Stands, charge_of, world_in}
use Rattle.live_session.specs.Kept.{IsKept}
use Rattle.live_session.specs.Logs.{InputRow, IsLegal, LogEvent, State, book_in, kit, marks_of, valid}
use Rattle.live_session.specs.declared.limits.Limits.{Limits}
use Rattle.live_session.specs.declared.running.Running.{Running}
use Rattle.live_session.specs.declared.session.Session.{Session}
use Rattle.live_session.proofs.SettledBeside.{charged_by, opened_by, runs_by, settled_stands, tried_stands}
use Rattle.live_session.proofs.SharedSettles.{events_are, owned_of, settings_same}

-- what is charged has room
kept_room : (names : List (List ℕ)) (limits : Limits) (o : Option Running) → is_some o ≡ true → IfSome o (IsKept names limits)
    → charge_of o ≤ limits.rooms.session
kept_room names limits None some kept = absurd (true≢false (sym some))
kept_room names limits (Some r) some kept = kept.charge

module _ (s : Session) (v : Sight) (at : StandsAt s v) where
  pub book_is : book_seen kit v ≡ book_in (log_of v)
  book_is = ap (λ (o : Option BookSettings). book_under kit o v.seen) at.carries

  own_session : (count_all no_entry v.own).session ≡ (count_all no_entry v.seen).session
  own_session =
      ap (λ (h : List LogEvent). (count_all no_entry h).session) (sym at.sees) ∙ sym (owned_counts no_entry no_entry v.seen refl refl).0

  pub own_open : is_closed v.own ≡ false
  own_open =
      ap (λ (h : List LogEvent). (count_all no_entry h).closed) (sym at.sees) ∙ sym (owned_counts no_entry no_entry v.seen refl refl).1
      ∙ at.stands.stands.still_open

  module _ (opened : is_some (world_in s (log_of v)).design ≡ true) where
    some : is_some s.running ≡ true
    some = runs_by s.names (entries_of s.registry) (marks_of (log_of v)) s.running opened

    pub opened_here : IsOpened (book_seen kit v)
    opened_here = subst IsOpened (sym book_is) (opened_by s.limits s.running (log_of v) some at.stands.stands)

    module _ (passes : ℕ) (charged : (counts_of (log_of v)).session + (2 * min passes (links_in (book_in (log_of v))) + 1)
        ≤ (world_in s (log_of v)).charge) where
      charged_here : (counts_of (log_of v)).session + (2 * min passes (links_in (book_in (log_of v))) + 1) ≤ charge_of s.running
      charged_here =
          subst (λ (n : ℕ). (counts_of (log_of v)).session + (2 * min passes (links_in (book_in (log_of v))) + 1) ≤ n)
          (charged_by s.names (entries_of s.registry) (marks_of (log_of v)) s.running) charged

      pub room_here : HasOwnRoom v (2 * min passes (links_in (book_seen kit v)) + 1)
      room_here =
          let room = kept_room s.names s.limits s.running some s.kept in
          let rooms = ap (λ (st : BookRooms). st.session) at.stands.stands.rooms in
          subst (λ (b : Option (Book Design State InputRow)). HasOwnRoom v (2 * min passes (links_in b) + 1)) (sym book_is)
          (subst (λ (o : Option BookSettings). FitRoom o ((count_all no_entry v.own).session + (2 * min passes (links_in (book_in (log_of v))) + 1)))
          (sym at.carries) (omega (arith, own_session, charged_here, room, rooms)))

      -- behind it
      module _ (w : Sight) (free : IsFree w) (sees : owned w.seen ≡ w.own) (legal : IsLegalUnder kit valid w.settings w.seen) where
        module _ (es : List LogEvent) (adds : HasAdded es v w) where
          carries : w.settings ≡ Some (log_of v).settings
          carries = adds.settings ∙ at.carries

          legal_log : IsLegal (log_of w)
          legal_log =
              subst (λ (st : BookSettings). IsLegal (record { settings = st; events = w.seen })) (sym (settings_same s s v w es adds))
              (subst (λ (o : Option BookSettings). IsLegalUnder kit valid o w.seen) carries legal)

          stands_at : Stands s.limits s.running (log_of w) → StandsAt s w
          stands_at stands = record {
            free = free;
            carries = carries ∙ ap (λ (st : BookSettings). Some st) (sym (settings_same s s v w es adds));
            sees = sees;
            legal = legal_log;
            stands = record { stands = stands; held = at.stands.held };
          }

        pub settled_at : (answer : Option ℕ) → HasSettledBeside kit v w passes answer → StandsAt s w
        settled_at answer h =
            let own = owned_of s v w h.own h.added at sees in
            stands_at h.own h.added
            (settled_stands s.limits (log_of v) (log_of w) (legal_log h.own h.added) h.added.begins.0 h.own
            (record { settings = settings_same s s v w h.own h.added; events = events_are s s v w h.own h.added }) own passes
            (links_in (book_seen kit v)) (ap links_in book_is) s.running some at.stands.stands
            (subst (λ (b : Option (Book Design State InputRow)). (counts_of (log_of v)).session + (2 * min passes (links_in b) + 1) ≤ charge_of s.running)
            (sym book_is) charged_here) h.is_settle h.within)

        pub tried_at : HasTriedBeside v w (min passes (links_in (book_seen kit v))) → StandsAt s w
        tried_at h =
            let own = owned_of s v w h.own h.added at sees in
            stands_at h.own h.added
            (tried_stands s.limits (log_of v) (log_of w) (legal_log h.own h.added) h.added.begins.0 h.own
            (record { settings = settings_same s s v w h.own h.added; events = events_are s s v w h.own h.added }) own passes
            (links_in (book_seen kit v)) (ap links_in book_is) s.running some at.stands.stands
            (subst (λ (b : Option (Book Design State InputRow)). (counts_of (log_of v)).session + (2 * min passes (links_in b) + 1) ≤ charge_of s.running)
            (sym book_is) charged_here) h.unfinished h.few)

-- its own entries are what it added
pub goes_by : (es : List LogEvent) (v w : Sight) → HasAdded es v w → GoesOn v w
goes_by es v w adds = record { entries = es; added = adds }
