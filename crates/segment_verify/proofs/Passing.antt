-- One pass of a settle, and several.
use Rattle.std.proofs.Common.{◌≡◌, ℕ, ◌+◌, ◌*◌, ◌≤◌, ◌<◌, List, [], ◌∷◌, ◌++◌, refl, sym, ◌∙◌, ap, subst, arith, append_assoc, append-nil}
use Rattle.std.specs.Prelude.{Option, None, Bool, true, false}
use Rattle.machine.specs.Kit.{Kit}
use Rattle.book_history.specs.declared.who.Who.TheVariants.{Session}
use Rattle.book_history.specs.Book.{Book, DrawnTicket, Settings, Event, Claims, Installs, Releases, replay}
use Rattle.book_history.specs.Journal.{Journal}
use Rattle.book_history.specs.Law.{AreCalm, lead_in}
use Rattle.book_history.specs.Legal.{Legal}
use Rattle.book_history.specs.Readers.{IsOpened}
use Rattle.book_history.specs.Rooms.{Counts, count_all, no_entry}
use Rattle.book_history.proofs.Places.{replay-append, still_opened}
use Rattle.book_history.proofs.Prefixes.{count-snoc, count-append}
use Rattle.checkpoint_book.specs.Claims.{IsDrawn}
use Rattle.checkpoint_book.specs.Views.{book_of, counts_of, HasSessionRoom, shown_in}
use Rattle.segment_verify.specs.Counted.{with_more}
use Rattle.segment_verify.specs.Passes.{no_pass, one_more, no_ticket, one_ticket}
use Rattle.segment_verify.specs.Rises.{IsRise, HasPassed, HasGivenUp}
use Rattle.segment_verify.specs.Settles.{HasTried}
use Rattle.segment_verify.proofs.Counting.{passes_counts}

module _ {D R O : Type 0} where
  -- the session's claim leaves room for its install
  pub claimed_room : (j k : Journal D R O) (n a b : ℕ) → k.settings ≡ j.settings → k.events ≡ j.events ++ Claims n a b Session ∷ []
      → HasSessionRoom j 2 → HasSessionRoom k 1
  claimed_room j k n a b settings events room =
      omega (
        arith,
        room,
        ap (λ (x : Settings). x.rooms.session) settings,
        ap (λ (x : List (Event D R O)). (count_all no_entry x).session) events,
        ap (λ (x : Counts). x.session) (count-snoc no_entry j.events (Claims n a b Session)),
      )

  pub gave_none : (j k : Journal D R O) → k.events ≡ j.events → HasGivenUp j k
  gave_none j k events = record { entries = []; events = events ∙ sym (append-nil j.events); gave_up = no_ticket }

  pub gave_one : (j m k : Journal D R O) (t n a b : ℕ) → n ≡ t → m.events ≡ j.events ++ Claims t a b Session ∷ []
      → k.events ≡ m.events ++ Releases n Session ∷ [] → HasGivenUp j k
  gave_one j m k t n a b same claimed released =
      record {
        entries = Claims t a b Session ∷ Releases t Session ∷ [];
        events = released
            ∙ ap (λ (i : ℕ). m.events ++ Releases i Session ∷ []) same
            ∙ ap (λ (l : List (Event D R O)). l ++ Releases t Session ∷ []) claimed
            ∙ append_assoc j.events (Claims t a b Session ∷ []) (Releases t Session ∷ []);
        gave_up = one_ticket t a b;
      }

module _ {D S R O : Type 0} (k : Kit D S R O) where
  -- histories with the same settings and entries have the same book
  pub same_book : (old new : Journal D R O) → new.settings ≡ old.settings → new.events ≡ old.events → book_of k new ≡ book_of k old
  same_book old new settings events =
      ap (λ (x : List (Event D R O)). replay k new.settings x) events ∙ ap (λ (x : Settings). replay k x old.events) settings

  pub shown_still : (old new : Journal D R O) → new.settings ≡ old.settings → new.events ≡ old.events → shown_in (book_of k old) ≡ None
      → shown_in (book_of k new) ≡ None
  shown_still old new settings events is = ap (λ (b : Option (Book D S R)). shown_in b) (same_book old new settings events) ∙ is

  pub passed_none : (j old : Journal D R O) → old.settings ≡ j.settings → old.events ≡ j.events → HasPassed k j old 0
  passed_none j old settings events =
      record {
        own = [];
        settings = settings;
        events = events ∙ sym (append-nil j.events);
        are = no_pass;
        leads = omega (arith, ap (λ (b : Option (Book D S R)). lead_in b) (same_book j old settings events));
      }

  pub passed_more : (j old new : Journal D R O) (n m : ℕ) → m ≡ n + 1 → HasPassed k j old n → new.settings ≡ old.settings → IsRise k old new → HasPassed k j new m
  passed_more j old new n m is h settings rise =
      record {
        own = h.own ++ Claims rise.ticket rise.a rise.b Session ∷ Installs rise.ticket rise.joined Session ∷ [];
        settings = settings ∙ h.settings;
        events = rise.events
            ∙ ap (λ (x : List (Event D R O)). x ++ Claims rise.ticket rise.a rise.b Session ∷ Installs rise.ticket rise.joined Session ∷ []) h.events
            ∙ append_assoc j.events h.own (Claims rise.ticket rise.a rise.b Session ∷ Installs rise.ticket rise.joined Session ∷ []);
        are = one_more n m rise.ticket rise.a rise.b rise.joined h.own h.are is;
        leads = omega (arith, is, h.leads, rise.leads);
      }

  pub passed_stop : (j old new : Journal D R O) (n : ℕ) → HasPassed k j old n → new.settings ≡ old.settings → new.events ≡ old.events → HasPassed k j new n
  passed_stop j old new n h settings events =
      record {
        own = h.own;
        settings = settings ∙ h.settings;
        events = events ∙ h.events;
        are = h.are;
        leads = omega (arith, h.leads, ap (λ (b : Option (Book D S R)). lead_in b) (same_book old new settings events));
      }

  pub tried_more : (j old new : Journal D R O) (n most : ℕ) → HasPassed k j old n → n < most → new.settings ≡ old.settings → HasGivenUp old new → HasTried j new most
  tried_more j old new n most h few settings gave =
      record {
        own = h.own ++ gave.entries;
        settings = settings ∙ h.settings;
        events = gave.events ∙ ap (λ (x : List (Event D R O)). x ++ gave.entries) h.events ∙ append_assoc j.events h.own gave.entries;
        unfinished = record { passes = h.own; count = n; last = gave.entries; split = refl; are = h.are; gave_up = gave.gave_up };
        few = few;
      }

  module _ (j m : Journal D R O) (n : ℕ) (h : HasPassed k j m n) where
    passed_counts : counts_of m ≡ with_more (counts_of j) (2 * n)
    passed_counts =
        ap (λ (x : List (Event D R O)). count_all no_entry x) h.events
        ∙ count-append no_entry j.events h.own
        ∙ passes_counts (counts_of j) n h.own h.are

    pub passed_open : (counts_of j).closed ≡ false → (counts_of m).closed ≡ false
    passed_open is = ap (λ (x : Counts). x.closed) passed_counts ∙ is

    pub passed_room : (most left : ℕ) → HasSessionRoom j most → 2 * n + left ≤ most → HasSessionRoom m left
    passed_room most left room le = omega (arith, room, le, ap (λ (x : Counts). x.session) passed_counts, ap (λ (x : Settings). x.rooms.session) h.settings)

    pub passed_opened : IsOpened (book_of k j) → IsOpened (book_of k m)
    passed_opened is =
        let same : book_of k m ≡ replay k j.settings (j.events ++ h.own) =
        ap (λ (x : List (Event D R O)). replay k m.settings x) h.events ∙ ap (λ (x : Settings). replay k x (j.events ++ h.own)) h.settings in
        subst (λ (b : Option (Book D S R)). IsOpened b) (sym (same ∙ replay-append k j.settings None j.events h.own))
        (still_opened k j.settings (book_of k j) h.own is)

  module _ (valid : D → D → O → Type 0) where
    -- what the core law says of a claim of the session and its install
    abbrev pub Settles : Type 0
    Settles = (st : Settings) (xs es ys : List (Event D R O)) (n a b : ℕ) (j : Bool)
        → AreCalm es → Legal k valid st (xs ++ Claims n a b Session ∷ (es ++ Installs n j Session ∷ ys))
        → (j ≡ true) × (lead_in (replay k st xs) + 1 ≤ lead_in (replay k st (xs ++ Claims n a b Session ∷ (es ++ Installs n j Session ∷ []))))

    pub rises : Settles → (old mid new : Journal D R O) (t v : ℕ × DrawnTicket D S R) (j : Bool)
        → mid.settings ≡ old.settings → new.settings ≡ mid.settings
        → IsDrawn k Session old mid t → v ≡ t → new.events ≡ mid.events ++ Installs v.0 j Session ∷ []
        → Legal k valid new.settings new.events → IsRise k old new
    rises settles old mid new t v j settings settings' drawn same events legal =
        let n : v.0 ≡ t.0 = ap (λ (x : ℕ × DrawnTicket D S R). x.0) same in
        let all : new.events ≡ old.events ++ Claims t.0 t.1.a t.1.b Session ∷ Installs t.0 j Session ∷ [] =
        events
        ∙ ap (λ (i : ℕ). mid.events ++ Installs i j Session ∷ []) n
        ∙ ap (λ (x : List (Event D R O)). x ++ Installs t.0 j Session ∷ []) drawn.events
        ∙ append_assoc old.events (Claims t.0 t.1.a t.1.b Session ∷ []) (Installs t.0 j Session ∷ []) in
        let st : new.settings ≡ old.settings = settings' ∙ settings in
        let there : Legal k valid old.settings (old.events ++ Claims t.0 t.1.a t.1.b Session ∷ Installs t.0 j Session ∷ []) =
        subst (λ (x : Settings). Legal k valid x (old.events ++ Claims t.0 t.1.a t.1.b Session ∷ Installs t.0 j Session ∷ [])) st
        (subst (λ (x : List (Event D R O)). Legal k valid new.settings x) all legal) in
        let rise = (settles old.settings old.events [] [] t.0 t.1.a t.1.b j tt there).1 in
        let at_new : lead_in (book_of k new) ≡ lead_in (replay k old.settings (old.events ++ Claims t.0 t.1.a t.1.b Session ∷ Installs t.0 j Session ∷ [])) =
        ap (λ (x : List (Event D R O)). lead_in (replay k new.settings x)) all
        ∙ ap (λ (x : Settings). lead_in (replay k x (old.events ++ Claims t.0 t.1.a t.1.b Session ∷ Installs t.0 j Session ∷ []))) st in
        record { ticket = t.0; a = t.1.a; b = t.1.b; joined = j; events = all; leads = omega (arith, rise, at_new) }
