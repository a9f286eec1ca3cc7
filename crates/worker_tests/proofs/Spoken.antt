-- One turn of the session in which it adds commands' own entries alone.
use Rattle.std.proofs.Common.{◌≡◌, ℕ, true, false, List, [], ◌∷◌, ◌++◌, Some, refl, sym, ap, ◌∙◌, subst, append-nil}
use Rattle.book_history.specs.Event.{Event}
use Rattle.book_history.specs.Journal.{Journal}
use Rattle.book_history.specs.Kind.{Kind, SessionsOwn, DrawsTicket, UsesTicket, EndsClaims, kind_of}
use Rattle.book_history.specs.Moments.{is_spoken, is_spoken_kind}
use Rattle.book_history.specs.Owned.{is_of_session, is_owned, AllOwned, added}
use Rattle.book_history.specs.Rooms.{Counts, count, count_kind, count_all, no_entry}
use Rattle.book_history.specs.Tickets.{kept, kept_by, kept_all, MayAdd, MayAddKind, MayAddAll}
use Rattle.book_history.proofs.Prefixes.{count-append}
use Rattle.book_turn.specs.Known.{Known, entered, left}
use Rattle.book_turn.specs.Rule.{MayLeave, Learned}
use Rattle.book_turn.proofs.Histories.{added_append}
use Rattle.checkpoint_book.specs.Views.{counts_of}
use Rattle.segment_verify.specs.Workers.{is_closed, IsFree}
use Rattle.worker_tests.specs.Spoken.{AllSpoken, AddsSpoken}

one_kind : (k : Kind) → is_spoken_kind k ≡ true → k ≡ SessionsOwn
one_kind SessionsOwn p = refl
one_kind (DrawsTicket n by) p = absurd cc
one_kind (UsesTicket n by) p = absurd cc
one_kind EndsClaims p = absurd cc

module _ {D R O : Type 0} where
  pub none_added : (j l : Journal D R O) → l.settings ≡ j.settings → l.events ≡ j.events → AddsSpoken j l
  none_added j l settings events = record { entries = []; spoken = tt; settings = settings; events = events ∙ sym (append-nil j.events) }

  pub one_added : (j l : Journal D R O) (e : Event D R O) → l.settings ≡ j.settings → l.events ≡ j.events ++ e ∷ [] → is_spoken e ≡ true → AddsSpoken j l
  one_added j l e settings events spoken = record { entries = e ∷ []; spoken = (spoken, tt); settings = settings; events = events }

  spoken_kind : (e : Event D R O) → is_spoken e ≡ true → kind_of e ≡ SessionsOwn
  spoken_kind e spoken = one_kind (kind_of e) spoken

  spoken_owned : (e : Event D R O) → is_spoken e ≡ true → is_owned e ≡ true
  spoken_owned e p = ap (λ (k : Kind). is_of_session k) (spoken_kind e p)

  spoken_kept : (e : Event D R O) (ts : List ℕ) → is_spoken e ≡ true → kept ts e ≡ ts
  spoken_kept e ts p = ap (λ (k : Kind). kept_by ts k) (spoken_kind e p)

  spoken_may : (e : Event D R O) (h : List (Event D R O)) (ts : List ℕ) → is_spoken e ≡ true → MayAdd h ts e
  spoken_may e h ts p = subst (λ (k : Kind). MayAddKind h ts k) (sym (spoken_kind e p)) tt

  spoken_open : (e : Event D R O) (n : Counts) → is_spoken e ≡ true → (count n e).closed ≡ n.closed
  spoken_open e n p = ap (λ (k : Kind). (count_kind n k).closed) (spoken_kind e p)

  all_owned : (es : List (Event D R O)) → AllSpoken es → AllOwned true es
  all_owned [] p = tt
  all_owned (e ∷ es) p = (spoken_owned e p.0, all_owned es p.1)

  all_kept : (es : List (Event D R O)) (ts : List ℕ) → AllSpoken es → kept_all ts es ≡ ts
  all_kept [] ts p = refl
  all_kept (e ∷ es) ts p = all_kept es (kept ts e) p.1 ∙ spoken_kept e ts p.0

  all_may : (es h : List (Event D R O)) (ts : List ℕ) → AllSpoken es → MayAddAll h ts es
  all_may [] h ts p = tt
  all_may (e ∷ es) h ts p = (spoken_may e h ts p.0, all_may es (h ++ e ∷ []) (kept ts e) p.1)

  all_open : (es : List (Event D R O)) (n : Counts) → AllSpoken es → (count_all n es).closed ≡ n.closed
  all_open [] n p = refl
  all_open (e ∷ es) n p = all_open es (count n e) p.1 ∙ spoken_open e n p.0

  still_open : (h es : List (Event D R O)) → AllSpoken es → is_closed h ≡ false → is_closed (h ++ es) ≡ false
  still_open h es p open' = ap (λ (x : Counts). x.closed) (count-append no_entry h es) ∙ all_open es (count_all no_entry h) p ∙ open'

  -- v is what the pass knew before it entered, w what it then knows, x what it knows after it has left; j is the book that it
  -- was given, i the book behind the reference, and l the book after the calls
  module _ (v w : Known D R O) (i j l : Journal D R O) (knows : w ≡ entered v j) (same : i ≡ j) (adds : AddsSpoken i l) where
    known_here : w ≡ entered v i
    known_here = knows ∙ ap (λ y. entered v y) (sym same)

    new : added i.events l.events ≡ adds.entries
    new = ap (λ (h : List (Event D R O)). added i.events h) adds.events ∙ added_append i.events adds.entries

    pub spoken_leaves : Learned v j → v.session ≡ true → MayLeave w l
    spoken_leaves learned session = subst (λ (y : Known D R O). MayLeave y l) (sym known_here) (record {
      holds = refl;
      carries = (subst (λ (y : Journal D R O). Learned v y) (sym same) learned).carries ∙ ap Some (sym adds.settings);
      extends = (adds.entries, adds.events);
      own = subst (λ (h : List (Event D R O)). AllOwned v.session h) (sym new) (subst (λ b. AllOwned b adds.entries) (sym session) (all_owned adds.entries adds.spoken));
      tickets = subst (λ (h : List (Event D R O)). MayAddAll i.events v.tickets h) (sym new) (all_may adds.entries i.events v.tickets adds.spoken);
    })

    module _ (x : Known D R O) (leaves : x ≡ left w l) where
      left_here : x ≡ left (entered v i) l
      left_here = leaves ∙ ap (λ (y : Known D R O). left y l) known_here

      pub spoken_free : IsFree v → IsFree x
      spoken_free free =
          subst (λ (y : Known D R O). IsFree y) (sym left_here)
          (record { outside = refl; no_ticket = ap (λ (h : List (Event D R O)). kept_all v.tickets h) new ∙ all_kept adds.entries v.tickets adds.spoken ∙ free.no_ticket })

      pub spoken_still_open : is_closed v.own ≡ false → is_closed x.own ≡ false
      spoken_still_open open' =
          ap (λ (y : Known D R O). is_closed y.own) left_here ∙ ap (λ (h : List (Event D R O)). is_closed (v.own ++ h)) new ∙ still_open v.own adds.entries adds.spoken open'

  pub open_with : (j l : Journal D R O) → AddsSpoken j l → (counts_of j).closed ≡ false → (counts_of l).closed ≡ false
  open_with j l adds open' = ap (λ (h : List (Event D R O)). is_closed h) adds.events ∙ still_open j.events adds.entries adds.spoken open'
