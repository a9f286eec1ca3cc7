-- What one turn of the session asks of the book, and what it gives.
use Rattle.std.proofs.Common.{◌≡◌, ℕ, ◌+◌, Bool, true, false, List, [], ◌∷◌, ◌++◌, Option, Some, None, Result, Ok, Err, IfOk, OnErr, refl, sym, ap, ◌∙◌, subst, arith, append-nil}
use Rattle.std.specs.Prelude.{IfNone}
use Rattle.ls_text.proofs.Lists.{none_behind}
use Rattle.machine.specs.Kit.{Kit}
use Rattle.book_history.specs.declared.who.Who.TheVariants.{Session}
use Rattle.book_history.specs.Book.{Book, DrawnTicket, Settings, Event, Installs, Shows, replay, replay_from}
use Rattle.book_history.specs.Journal.{Journal}
use Rattle.book_history.specs.Legal.{Legal}
use Rattle.book_history.specs.Owned.{is_owned, owned, added}
use Rattle.book_history.specs.Readers.{IsOpened, links_in}
use Rattle.book_history.specs.Rooms.{count_all, no_entry}
use Rattle.book_history.specs.Tickets.{kept_all, MayAdd}
use Rattle.book_history.proofs.Others.{links_among}
use Rattle.book_history.proofs.Outlines.{owned_counts}
use Rattle.book_history.proofs.Places.{replay-append, still_opened}
use Rattle.book_turn.specs.Known.{Known, entered, left}
use Rattle.book_turn.specs.Rule.{MayLeave, Learned}
use Rattle.book_turn.specs.Turns.{HasAdded}
use Rattle.book_turn.proofs.Callers.{may_leave_one, may_leave_none, tickets_none}
use Rattle.book_history.proofs.Owned.{owned_append}
use Rattle.book_turn.proofs.Histories.{added_append}
use Rattle.book_turn.proofs.Turns.{one_turn}
use Rattle.segment_verify.proofs.Passing.{same_book}
use Rattle.checkpoint_book.specs.Claims.{ClaimIs, claims_nothing}
use Rattle.checkpoint_book.specs.Views.{book_of, counts_of, shown_in, is_none, HasSessionRoom}
use Rattle.segment_verify.specs.Workers.{IsFree}
use Rattle.segment_verify.proofs.Turns.{AddsClaim}
use Rattle.turn_settle.specs.Seen.{book_under, book_seen, IsLegalUnder, FitRoom, HasOwnRoom}
use Rattle.turn_settle.specs.Visits.{IsVisit, HasInstalled, drawn_first, claim_of}

module _ {D R O : Type 0} where
  -- what others have added since
  others_only : (v : Known D R O) (i : Journal D R O) (learned : Learned v i) → v.session ≡ true → owned v.seen ≡ v.own → owned learned.begins.0 ≡ []
  others_only v i learned session own =
      none_behind (owned v.seen) (owned learned.begins.0)
      (sym (owned_append v.seen learned.begins.0) ∙ ap (λ (h : List (Event D R O)). owned h) (sym learned.begins.1) ∙ learned.own session ∙ sym own)

  pub room_now : (v : Known D R O) (i j : Journal D R O) (n : ℕ) → i ≡ j → Learned v j → v.session ≡ true → HasOwnRoom v n → HasSessionRoom i n
  room_now v i j n same learned session room =
      let fits : FitRoom (Some j.settings) ((count_all no_entry v.own).session + n) =
      subst (λ (o : Option Settings). FitRoom o ((count_all no_entry v.own).session + n)) learned.carries room in
      omega (
        arith,
        fits,
        (owned_counts no_entry no_entry j.events refl refl).0,
        ap (λ (h : List (Event D R O)). (count_all no_entry h).session) (learned.own session),
        ap (λ (x : Journal D R O). (counts_of x).session) same,
        ap (λ (x : Journal D R O). x.settings.rooms.session) same,
      )

  -- v is what the pass knew before it entered, w what it then knows, x what it knows after it has left; j is the book that it was
  -- given, i the book behind the reference, and l the book after the call
  module _ (v w : Known D R O) (i j : Journal D R O) (knows : w ≡ entered v j) (same : i ≡ j) (learned : Learned v j) where
    known_here : w ≡ entered v i
    known_here = knows ∙ ap (λ (y : Journal D R O). entered v y) (sym same)

    learned_here : Learned v i
    learned_here = subst (λ (y : Journal D R O). Learned v y) (sym same) learned

    pub may_look : MayLeave w i
    may_look =
        subst (λ (y : Known D R O). MayLeave y i) (sym known_here)
        (may_leave_none (entered v i) i refl learned_here.carries refl)

    pub free_look : (x : Known D R O) → x ≡ left w i → IsFree v → IsFree x
    free_look x leaves free =
        let here : x ≡ left (entered v i) i = leaves ∙ ap (λ (y : Known D R O). left y i) known_here in
        subst (λ (y : Known D R O). IsFree y) (sym here) (record { outside = refl; no_ticket = tickets_none (entered v i) i refl ∙ free.no_ticket })

    pub may_add : (l : Journal D R O) (e : Event D R O) → l.settings ≡ i.settings → l.events ≡ i.events ++ e ∷ [] → v.session ≡ true → is_owned e ≡ true → MayAdd i.events v.tickets e → MayLeave w l
    may_add l e settings events session own may =
        subst (λ (y : Known D R O). MayLeave y l) (sym known_here)
        (may_leave_one (entered v i) l e refl (learned_here.carries ∙ ap Some (sym settings)) events (own ∙ sym session) may)

    pub free_behind : (x : Known D R O) (l : Journal D R O) (es : List (Event D R O)) → x ≡ left w l → l.events ≡ i.events ++ es → IsFree v → kept_all v.tickets es ≡ v.tickets → IsFree x
    free_behind x l es leaves events free keeps =
        let here : x ≡ left (entered v i) l = leaves ∙ ap (λ (y : Known D R O). left y l) known_here in
        let new : added i.events l.events ≡ es = ap (λ (h : List (Event D R O)). added i.events h) events ∙ added_append i.events es in
        subst (λ (y : Known D R O). IsFree y) (sym here)
        (record { outside = refl; no_ticket = ap (λ (fs : List (Event D R O)). kept_all v.tickets fs) new ∙ keeps ∙ free.no_ticket })

module _ {D S R O : Type 0} (k : Kit D S R O) where
  pub opened_now : (v : Known D R O) (i j : Journal D R O) → i ≡ j → Learned v j → IsOpened (book_seen k v) → IsOpened (book_of k i)
  opened_now v i j same learned is =
      let before : IsOpened (replay k j.settings v.seen) = subst (λ (o : Option Settings). IsOpened (book_under k o v.seen)) learned.carries is in
      let after : IsOpened (replay k j.settings (v.seen ++ learned.begins.0)) =
      subst (λ (b : Option (Book D S R)). IsOpened b) (sym (replay-append k j.settings None v.seen learned.begins.0))
      (still_opened k j.settings (replay k j.settings v.seen) learned.begins.0 before) in
      subst (λ (x : Journal D R O). IsOpened (book_of k x)) (sym same)
      (subst (λ (h : List (Event D R O)). IsOpened (replay k j.settings h)) (sym learned.begins.1) after)

  -- the book that the pass has seen when it has left
  pub book_left : (v w x : Known D R O) (i j l : Journal D R O) → w ≡ entered v j → i ≡ j → Learned v j → l.settings ≡ i.settings → x ≡ left w l → book_seen k x ≡ book_of k l
  book_left v w x i j l knows same learned settings leaves =
      let carries : v.settings ≡ Some l.settings = learned.carries ∙ ap (λ (y : Journal D R O). Some y.settings) (sym same) ∙ ap Some (sym settings) in
      ap (λ (y : Known D R O). book_seen k y) (leaves ∙ ap (λ (y : Known D R O). left y l) knows)
      ∙ ap (λ (o : Option Settings). book_under k o l.events) carries

  shows_nothing : (st : Settings) (b : Option (Book D S R)) (answer : Option ℕ) → replay_from k st b (Shows answer ∷ []) ≡ b
  shows_nothing st None answer = refl
  shows_nothing st (Some c) answer = refl

  -- a show leaves the book
  pub shown_behind : (v w x : Known D R O) (i j l : Journal D R O) (answer : Option ℕ) → w ≡ entered v j → i ≡ j → Learned v j → l.settings ≡ i.settings → l.events ≡ i.events ++ Shows answer ∷ []
      → x ≡ left w l → answer ≡ shown_in (book_of k i) → answer ≡ shown_in (book_seen k x)
  shown_behind v w x i j l answer knows same learned settings events leaves is =
      let still : book_of k l ≡ book_of k i =
      ap (λ (h : List (Event D R O)). replay k l.settings h) events
      ∙ ap (λ (st : Settings). replay k st (i.events ++ Shows answer ∷ [])) settings
      ∙ replay-append k i.settings None i.events (Shows answer ∷ [])
      ∙ shows_nothing i.settings (book_of k i) answer in
      is ∙ ap (λ (b : Option (Book D S R)). shown_in b) (sym (book_left v w x i j l knows same learned settings leaves ∙ still))

  -- the session's claim

  pub asked : {E : Type 0} (j l : Journal D R O) (r : Result (Option (ℕ × DrawnTicket D S R)) E) → IfOk r (λ o. ClaimIs k Session j l o)
      → OnErr r ((l.events ≡ j.events) × (claims_nothing k Session j ≡ false)) → AddsClaim k Session j l (drawn_first r)
  asked j l (Ok None) ok err = ok.0
  asked j l (Ok (Some t)) ok err = ok.0
  asked j l (Err e) ok err = err.0

  pub claim_adds : (j l : Journal D R O) (o : Option (ℕ × DrawnTicket D S R)) → AddsClaim k Session j l o → l.events ≡ j.events ++ claim_of o
  claim_adds j l None adds = adds ∙ sym (append-nil j.events)
  claim_adds j l (Some t) adds = adds.events

  pub claim_owned : (o : Option (ℕ × DrawnTicket D S R)) → owned (claim_of {D = D} {S = S} {R = R} {O = O} o) ≡ claim_of o
  claim_owned None = refl
  claim_owned (Some t) = refl

  none_from : (o : Option ℕ) → true ≡ is_none o → o ≡ None
  none_from None is = refl
  none_from (Some n) is = absurd cc

  -- where none was drawn all links are joined
  pub all_joined_then : {E : Type 0} (x : Known D R O) (j l : Journal D R O) (r : Result (Option (ℕ × DrawnTicket D S R)) E) → book_seen k x ≡ book_of k l → l.settings ≡ j.settings
      → IfOk r (λ o. ClaimIs k Session j l o) → IfOk r (λ o. is_none o ≡ is_none (shown_in (book_of k j)))
      → IfOk r (λ o. IfNone o (shown_in (book_seen k x) ≡ None))
  all_joined_then x j l (Ok None) seen settings ok settled =
      ap (λ (b : Option (Book D S R)). shown_in b) (seen ∙ same_book k j l settings ok.0) ∙ none_from (shown_in (book_of k j)) settled
  all_joined_then x j l (Ok (Some t)) seen settings ok settled = tt
  all_joined_then x j l (Err e) seen settings ok settled = tt

  module _ (valid : D → D → O → Type 0) where
    pub links_now : (v : Known D R O) (i j : Journal D R O) → i ≡ j → Learned v j → v.session ≡ true → owned v.seen ≡ v.own → Legal k valid i.settings i.events
        → links_in (book_of k i) ≡ links_in (book_seen k v)
    links_now v i j same learned session own legal =
        let here : Learned v i = subst (λ (y : Journal D R O). Learned v y) (sym same) learned in
        let es : List (Event D R O) = here.begins.0 in
        let all : Legal k valid i.settings (v.seen ++ es) = subst (λ (h : List (Event D R O)). Legal k valid i.settings h) here.begins.1 legal in
        ap (λ (h : List (Event D R O)). links_in (replay k i.settings h)) here.begins.1
        ∙ links_among k i.settings valid v.seen es (others_only v i here session own) all
        ∙ ap (λ (o : Option Settings). links_in (book_under k o v.seen)) (sym here.carries)

    pub is_visit : (es : List (Event D R O)) (v w x : Known D R O) (i j l : Journal D R O) → w ≡ entered v j → i ≡ j → Learned v j → l.settings ≡ i.settings → l.events ≡ i.events ++ es
        → x ≡ left w l → v.session ≡ true → owned v.seen ≡ v.own → owned es ≡ es → Legal k valid l.settings l.events → IsVisit k valid es v x
    is_visit es v w x i j l knows same learned settings events leaves session own mine legal =
        let known : w ≡ entered v i = known_here v w i j knows same learned in
        let learned' : Learned v i = learned_here v w i j knows same learned in
        let here : x ≡ left (entered v i) l = leaves ∙ ap (λ (y : Known D R O). left y l) known in
        let carries : v.settings ≡ Some l.settings = learned'.carries ∙ ap Some (sym settings) in
        let more : HasAdded es v (left (entered v i) l) = one_turn es v (entered v i) (left (entered v i) l) i i l refl refl learned' events refl in
        subst (λ (y : Known D R O). IsVisit k valid es v y) (sym here) (record {
          others = learned'.begins.0;
          not_mine = others_only v i learned' session own;
          seen = events ∙ ap (λ (h : List (Event D R O)). h ++ es) learned'.begins.1;
          added = more;
          own = ap (λ (h : List (Event D R O)). owned h) events ∙ owned_append i.events es ∙ ap (λ (h : List (Event D R O)). h ++ owned es) (learned'.own session)
              ∙ ap (λ (h : List (Event D R O)). v.own ++ h) mine ∙ sym more.own;
          legal = subst (λ (o : Option Settings). IsLegalUnder k valid o l.events) (sym carries) legal;
        })

    pub installed_by : {joined : Bool} (n : ℕ) (v w : Known D R O) → IsVisit k valid (Installs n joined Session ∷ []) v w → HasInstalled k valid n v w
    installed_by {joined} n v w t = record { joined = joined; visit = t }
