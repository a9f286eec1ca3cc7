-- One pass of a settle beside workers, and several.
use Rattle.std.proofs.Common.{◌≡◌, ℕ, ◌+◌, ◌*◌, ◌≤◌, ◌<◌, Bool, false, List, [], ◌∷◌, ◌++◌, Option, Some, None, Result, Ok, Err, IfOk, refl, sym, ap, ◌∙◌, subst, arith, append_assoc, append-nil}
use Rattle.std.specs.Prelude.{IfNone}
use Rattle.machine.specs.Kit.{Kit}
use Rattle.book_history.specs.declared.who.Who.TheVariants.{Session}
use Rattle.book_history.specs.Book.{Book, DrawnTicket, Settings, Event, Claims, Installs, Releases, Shows, replay, replay_from}
use Rattle.book_history.specs.Law.{lead_in}
use Rattle.book_history.specs.Legal.{Legal}
use Rattle.book_history.specs.Owned.{owned}
use Rattle.book_history.specs.Readers.{IsOpened}
use Rattle.book_history.specs.Rooms.{Counts, count_all, no_entry}
use Rattle.book_history.proofs.Others.{others_calm}
use Rattle.book_history.proofs.Places.{replay-append, still_opened}
use Rattle.book_history.proofs.Prefixes.{legal_first, count-append}
use Rattle.segment_verify.specs.Counted.{with_more}
use Rattle.segment_verify.specs.Passes.{no_pass, one_more, no_ticket, one_ticket}
use Rattle.segment_verify.proofs.Counting.{passes_counts}
use Rattle.segment_verify.proofs.Passing.{Settles}
use Rattle.book_turn.specs.Known.{Known}
use Rattle.book_turn.specs.Turns.{HasAdded}
use Rattle.book_turn.proofs.Turns.{adds_none, adds_more}
use Rattle.checkpoint_book.specs.Views.{shown_in}
use Rattle.segment_verify.specs.Workers.{is_closed, HasTicket, HasDrawn}
use Rattle.turn_settle.specs.Seen.{book_under, book_seen, IsLegalUnder, FitRoom, HasOwnRoom}
use Rattle.turn_settle.specs.Visits.{IsVisit, HasInstalled, drawn_first, claim_of}
use Rattle.turn_settle.specs.Passed.{HasRisenBeside, HasFoundNone, HasPassedBeside, HasGivenUpBeside}
use Rattle.turn_settle.specs.Settled.{HasTriedBeside}

-- the session's room and openness behind entries of its own

less_room : (o : Option Settings) (n m : ℕ) → m ≤ n → FitRoom o n → FitRoom o m
less_room None n m le fits = fits
less_room (Some st) n m le fits = omega (arith, le, fits)

module _ {D R O : Type 0} where
  -- a claim leaves room for its end
  pub claimed_room : (v w : Known D R O) (t a b : ℕ) → HasAdded (Claims t a b Session ∷ []) v w → HasOwnRoom v 2 → HasOwnRoom w 1
  claimed_room v w t a b added room =
      let counts : count_all no_entry w.own ≡ count_all {D = D} {R = R} {O = O} (count_all no_entry v.own) (Claims t a b Session ∷ []) =
      ap (λ (h : List (Event D R O)). count_all no_entry h) added.own ∙ count-append no_entry v.own (Claims t a b Session ∷ []) in
      let one : (count_all no_entry w.own).session ≡ (count_all no_entry v.own).session + 1 = ap (λ (c : Counts). c.session) counts in
      subst (λ (o : Option Settings). FitRoom o ((count_all no_entry w.own).session + 1)) (sym added.settings)
      (less_room v.settings ((count_all no_entry v.own).session + 2) ((count_all no_entry w.own).session + 1) (omega (arith, one)) room)

  pub gave_none : (v w : Known D R O) → HasAdded [] v w → HasGivenUpBeside v w
  gave_none v w added = record { entries = []; added = added; gave_up = no_ticket }

  pub gave_one : (v w x : Known D R O) (t a b : ℕ) → HasAdded (Claims t a b Session ∷ []) v w → HasAdded (Releases t Session ∷ []) w x → HasGivenUpBeside v x
  gave_one v w x t a b claimed released = record {
    entries = Claims t a b Session ∷ Releases t Session ∷ [];
    added = adds_more (Claims t a b Session ∷ []) (Releases t Session ∷ []) v w x claimed released;
    gave_up = one_ticket t a b;
  }

module _ {D S R O : Type 0} (k : Kit D S R O) where
  pub opened_behind : (es : List (Event D R O)) (v w : Known D R O) → HasAdded es v w → IsOpened (book_seen k v) → IsOpened (book_seen k w)
  opened_behind es v w added is =
      let more : List (Event D R O) = added.begins.0 in
      subst (λ (o : Option Settings). IsOpened (book_under k o w.seen)) (sym added.settings)
      (subst (λ (h : List (Event D R O)). IsOpened (book_under k v.settings h)) (sym added.begins.1) (go v.settings more is))
    where
      go : (o : Option Settings) (more : List (Event D R O)) → IsOpened (book_under k o v.seen) → IsOpened (book_under k o (v.seen ++ more))
      go None more is = is
      go (Some st) more is =
          subst (λ (b : Option (Book D S R)). IsOpened b) (sym (replay-append k st None v.seen more)) (still_opened k st (replay k st v.seen) more is)

  -- entries that leave each book as it is
  abbrev pub LeaveBooks : List (Event D R O) → Type 0
  LeaveBooks es = (st : Settings) (b : Option (Book D S R)) → replay_from k st b es ≡ b

  pub looks : LeaveBooks []
  looks st b = refl

  pub shows : (answer : Option ℕ) → LeaveBooks (Shows answer ∷ [])
  shows answer st None = refl
  shows answer st (Some c) = refl

  same_under : (es : List (Event D R O)) → LeaveBooks es → (o : Option Settings) (h : List (Event D R O)) → book_under k o (h ++ es) ≡ book_under k o h
  same_under es leave None h = refl
  same_under es leave (Some st) h = replay-append k st None h es ∙ leave st (replay k st h)

  module _ (valid : D → D → O → Type 0) where
    -- what the law says of others' entries
    abbrev pub OthersLead : Type 0
    OthersLead = (st : Settings) (h zs : List (Event D R O)) → owned zs ≡ [] → Legal k valid st (h ++ zs) → lead_in (replay k st h) ≤ lead_in (replay k st (h ++ zs))

    others_under : OthersLead → (o : Option Settings) (h zs rest g : List (Event D R O)) → owned zs ≡ [] → g ≡ (h ++ zs) ++ rest → IsLegalUnder k valid o g
        → lead_in (book_under k o h) ≤ lead_in (book_under k o (h ++ zs))
    others_under law None h zs rest g none is legal = absurd legal
    others_under law (Some st) h zs rest g none is legal =
        law st h zs none (legal_first k st valid (h ++ zs) rest (subst (λ (x : List (Event D R O)). Legal k valid st x) is legal))

    -- a turn that leaves the book makes no fewer links lead
    pub visit_leads : OthersLead → (es : List (Event D R O)) → LeaveBooks es → (v w : Known D R O) → IsVisit k valid es v w → lead_in (book_seen k v) ≤ lead_in (book_seen k w)
    visit_leads law es leave v w t =
        let legal : IsLegalUnder k valid v.settings w.seen = subst (λ (o : Option Settings). IsLegalUnder k valid o w.seen) t.added.settings t.legal in
        let more = others_under law v.settings v.seen t.others es w.seen t.not_mine t.seen legal in
        let same : book_seen k w ≡ book_under k v.settings (v.seen ++ t.others) =
        ap (λ (o : Option Settings). book_under k o w.seen) t.added.settings
        ∙ ap (λ (h : List (Event D R O)). book_under k v.settings h) t.seen
        ∙ same_under es leave v.settings (v.seen ++ t.others) in
        omega (arith, more, ap (λ (b : Option (Book D S R)). lead_in b) same)

    rise_under : Settles k valid → OthersLead → (o : Option Settings) (h ys zs g : List (Event D R O)) (n a b : ℕ) (j : Bool) → owned ys ≡ [] → owned zs ≡ []
        → g ≡ (h ++ ys) ++ Claims n a b Session ∷ (zs ++ Installs n j Session ∷ []) → IsLegalUnder k valid o g
        → lead_in (book_under k o h) + 1 ≤ lead_in (book_under k o g)
    rise_under settles others None h ys zs g n a b j first second is legal = absurd legal
    rise_under settles others (Some st) h ys zs g n a b j first second is legal =
        let there : Legal k valid st ((h ++ ys) ++ Claims n a b Session ∷ (zs ++ Installs n j Session ∷ [])) = subst (λ (x : List (Event D R O)). Legal k valid st x) is legal in
        let rise = (settles st (h ++ ys) zs [] n a b j (others_calm zs second) there).1 in
        let before = others st h ys first (legal_first k st valid (h ++ ys) (Claims n a b Session ∷ (zs ++ Installs n j Session ∷ [])) there) in
        omega (arith, rise, before, ap (λ (x : List (Event D R O)). lead_in (replay k st x)) is)

    -- the session's claim, others, and its install make one link more lead
    pub has_risen : Settles k valid → OthersLead → (v w x : Known D R O) (n a b : ℕ) (j : Bool) → IsVisit k valid (Claims n a b Session ∷ []) v w
        → IsVisit k valid (Installs n j Session ∷ []) w x → HasRisenBeside k v x
    has_risen settles others v w x n a b j t u =
        let before : List (Event D R O) = v.seen ++ t.others in
        let all : x.seen ≡ before ++ Claims n a b Session ∷ (u.others ++ Installs n j Session ∷ []) =
        u.seen
        ∙ ap (λ (h : List (Event D R O)). (h ++ u.others) ++ Installs n j Session ∷ []) t.seen
        ∙ append_assoc (before ++ Claims n a b Session ∷ []) u.others (Installs n j Session ∷ [])
        ∙ append_assoc before (Claims n a b Session ∷ []) (u.others ++ Installs n j Session ∷ []) in
        let same : x.settings ≡ v.settings = u.added.settings ∙ t.added.settings in
        let legal : IsLegalUnder k valid v.settings x.seen = subst (λ (o : Option Settings). IsLegalUnder k valid o x.seen) same u.legal in
        let rise = rise_under settles others v.settings v.seen t.others u.others x.seen n a b j t.not_mine u.not_mine all legal in
        record {
          ticket = n;
          a = a;
          b = b;
          joined = j;
          added = adds_more (Claims n a b Session ∷ []) (Installs n j Session ∷ []) v w x t.added u.added;
          leads = omega (arith, rise, ap (λ (o : Option Settings). lead_in (book_under k o x.seen)) same);
        }

    -- by what the claim answered

    claimed_by : {E : Type 0} (v w : Known D R O) (r q : Result (Option (ℕ × DrawnTicket D S R)) E) → r ≡ q → IsVisit k valid (claim_of (drawn_first r)) v w
        → IsVisit k valid (claim_of (drawn_first q)) v w
    claimed_by {E} v w r q is t = subst (λ (z : Result (Option (ℕ × DrawnTicket D S R)) E). IsVisit k valid (claim_of (drawn_first z)) v w) is t

    pub has_ticket : {E : Type 0} (w : Known D R O) (r : Result (Option (ℕ × DrawnTicket D S R)) E) (t : ℕ × DrawnTicket D S R) → r ≡ Ok (Some t) → HasDrawn k Session (drawn_first r) w
        → HasTicket k Session t w
    has_ticket {E} w r t is drawn = subst (λ (z : Result (Option (ℕ × DrawnTicket D S R)) E). HasDrawn k Session (drawn_first z) w) is drawn

    pub room_left : {E : Type 0} (v w : Known D R O) (r : Result (Option (ℕ × DrawnTicket D S R)) E) (t : ℕ × DrawnTicket D S R) → r ≡ Ok (Some t)
        → IsVisit k valid (claim_of (drawn_first r)) v w → HasOwnRoom v 2 → HasOwnRoom w 1
    room_left v w r t is asked room = claimed_room v w t.0 t.1.a t.1.b (claimed_by v w r (Ok (Some t)) is asked).added room

    pub risen_by : {E : Type 0} → Settles k valid → OthersLead → (v w x : Known D R O) (r : Result (Option (ℕ × DrawnTicket D S R)) E) (t : ℕ × DrawnTicket D S R) → r ≡ Ok (Some t)
        → IsVisit k valid (claim_of (drawn_first r)) v w → HasInstalled k valid t.0 w x → HasRisenBeside k v x
    risen_by settles others v w x r t is asked done = has_risen settles others v w x t.0 t.1.a t.1.b done.joined (claimed_by v w r (Ok (Some t)) is asked) done.visit

    pub gave_by : {E : Type 0} (v w x : Known D R O) (r : Result (Option (ℕ × DrawnTicket D S R)) E) (t : ℕ × DrawnTicket D S R) → r ≡ Ok (Some t)
        → IsVisit k valid (claim_of (drawn_first r)) v w → IsVisit k valid (Releases t.0 Session ∷ []) w x → HasGivenUpBeside v x
    gave_by v w x r t is asked released = gave_one v w x t.0 t.1.a t.1.b (claimed_by v w r (Ok (Some t)) is asked).added released.added

    pub none_by : {E : Type 0} → OthersLead → (v w : Known D R O) (r : Result (Option (ℕ × DrawnTicket D S R)) E) → r ≡ Ok None → IsVisit k valid (claim_of (drawn_first r)) v w
        → IfOk r (λ o. IfNone o (shown_in (book_seen k w) ≡ None)) → HasFoundNone k v w
    none_by {E} others v w r is asked settled =
        let visit : IsVisit k valid [] v w = claimed_by v w r (Ok None) is asked in
        record {
          added = visit.added;
          leads = visit_leads others [] looks v w visit;
          settled = subst (λ (z : Result (Option (ℕ × DrawnTicket D S R)) E). IfOk z (λ o. IfNone o (shown_in (book_seen k w) ≡ None))) is settled;
        }

    pub refused_by : {E : Type 0} (v w : Known D R O) (r : Result (Option (ℕ × DrawnTicket D S R)) E) (e : E) → r ≡ Err e → IsVisit k valid (claim_of (drawn_first r)) v w → HasGivenUpBeside v w
    refused_by v w r e is asked = gave_none v w (claimed_by v w r (Err e) is asked).added

    pub passed_start : OthersLead → (v w : Known D R O) → IsVisit k valid [] v w → HasPassedBeside k v w 0
    passed_start others v w t =
        let leads = visit_leads others [] looks v w t in
        record { own = []; added = t.added; are = no_pass; leads = omega (arith, leads) }

  -- several passes

  pub passed_none : (v : Known D R O) → HasPassedBeside k v v 0
  passed_none v = record { own = []; added = adds_none v; are = no_pass; leads = omega arith }

  pub passed_more : (v w x : Known D R O) (n m : ℕ) → m ≡ n + 1 → HasPassedBeside k v w n → HasRisenBeside k w x → HasPassedBeside k v x m
  passed_more v w x n m is h rise =
      record {
        own = h.own ++ Claims rise.ticket rise.a rise.b Session ∷ Installs rise.ticket rise.joined Session ∷ [];
        added = adds_more h.own (Claims rise.ticket rise.a rise.b Session ∷ Installs rise.ticket rise.joined Session ∷ []) v w x h.added rise.added;
        are = one_more n m rise.ticket rise.a rise.b rise.joined h.own h.are is;
        leads = omega (arith, is, h.leads, rise.leads);
      }

  pub passed_stop : (v w x : Known D R O) (n : ℕ) → HasPassedBeside k v w n → HasFoundNone k w x → HasPassedBeside k v x n
  passed_stop v w x n h none =
      record {
        own = h.own;
        added = subst (λ (es : List (Event D R O)). HasAdded es v x) (append-nil h.own) (adds_more h.own [] v w x h.added none.added);
        are = h.are;
        leads = omega (arith, h.leads, none.leads);
      }

  -- behind a turn without entries
  pub passed_behind : (valid : D → D → O → Type 0) → OthersLead valid → (v w x : Known D R O) (n : ℕ) → IsVisit k valid [] v w → HasPassedBeside k w x n → HasPassedBeside k v x n
  passed_behind valid others v w x n look h =
      let leads = visit_leads valid others [] looks v w look in
      record { own = h.own; added = adds_more [] h.own v w x look.added h.added; are = h.are; leads = omega (arith, leads, h.leads) }

  pub tried_more : (v w x : Known D R O) (n most : ℕ) → HasPassedBeside k v w n → n < most → HasGivenUpBeside w x → HasTriedBeside v x most
  tried_more v w x n most h few gave =
      record {
        own = h.own ++ gave.entries;
        added = adds_more h.own gave.entries v w x h.added gave.added;
        unfinished = record { passes = h.own; count = n; last = gave.entries; split = refl; are = h.are; gave_up = gave.gave_up };
        few = few;
      }

  module _ (v w : Known D R O) (n : ℕ) (h : HasPassedBeside k v w n) where
    passed_counts : count_all no_entry w.own ≡ with_more (count_all no_entry v.own) (2 * n)
    passed_counts =
        ap (λ (x : List (Event D R O)). count_all no_entry x) h.added.own
        ∙ count-append no_entry v.own h.own
        ∙ passes_counts (count_all no_entry v.own) n h.own h.are

    pub passed_open : is_closed v.own ≡ false → is_closed w.own ≡ false
    passed_open is = ap (λ (c : Counts). c.closed) passed_counts ∙ is

    pub passed_room : (most left : ℕ) → HasOwnRoom v most → 2 * n + left ≤ most → HasOwnRoom w left
    passed_room most left room le =
        let counts : (count_all no_entry w.own).session ≡ (count_all no_entry v.own).session + 2 * n = ap (λ (c : Counts). c.session) passed_counts in
        subst (λ (o : Option Settings). FitRoom o ((count_all no_entry w.own).session + left)) (sym h.added.settings)
        (less_room v.settings ((count_all no_entry v.own).session + most) ((count_all no_entry w.own).session + left) (omega (arith, le, counts)) room)

    pub passed_opened : IsOpened (book_seen k v) → IsOpened (book_seen k w)
    passed_opened is = opened_behind h.own v w h.added is
