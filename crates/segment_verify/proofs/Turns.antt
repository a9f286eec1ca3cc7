-- What one turn of a worker asks and gives, by the call that it makes on the book.
use Rattle.std.proofs.Common.{◌≡◌, ℕ, true, false, List, [], ◌∷◌, ◌++◌, Result, Ok, Err, Option, Some, None, IfOk, OnErr, eqb, refl, sym, ap, ◌∙◌, subst, append_assoc, append-nil}
use Rattle.std.proofs.lemmas.Bool.{eq-eqb, cond-true, or_left, or_parts}
use Rattle.machine.specs.Kit.{Kit}
use Rattle.book_history.specs.declared.who.Who.{Who}
use Rattle.book_history.specs.Book.{Settings, Event, Claims, DrawnTicket, replay}
use Rattle.book_history.specs.Journal.{Journal}
use Rattle.book_history.specs.Owned.{is_owned, is_session}
use Rattle.book_history.specs.Outs.{IsOutFor}
use Rattle.book_history.specs.Tickets.{is_among, is_used, without, kept, MayAdd}
use Rattle.book_history.proofs.Bridge.{still_out}
use Rattle.book_turn.specs.Known.{Known, entered, left}
use Rattle.book_turn.specs.Rule.{MayLeave, Learned}
use Rattle.book_turn.proofs.Callers.{may_leave_one, may_leave_none, tickets_one, tickets_none, own_one, own_none}
use Rattle.book_turn.proofs.Holdings.{used_append}
use Rattle.checkpoint_book.specs.declared.claimed.Claimed.{Claimed}
use Rattle.checkpoint_book.specs.declared.claimed.Claimed.TheVariants.{Ticket, Nothing}
use Rattle.checkpoint_book.specs.Claims.{IsDrawn, ClaimIs, CausesAre, claims_nothing, ticket_in}
use Rattle.checkpoint_book.specs.Views.{book_of}
use Rattle.segment_verify.specs.Entries.{IsEnd, no_turn, one_more, HasHandedIn, HasTurned, HasAsked}
use Rattle.segment_verify.specs.Workers.{is_closed, IsFree, IsOutAfter, HasTicket, HasDrawn, TellsClosed, drawn_in}

mine : (n : ℕ) (ts : List ℕ) → ts ≡ n ∷ [] → is_among n ts ≡ true
mine n ts is = ap (λ l. is_among n l) is ∙ or_left (eqb n n) false (eq-eqb n n refl)

none_left : (n : ℕ) (ts : List ℕ) → ts ≡ n ∷ [] → without n ts ≡ []
none_left n ts is = ap (λ l. without n l) is ∙ cond-true (eqb n n) [] (n ∷ []) (eq-eqb n n refl)

-- v is what the pass knew before it entered, w what it then knows; j is the book that it was given, i the book behind the
-- reference, and l the book after the call
module _ {D S R O : Type 0} (k : Kit D S R O) where
  -- a ticket of the pass is still out in the book that it is given
  pub out_now : (v : Known D R O) (i j : Journal D R O) (t : ℕ × DrawnTicket D S R) (by : Who) → i ≡ j → Learned v j → HasTicket k by t v → IsOutFor (book_of k i) t.0 t.1 by
  out_now v i j t by same learned has =
      let es : List (Event D R O) = learned.begins.0 in
      let unused : is_used t.0 es ≡ false =
      (or_parts (is_used t.0 v.seen) (is_used t.0 es) (sym (used_append t.0 v.seen es) ∙ ap (λ h. is_used t.0 h) (sym learned.begins.1) ∙ (learned.are_out t.0 (mine t.0 v.tickets has.tickets)).unused)).1 in
      let before : IsOutAfter k (Some j.settings) v.seen t by = subst (λ (st : Option Settings). IsOutAfter k st v.seen t by) learned.carries has.is_out in
      let now : IsOutFor (replay k j.settings (v.seen ++ es)) t.0 t.1 by = still_out k j.settings v.seen es t.0 t.1 by before unused in
      subst (λ (x : Journal D R O). IsOutFor (book_of k x) t.0 t.1 by) (sym same) (subst (λ h. IsOutFor (replay k j.settings h) t.0 t.1 by) (sym learned.begins.1) now)

  carried : (v : Known D R O) (j l : Journal D R O) → Learned v j → l.settings ≡ j.settings → v.settings ≡ Some l.settings
  carried v j l learned kept_settings = learned.carries ∙ ap Some (sym kept_settings)

  -- one entry of the holder's was added to the book j
  one : (v : Known D R O) (j l : Journal D R O) (e : Event D R O) → Learned v j → l.settings ≡ j.settings → l.events ≡ j.events ++ e ∷ [] → is_owned e ≡ v.session
      → MayAdd j.events v.tickets e → MayLeave (entered v j) l
  one v j l e learned settings events own may = may_leave_one (entered v j) l e refl (carried v j l learned settings) events own may

  none : (v : Known D R O) (j l : Journal D R O) → Learned v j → l.settings ≡ j.settings → l.events ≡ j.events → MayLeave (entered v j) l
  none v j l learned settings events = may_leave_none (entered v j) l refl (carried v j l learned settings) events

  -- the book l has the claim of the ticket more than the book j, or has the same entries where none was drawn
  abbrev pub AddsClaim : Who → Journal D R O → Journal D R O → Option (ℕ × DrawnTicket D S R) → Type 0
  AddsClaim by j l None = l.events ≡ j.events
  AddsClaim by j l (Some t) = IsDrawn k by j l t

  -- a worker's claim, and the session's
  pub claimed : {E : Type 0} (by : Who) (j l : Journal D R O) (r : Result (Claimed D S R O) E) → IfOk r (λ a. ClaimIs k by j l (ticket_in a))
      → OnErr r ((l.events ≡ j.events) × (claims_nothing k by j ≡ false)) → AddsClaim by j l (drawn_in r)
  claimed by j l (Ok (Ticket t)) ok err = ok.0
  claimed by j l (Ok (Nothing full closed)) ok err = ok.0
  claimed by j l (Err e) ok err = err.0

  claim_leaves : (v : Known D R O) (j l : Journal D R O) (by : Who) (o : Option (ℕ × DrawnTicket D S R)) → Learned v j → is_session by ≡ v.session → l.settings ≡ j.settings → AddsClaim by j l o → MayLeave (entered v j) l
  claim_leaves v j l by None learned kind settings adds = none v j l learned settings adds
  claim_leaves v j l by (Some t) learned kind settings adds = one v j l (Claims t.0 t.1.a t.1.b by) learned settings adds.events kind (adds.not_drawn, adds.not_used)

  claim_gives : (v : Known D R O) (j l : Journal D R O) (by : Who) (o : Option (ℕ × DrawnTicket D S R)) → IsFree v → Learned v j → l.settings ≡ j.settings → AddsClaim by j l o → HasDrawn k by o (left (entered v j) l)
  claim_gives v j l by None free learned settings adds = record { outside = refl; no_ticket = tickets_none (entered v j) l adds ∙ free.no_ticket }
  claim_gives v j l by (Some t) free learned settings adds = record {
    outside = refl;
    tickets = tickets_one (entered v j) l (Claims t.0 t.1.a t.1.b by) adds.events ∙ ap (λ ts. t.0 ∷ ts) free.no_ticket;
    is_out = subst (λ (st : Option Settings). IsOutAfter k st l.events t by) (sym (carried v j l learned settings)) adds.is_out;
  }

  claim_adds : (v : Known D R O) (j l : Journal D R O) (by : Who) (o : Option (ℕ × DrawnTicket D S R)) → AddsClaim by j l o → HasAsked by o v (left (entered v j) l)
  claim_adds v j l by None adds = own_none (entered v j) l adds
  claim_adds v j l by (Some t) adds = own_one (entered v j) l (Claims t.0 t.1.a t.1.b by) adds.events

  pub has_asked : (v w x : Known D R O) (i j l : Journal D R O) (by : Who) (o : Option (ℕ × DrawnTicket D S R)) → w ≡ entered v j → x ≡ left w l → i ≡ j → AddsClaim by i l o → HasAsked by o v x
  has_asked v w x i j l by o knows leaves same adds =
      subst (λ (y : Known D R O). HasAsked by o v y) (ap (λ (y : Journal D R O). left (entered v y) l) same ∙ ap (λ (y : Known D R O). left y l) (sym knows) ∙ sym leaves)
      (claim_adds v i l by o adds)

  pub may_claim : (v w : Known D R O) (i j l : Journal D R O) (by : Who) (o : Option (ℕ × DrawnTicket D S R)) → w ≡ entered v j → i ≡ j → Learned v j → is_session by ≡ v.session → l.settings ≡ i.settings
      → AddsClaim by i l o → MayLeave w l
  may_claim v w i j l by o knows same learned kind settings adds =
      subst (λ (y : Known D R O). MayLeave y l) (ap (λ y. entered v y) same ∙ sym knows)
      (claim_leaves v i l by o (subst (λ (y : Journal D R O). Learned v y) (sym same) learned) kind settings adds)

  pub has_drawn : (v w x : Known D R O) (i j l : Journal D R O) (by : Who) (o : Option (ℕ × DrawnTicket D S R)) → w ≡ entered v j → x ≡ left w l → i ≡ j → IsFree v → Learned v j → l.settings ≡ i.settings
      → AddsClaim by i l o → HasDrawn k by o x
  has_drawn v w x i j l by o knows leaves same free learned settings adds =
      subst (λ (y : Known D R O). HasDrawn k by o y) (ap (λ (y : Journal D R O). left (entered v y) l) same ∙ ap (λ (y : Known D R O). left y l) (sym knows) ∙ sym leaves)
      (claim_gives v i l by o free (subst (λ (y : Journal D R O). Learned v y) (sym same) learned) settings adds)

  told : (by : Who) (j l : Journal D R O) (r : Claimed D S R O) → ClaimIs k by j l (ticket_in r) → CausesAre k j r → TellsClosed l.events r
  told by j l (Ticket t) is causes = tt
  told by j l (Nothing full closed) is causes = causes.1 ∙ ap (λ (h : List (Event D R O)). is_closed h) (sym is.0)

  pub has_told : {E : Type 0} (w x : Known D R O) (i j l : Journal D R O) (by : Who) (r : Result (Claimed D S R O) E) → x ≡ left w l → i ≡ j → IfOk r (λ a. ClaimIs k by i l (ticket_in a)) → IfOk r (λ a. CausesAre k i a)
      → IfOk r (λ a. TellsClosed x.seen a)
  has_told w x i j l by (Ok a) leaves same ok causes = subst (λ (h : List (Event D R O)). TellsClosed h a) (sym (ap (λ (y : Known D R O). y.seen) leaves)) (told by i l a ok causes)
  has_told w x i j l by (Err e) leaves same ok causes = tt

  -- the ticket n of the pass was used up by the entry e
  pub may_use : (v w : Known D R O) (i j l : Journal D R O) (t : ℕ × DrawnTicket D S R) (by : Who) (e : Event D R O) → w ≡ entered v j → i ≡ j → Learned v j → HasTicket k by t v
      → l.settings ≡ i.settings → l.events ≡ i.events ++ e ∷ [] → is_owned e ≡ v.session → (is_among t.0 v.tickets ≡ true → MayAdd i.events v.tickets e) → MayLeave w l
  may_use v w i j l t by e knows same learned has settings events own uses =
      subst (λ (y : Known D R O). MayLeave y l) (ap (λ y. entered v y) same ∙ sym knows)
      (one v i l e (subst (λ (y : Journal D R O). Learned v y) (sym same) learned) settings events own (uses (mine t.0 v.tickets has.tickets)))

  pub is_free : (v w x : Known D R O) (i j l : Journal D R O) (t : ℕ × DrawnTicket D S R) (by : Who) (e : Event D R O) → w ≡ entered v j → x ≡ left w l → i ≡ j → HasTicket k by t v
      → l.events ≡ i.events ++ e ∷ [] → kept v.tickets e ≡ without t.0 v.tickets → IsFree x
  is_free v w x i j l t by e knows leaves same has events uses =
      subst (λ (y : Known D R O). IsFree y) (ap (λ (y : Journal D R O). left (entered v y) l) same ∙ ap (λ (y : Known D R O). left y l) (sym knows) ∙ sym leaves)
      (record { outside = refl; no_ticket = tickets_one (entered v i) l e events ∙ uses ∙ none_left t.0 v.tickets has.tickets })

module _ {D R O : Type 0} where
  pub has_handed_in : (v w x : Known D R O) (i j l : Journal D R O) (n : ℕ) (by : Who) (e : Event D R O) → w ≡ entered v j → x ≡ left w l → i ≡ j → l.events ≡ i.events ++ e ∷ []
      → IsEnd by n e → HasHandedIn by n v x
  has_handed_in v w x i j l n by e knows leaves same events is = record {
    entry = e;
    is_end = is;
    own = ap (λ (y : Known D R O). y.own) (leaves ∙ ap (λ (y : Known D R O). left y l) (knows ∙ ap (λ (y : Journal D R O). entered v y) (sym same))) ∙ own_one (entered v i) l e events;
  }

  pub turned_none : (by : Who) (v : Known D R O) → HasTurned by v v
  turned_none by v = record { entries = []; turns = no_turn; own = sym (append-nil v.own) }

  pub turned_same : (by : Who) (v w x : Known D R O) → HasTurned by v w → x.own ≡ w.own → HasTurned by v x
  turned_same by v w x h same = record { entries = h.entries; turns = h.turns; own = same ∙ h.own }

  pub turned_more : (by : Who) (v w x y : Known D R O) (n a b : ℕ) → HasTurned by v w → x.own ≡ w.own ++ Claims n a b by ∷ [] → HasHandedIn by n x y → HasTurned by v y
  turned_more by v w x y n a b h asked handed = record {
    entries = h.entries ++ Claims n a b by ∷ handed.entry ∷ [];
    turns = one_more h.entries n a b handed.entry h.turns handed.is_end;
    own = handed.own ∙ ap (λ l. l ++ handed.entry ∷ []) (asked ∙ ap (λ l. l ++ Claims n a b by ∷ []) h.own)
        ∙ ap (λ l. l ++ handed.entry ∷ []) (append_assoc v.own h.entries (Claims n a b by ∷ []))
        ∙ append_assoc v.own (h.entries ++ Claims n a b by ∷ []) (handed.entry ∷ [])
        ∙ ap (λ l. v.own ++ l) (append_assoc h.entries (Claims n a b by ∷ []) (handed.entry ∷ []));
  }

  pub turned_by : {S E : Type 0} (by : Who) (v w x y : Known D R O) (r : Result (Claimed D S R O) E) (t : ℕ × DrawnTicket D S R) → r ≡ Ok (Ticket t) → HasTurned by v w → HasAsked by (drawn_in r) w x → HasHandedIn by t.0 x y → HasTurned by v y
  turned_by {S} {E} by v w x y r t is h asked handed =
      turned_more by v w x y t.0 t.1.a t.1.b h (subst (λ (z : Result (Claimed D S R O) E). HasAsked by (drawn_in z) w x) is asked) handed
