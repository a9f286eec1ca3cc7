-- For callers: what `leave` asks and gives where one entry was added, or none.
use Rattle.std.proofs.Common.{◌≡◌, true, List, [], ◌∷◌, ◌++◌, length, drop, Some, sym, ap, ◌∙◌, subst, append-nil}
use Rattle.book_history.specs.Event.{Event}
use Rattle.book_history.specs.Journal.{Journal}
use Rattle.book_history.specs.Owned.{is_owned, AllOwned, added}
use Rattle.book_history.specs.Tickets.{kept, kept_all, MayAdd, MayAddAll}
use Rattle.book_turn.specs.Known.{Known, left}
use Rattle.book_turn.specs.Rule.{MayLeave}
use Rattle.book_turn.proofs.Histories.{added_append}

module _ {D R O : Type 0} where
  added_one : (xs ys zs : List (Event D R O)) → ys ≡ xs ++ zs → added xs ys ≡ zs
  added_one xs ys zs is = ap (λ l. drop (length xs) l) is ∙ added_append xs zs

  pub may_leave_one : (v : Known D R O) (j : Journal D R O) (e : Event D R O) → v.holds ≡ true → v.settings ≡ Some j.settings → j.events ≡ v.seen ++ e ∷ [] → is_owned e ≡ v.session → MayAdd v.seen v.tickets e → MayLeave v j
  may_leave_one v j e holds carries is own may = let one = sym (added_one v.seen j.events (e ∷ []) is) in record {
    holds = holds;
    carries = carries;
    extends = (e ∷ [], is);
    own = subst (λ l. AllOwned v.session l) one (own, tt);
    tickets = subst (λ l. MayAddAll v.seen v.tickets l) one (may, tt);
  }

  pub may_leave_none : (v : Known D R O) (j : Journal D R O) → v.holds ≡ true → v.settings ≡ Some j.settings → j.events ≡ v.seen → MayLeave v j
  may_leave_none v j holds carries is = let none = sym (added_one v.seen j.events [] (is ∙ sym (append-nil v.seen))) in record {
    holds = holds;
    carries = carries;
    extends = ([], is ∙ sym (append-nil v.seen));
    own = subst (λ l. AllOwned v.session l) none tt;
    tickets = subst (λ l. MayAddAll v.seen v.tickets l) none tt;
  }

  pub tickets_one : (v : Known D R O) (j : Journal D R O) (e : Event D R O) → j.events ≡ v.seen ++ e ∷ [] → (left v j).tickets ≡ kept v.tickets e
  tickets_one v j e is = ap (λ l. kept_all v.tickets l) (added_one v.seen j.events (e ∷ []) is)

  pub tickets_none : (v : Known D R O) (j : Journal D R O) → j.events ≡ v.seen → (left v j).tickets ≡ v.tickets
  tickets_none v j is = ap (λ l. kept_all v.tickets l) (added_one v.seen j.events [] (is ∙ sym (append-nil v.seen)))

  pub own_one : (v : Known D R O) (j : Journal D R O) (e : Event D R O) → j.events ≡ v.seen ++ e ∷ [] → (left v j).own ≡ v.own ++ e ∷ []
  own_one v j e is = ap (λ l. v.own ++ l) (added_one v.seen j.events (e ∷ []) is)

  pub own_none : (v : Known D R O) (j : Journal D R O) → j.events ≡ v.seen → (left v j).own ≡ v.own
  own_none v j is = ap (λ l. v.own ++ l) (added_one v.seen j.events [] (is ∙ sym (append-nil v.seen))) ∙ append-nil v.own
