-- What one turn of the session asks and gives, and what joins keep.
use Rattle.std.proofs.Common.{◌≡◌, ◌+◌, ℕ, arith, true, false, [], ◌∷◌, ◌++◌, Some, refl, sym, ap, ◌∙◌, subst}
use Rattle.book_history.specs.Book.{Event}
use Rattle.book_history.specs.Journal.{Journal}
use Rattle.book_history.specs.Owned.{is_owned}
use Rattle.book_history.specs.Tickets.{kept, MayAdd}
use Rattle.book_turn.specs.Known.{Known, entered, left, after_split, apart_from_splits, joined}
use Rattle.book_turn.specs.Rule.{MayLeave, Learned}
use Rattle.book_turn.proofs.Callers.{may_leave_one, tickets_one}
use Rattle.segment_verify.specs.Workers.{is_closed, IsFree}
use Rattle.worker_scope.specs.Scope.{HasSplit}

module _ {D R O : Type 0} where
  -- v is what the pass knew before it entered, w what it then knows, x what it knows after it has left; j is the book that it
  -- was given, i the book behind the reference, and l the book after the call, which added the entry e
  module _ (v w x : Known D R O) (i j l : Journal D R O) (e : Event D R O) (knows : w ≡ entered v j) (same : i ≡ j) (learned : Learned v j) (settings : l.settings ≡ i.settings) (events : l.events ≡ i.events ++ e ∷ []) where
    known_here : w ≡ entered v i
    known_here = knows ∙ ap (λ y. entered v y) (sym same)

    learned_here : Learned v i
    learned_here = subst (λ (y : Journal D R O). Learned v y) (sym same) learned

    pub may_add : v.session ≡ true → is_owned e ≡ true → MayAdd i.events v.tickets e → MayLeave w l
    may_add session own may =
        subst (λ (y : Known D R O). MayLeave y l) (sym known_here)
        (may_leave_one (entered v i) l e refl (learned_here.carries ∙ ap Some (sym settings)) events (own ∙ sym session) may)

    module _ (leaves : x ≡ left w l) where
      left_here : x ≡ left (entered v i) l
      left_here = leaves ∙ ap (λ (y : Known D R O). left y l) known_here

      pub free_after : IsFree v → kept v.tickets e ≡ v.tickets → IsFree x
      free_after free keeps =
          subst (λ (y : Known D R O). IsFree y) (sym left_here)
          (record { outside = refl; no_ticket = tickets_one (entered v i) l e events ∙ keeps ∙ free.no_ticket })

  pub free_join : (w x u : Known D R O) → x ≡ joined w u → IsFree w → IsFree x
  free_join w x u is free = subst (λ (y : Known D R O). IsFree y) (sym is) (record { outside = free.outside; no_ticket = free.no_ticket })

  pub free_started : (w x : Known D R O) → x ≡ after_split w → IsFree w → IsFree x
  free_started w x is free = subst (λ (y : Known D R O). IsFree y) (sym is) (record { outside = free.outside; no_ticket = free.no_ticket })

  pub own_started : (count : ℕ) (v w : Known D R O) → HasSplit count v w → is_closed v.own ≡ false → is_closed w.own ≡ false
  own_started count v w h open' = ap (λ (y : Known D R O). is_closed y.own) h.else_same ∙ open'

  pub split_none : (v w : Known D R O) → w ≡ v → HasSplit 0 v w
  split_none v w is = record { splits = let same : w.splits ≡ v.splits = ap (λ (y : Known D R O). y.splits) is in omega (arith, same); else_same = ap (λ (y : Known D R O). apart_from_splits y) is }

  pub split_once : (v w : Known D R O) → w ≡ after_split v → HasSplit 1 v w
  split_once v w is = record { splits = ap (λ (y : Known D R O). y.splits) is; else_same = ap (λ (y : Known D R O). apart_from_splits y) is }

  pub split_more : (n m total : ℕ) (v w x : Known D R O) → HasSplit n v w → HasSplit m w x → total ≡ n + m → HasSplit total v x
  split_more n m total v w x g h is = record { splits = omega (arith, g.splits, h.splits, is); else_same = h.else_same ∙ g.else_same }
