-- One turn, and turns behind each other.
use Rattle.std.proofs.Common.{◌≡◌, List, [], ◌++◌, refl, sym, ap, ◌∙◌, subst, append_assoc, append-nil}
use Rattle.book_history.specs.Event.{Event}
use Rattle.book_history.specs.Journal.{Journal}
use Rattle.book_history.specs.Owned.{added}
use Rattle.book_turn.specs.Known.{Known, entered, left}
use Rattle.book_turn.specs.Rule.{MayLeave, Learned}
use Rattle.book_turn.specs.Turns.{HasAdded, GoesOn}
use Rattle.book_turn.proofs.Histories.{prefix_refl, prefix_trans, added_is, added_append}

module _ {D R O : Type 0} where
  pub adds_none : (v : Known D R O) → HasAdded [] v v
  adds_none v = record {
    own = sym (append-nil v.own);
    begins = prefix_refl v.seen;
    settings = refl;
    splits = refl;
    crew = refl;
    alone = refl;
    whole = λ a. sym (append-nil v.seen);
  }

  pub adds_more : (es fs : List (Event D R O)) (u v w : Known D R O) → HasAdded es u v → HasAdded fs v w → HasAdded (es ++ fs) u w
  adds_more es fs u v w g h = record {
    own = h.own ∙ ap (λ l. l ++ fs) g.own ∙ append_assoc u.own es fs;
    begins = prefix_trans u.seen v.seen w.seen g.begins h.begins;
    settings = h.settings ∙ g.settings;
    splits = h.splits ∙ g.splits;
    crew = h.crew ∙ g.crew;
    alone = h.alone ∙ g.alone;
    whole = λ a. h.whole (g.alone ∙ a) ∙ ap (λ l. l ++ fs) (g.whole a) ∙ append_assoc u.seen es fs;
  }

  pub goes_none : (v : Known D R O) → GoesOn v v
  goes_none v = record { entries = []; added = adds_none v }

  pub goes_more : (u v w : Known D R O) → GoesOn u v → GoesOn v w → GoesOn u w
  goes_more u v w g h = record { entries = g.entries ++ h.entries; added = adds_more g.entries h.entries u v w g.added h.added }

  -- the holder takes the book
  pub goes_in : (v w : Known D R O) (j : Journal D R O) → w ≡ entered v j → Learned v j → GoesOn v w
  goes_in v w j is learned = subst (λ (y : Known D R O). GoesOn v y) (sym is) (record {
    entries = [];
    added = record {
      own = sym (append-nil v.own);
      begins = learned.begins;
      settings = refl;
      splits = refl;
      crew = refl;
      alone = refl;
      whole = λ a. learned.whole a ∙ sym (append-nil v.seen);
    };
  })

  -- the holder puts the book back
  pub goes_out : (v w : Known D R O) (j : Journal D R O) → w ≡ left v j → MayLeave v j → GoesOn v w
  goes_out v w j is may = subst (λ (y : Known D R O). GoesOn v y) (sym is) (record {
    entries = added v.seen j.events;
    added = record {
      own = refl;
      begins = may.extends;
      settings = refl;
      splits = refl;
      crew = refl;
      alone = refl;
      whole = λ a. sym (added_is v.seen j.events may.extends);
    };
  })

  -- for callers: v is what the pass knew before it entered, w what it then knows, x what it knows after it has left; j is the book
  -- that it was given, i the book behind the reference, and l the book after the calls, which added these entries
  pub one_turn : (es : List (Event D R O)) (v w x : Known D R O) (i j l : Journal D R O) → w ≡ entered v j → i ≡ j → Learned v j → l.events ≡ i.events ++ es → x ≡ left w l → HasAdded es v x
  one_turn es v w x i j l knows same learned events leaves =
      let here : x ≡ left (entered v i) l = leaves ∙ ap (λ (y : Known D R O). left y l) (knows ∙ ap (λ (y : Journal D R O). entered v y) (sym same)) in
      let learned_here : Learned v i = subst (λ (y : Journal D R O). Learned v y) (sym same) learned in
      let new : added i.events l.events ≡ es = ap (λ (h : List (Event D R O)). added i.events h) events ∙ added_append i.events es in
      subst (λ (y : Known D R O). HasAdded es v y) (sym here) (record {
        own = ap (λ (h : List (Event D R O)). v.own ++ h) new;
        begins = prefix_trans v.seen i.events l.events learned_here.begins (es, events);
        settings = refl;
        splits = refl;
        crew = refl;
        alone = refl;
        whole = λ a. events ∙ ap (λ (h : List (Event D R O)). h ++ es) (learned_here.whole a);
      })
