-- Each kind of step keeps the rule of the turn.
use Rattle.std.proofs.Common.{◌≡◌, ◌≢◌, ℕ, zero, suc, Bool, true, false, true≢false, List, [], ◌∷◌, ◌++◌, length, set, Option, Some, None, eqb, refl, sym, ap, ◌∙◌, subst, ⊎_elim, inl, inr, ◌⊎◌, append-nil}
use Rattle.std.proofs.lemmas.Bool.{eqb-true, eqb-false}
use mathlib.Core.Option.{some, some-injective, some-ne-none}
use lib.ListN.{get_elem?}
use Rattle.crossbeam_queue.specs.Fifo.{Pushes, Pops, Forks, Merges, Learns}
use Rattle.crossbeam_queue.proofs.Lists.{at_set}
use Rattle.book_history.specs.Event.{Settings, Event}
use Rattle.book_history.specs.Journal.{Journal}
use Rattle.book_history.specs.Owned.{owned, AllOwned, IsPrefix, added}
use Rattle.book_history.specs.Tickets.{is_among, IsOut, AreOut}
use Rattle.book_turn.specs.Known.{Known, opening, begun, entered, left, after_split, worker_of, joined, spent}
use Rattle.book_turn.specs.Rule.{IsAt, Fits, Apart, EachFits, EachApart, EachBegins, HasBook, HasSession, MayLeave, Learned, Ruled}
use Rattle.book_history.proofs.Owned.{owned_append, all_owned}
use Rattle.book_turn.proofs.Histories.{prefix_refl, prefix_trans, added_is, longer_prefix, longer_whole, longer_begins, none_owned}
use Rattle.book_turn.proofs.Holdings.{all_mine, all_theirs, all_once}

module _ {A : Type 0} where
  at_here : (l : List A) (i : ℕ) (a b : A) → get_elem? l i ≡ some a → get_elem? (set l i b) i ≡ some b
  at_here [] i a b e = absurd (some-ne-none a (sym e))
  at_here (x ∷ xs) zero a b e = refl
  at_here (x ∷ xs) (suc i) a b e = at_here xs i a b e

  at_else : (l : List A) (i j : ℕ) (a b : A) → j ≢ i → get_elem? l j ≡ some a → get_elem? (set l i b) j ≡ some a
  at_else [] i j a b n e = e
  at_else (x ∷ xs) zero zero a b n e = absurd (n refl)
  at_else (x ∷ xs) zero (suc j) a b n e = e
  at_else (x ∷ xs) (suc i) zero a b n e = e
  at_else (x ∷ xs) (suc i) (suc j) a b n e = at_else xs i j a b (λ s. n (ap suc s)) e

  at_end : (l : List A) (a b : A) (j : ℕ) → get_elem? (l ++ a ∷ []) j ≡ some b → (get_elem? l j ≡ some b) ⊎ ((j ≡ length l) × (a ≡ b))
  at_end [] a b zero e = inr (refl, some-injective a b e)
  at_end [] a b (suc j) e = absurd (some-ne-none b (sym e))
  at_end (x ∷ xs) a b zero e = inl e
  at_end (x ∷ xs) a b (suc j) e = ⊎_elim (λ s. inl s) (λ s. inr (ap suc s.0, s.1)) (at_end xs a b j e)

  at_front : (l : List A) (a b : A) (j : ℕ) → get_elem? l j ≡ some b → get_elem? (l ++ a ∷ []) j ≡ some b
  at_front [] a b j e = absurd (some-ne-none b (sym e))
  at_front (x ∷ xs) a b zero e = e
  at_front (x ∷ xs) a b (suc j) e = at_front xs a b j e

module _ {D R O : Type 0} where
  -- after a change of one pass that keeps it a holder where it was
  still_held : (holder p : ℕ) (views : List (Known D R O)) (v w : Known D R O) → get_elem? views p ≡ some v → (v.holds ≡ true → w.holds ≡ true) → w.live ≡ true → HasBook holder views → HasBook holder (set views p w)
  still_held holder p views v w at keeps live b = go (eqb holder p) refl
    where
      go : (t : Bool) → eqb holder p ≡ t → HasBook holder (set views p w)
      go true t = let same : holder ≡ p = eqb-true holder p t in
          let is : b.0 ≡ v = some-injective b.0 v (sym b.1 ∙ ap (λ i. get_elem? views i) same ∙ at) in
          (w, ap (λ i. get_elem? (set views p w) i) same ∙ at_here views p v w at, live, keeps (ap (λ (y : Known D R O). y.holds) (sym is) ∙ b.3))
      go false t = (b.0, at_else views p holder b.0 w (eqb-false holder p t) b.1, b.2, b.3)

  -- after a change of one pass that is the session's where it was
  still_served : (session p : ℕ) (views : List (Known D R O)) (v w : Known D R O) → get_elem? views p ≡ some v → w.session ≡ v.session → w.live ≡ true → HasSession session views → HasSession session (set views p w)
  still_served session p views v w at same live b = go (eqb session p) refl
    where
      go : (t : Bool) → eqb session p ≡ t → HasSession session (set views p w)
      go true t = let here : session ≡ p = eqb-true session p t in
          let is : b.0 ≡ v = some-injective b.0 v (sym b.1 ∙ ap (λ i. get_elem? views i) here ∙ at) in
          (w, ap (λ i. get_elem? (set views p w) i) here ∙ at_here views p v w at, live, same ∙ ap (λ (y : Known D R O). y.session) (sym is) ∙ b.3)
      go false t = (b.0, at_else views p session b.0 w (eqb-false session p t) b.1, b.2, b.3)

  -- a pass that has no ticket, beside another
  no_tickets : (u w : Known D R O) → u.alone ≢ true → w.tickets ≡ [] → Apart u w
  no_tickets u w lone none = record { lone = lone; tickets = λ n a b. true≢false (sym b ∙ ap (λ l. is_among n l) none) }

  no_tickets' : (u w : Known D R O) → w.alone ≢ true → w.tickets ≡ [] → Apart w u
  no_tickets' u w lone none = record { lone = lone; tickets = λ n a b. true≢false (sym a ∙ ap (λ l. is_among n l) none) }

module _ {T D R O : Type 0} (journal : T → Journal D R O) where
  -- where the book is out, the queue holds nothing
  empty_of : (out : Bool) (st : Option Settings) (h : List (Event D R O)) (items : List T) → IsAt journal out st h items → out ≡ true → items ≡ []
  empty_of out st h [] at o = refl
  empty_of out st h (b ∷ []) at o = absurd (true≢false (sym o ∙ at.0))
  empty_of out st h (b ∷ c ∷ rest) at o = absurd at

  single_of : (out : Bool) (st : Option Settings) (h : List (Event D R O)) (b : T) (items : List T) → IsAt journal out st h (b ∷ items)
      → (items ≡ []) × (out ≡ false) × (st ≡ Some (journal b).settings) × ((journal b).events ≡ h)
  single_of out st h b [] at = (refl, at.0, at.1, at.2)
  single_of out st h b (c ∷ rest) at = absurd at

  -- what a step of the pass p owes: w in place of v, and the queue, in a new state
  after : (items : List T) (views : List (Known D R O)) (p : ℕ) (v w : Known D R O) (r : Ruled journal items views) → get_elem? views p ≡ some v → v.live ≡ true
      → (out : Bool) (holder : ℕ) (st : Option Settings) (h : List (Event D R O)) (items' : List T) → IsAt journal out st h items'
      → Fits out holder r.session st h p w
      → ((j : ℕ) (u : Known D R O) → j ≢ p → u.live ≡ true → Fits r.out r.holder r.session r.settings r.history j u → Apart u v → Apart v u
      → Fits out holder r.session st h j u × Apart u w × Apart w u)
      → (out ≡ true → HasBook holder (set views p w))
      → w.session ≡ v.session → w.live ≡ true
      → Ruled journal items' (set views p w)
  after items views p v w r at live out holder st h items' place fits others held kind stays = record {
    out = out;
    holder = holder;
    session = r.session;
    settings = st;
    history = h;
    place = place;
    each = λ j u e l. ⊎_elim (λ (x : (j ≡ p) × (w ≡ u)). subst (λ (y : ℕ × Known D R O). Fits out holder r.session st h y.0 y.1) (λ i. (sym x.0 i, x.1 i)) fits)
        (λ (x : (j ≢ p) × (get_elem? views j ≡ some u)). (other j u x.0 x.1 l).0) (at_set views p j w u e);
    apart = λ i j a b n ea eb la lb.
        ⊎_elim (λ (x : (i ≡ p) × (w ≡ a)).
        ⊎_elim (λ (y : (j ≡ p) × (w ≡ b)). absurd (n (x.0 ∙ sym y.0)))
        (λ (y : (j ≢ p) × (get_elem? views j ≡ some b)). subst (λ c. Apart c b) x.1 (other j b y.0 y.1 lb).2) (at_set views p j w b eb))
        (λ (x : (i ≢ p) × (get_elem? views i ≡ some a)).
        ⊎_elim (λ (y : (j ≡ p) × (w ≡ b)). subst (λ c. Apart a c) y.1 (other i a x.0 x.1 la).1)
        (λ (y : (j ≢ p) × (get_elem? views j ≡ some b)). r.apart i j a b n x.1 y.1 la lb) (at_set views p j w b eb))
        (at_set views p i w a ea);
    held = held;
    served = still_served r.session p views v w at kind stays r.served;
  }
    where
      other : (j : ℕ) (u : Known D R O) → j ≢ p → get_elem? views j ≡ some u → u.live ≡ true → Fits out holder r.session st h j u × Apart u w × Apart w u
      other j u n e l = others j u n l (r.each j u e l) (r.apart j p u v n e at l live) (r.apart p j v u (λ s. n (sym s)) at e live l)

  -- make
  pub begins : Ruled journal [] (opening ∷ [])
  begins = record { out = true; holder = 0; session = 0; settings = None; history = []; place = refl; each = each; apart = apart; held = λ _. (opening, refl, refl, refl); served = (opening, refl, refl, refl) }
    where
      at_first : (j : ℕ) (u : Known D R O) → get_elem? (opening ∷ []) j ≡ some u → (j ≡ 0) × (opening ≡ u)
      at_first zero u e = (refl, some-injective opening u e)
      at_first (suc j) u e = absurd (some-ne-none u (sym e))

      fits : Fits {D = D} {R = R} {O = O} true 0 0 None [] 0 opening
      fits = record { begins = ([], refl); hears = tt; carries = refl; holding = λ _. (refl, refl, refl); own = λ _. (refl, refl); whole = λ _. refl; are_out = λ n a. absurd (true≢false (sym a)); once = tt }

      each : EachFits {D = D} {R = R} {O = O} true 0 0 None [] (opening ∷ [])
      each j u e l = let x = at_first j u e in subst (λ (y : ℕ × Known D R O). Fits true 0 0 None [] y.0 y.1) (λ i. (sym x.0 i, x.1 i)) fits

      apart : EachApart {D = D} {R = R} {O = O} (opening ∷ [])
      apart i j u v n eu ev lu lv = absurd (n ((at_first i u eu).0 ∙ sym (at_first j v ev).0))

  -- make: the book is put into its turn
  pub begins_push : (n p : ℕ) (v : Known D R O) (x : T) → v ≡ opening → Pushes (Ruled journal) n p v x (λ w. w ≡ begun (journal x))
  begins_push n p v x is items views room r at =
      let w : Known D R O = begun (journal x) in
      let live : v.live ≡ true = ap (λ (y : Known D R O). y.live) is in
      let alone : v.alone ≡ true = ap (λ (y : Known D R O). y.alone) is in
      let f = r.each p v at live in
      let hold = f.holding (ap (λ (y : Known D R O). y.holds) is) in
      let own = f.own (ap (λ (y : Known D R O). y.session) is) in
      let j = journal x in
      let place : IsAt journal false (Some j.settings) j.events (items ++ x ∷ []) =
      subst (λ l. IsAt journal false (Some j.settings) j.events (l ++ x ∷ [])) (sym (empty_of r.out r.settings r.history items r.place hold.0)) (refl, refl, refl) in
      let fits : Fits false r.holder r.session (Some j.settings) j.events p w = record {
        begins = prefix_refl j.events;
        hears = tt;
        carries = refl;
        holding = λ b. absurd (true≢false (sym b));
        own = λ _. (own.0, refl);
        whole = λ _. refl;
        are_out = λ m a. absurd (true≢false (sym a));
        once = tt;
      } in (
        w,
        after items views p v w r at live false r.holder (Some j.settings) j.events (items ++ x ∷ []) place fits
            (λ k u other l old a b. absurd (b.lone alone)) (λ o. absurd (true≢false (sym o)))
            (sym (ap (λ (y : Known D R O). y.session) is)) refl,
        refl,
      )

  -- where the pass holds the book, the queue holds nothing
  pub holder_learns : (p : ℕ) (v : Known D R O) → v.live ≡ true → v.holds ≡ true → Learns (Ruled journal) p v (λ items. items ≡ [])
  holder_learns p v live holds items views r at = empty_of r.out r.settings r.history items r.place ((r.each p v at live).holding holds).0

  -- a pass has heard beginnings of what it has seen
  pub hears_learns : (p : ℕ) (v : Known D R O) → v.live ≡ true → Learns (Ruled journal) p v (λ items. EachBegins v.heard v.seen)
  hears_learns p v live items views r at = (r.each p v at live).hears

  -- push
  pub leaves_push : (n p : ℕ) (v : Known D R O) (x : T) → v.live ≡ true → MayLeave v (journal x) → Pushes (Ruled journal) n p v x (λ w. w ≡ left v (journal x))
  leaves_push n p v x live may items views room r at =
      let j = journal x in
      let w : Known D R O = left v j in
      let es = added v.seen j.events in
      let f = r.each p v at live in
      let hold = f.holding may.holds in
      let whole : v.seen ++ es ≡ j.events = added_is v.seen j.events may.extends in
      let place : IsAt journal false r.settings j.events (items ++ x ∷ []) =
      subst (λ l. IsAt journal false r.settings j.events (l ++ x ∷ [])) (sym (empty_of r.out r.settings r.history items r.place hold.0)) (refl, sym f.carries ∙ may.carries, refl) in
      let out : AreOut v.tickets v.seen = subst (λ l. AreOut v.tickets l) (sym hold.2) f.are_out in
      let fits : Fits false r.holder r.session r.settings j.events p w = record {
        begins = prefix_refl j.events;
        hears = tt;
        carries = f.carries;
        holding = λ b. absurd (true≢false (sym b));
        own = λ s. (
          (f.own s).0,
          ap (λ l. l ++ es) ((f.own s).1 ∙ ap owned (sym hold.2)) ∙ ap (λ l. owned v.seen ++ l) (sym (all_owned es (subst (λ b. AllOwned b es) s may.own)))
              ∙ sym (owned_append v.seen es) ∙ ap owned whole,
        );
        whole = λ _. refl;
        are_out = subst (λ l. AreOut w.tickets l) whole (all_mine v.seen v.tickets es may.tickets out);
        once = all_once v.seen v.tickets es may.tickets out f.once;
      } in (
        w,
        after items views p v w r at live false r.holder r.settings j.events (items ++ x ∷ []) place fits
            (λ k u other l old a b.
            let still : (m : ℕ) → is_among m u.tickets ≡ true → IsOut m (v.seen ++ es) × (is_among m w.tickets ≢ true)
            = λ m t. all_theirs v.seen v.tickets es may.tickets m (subst (λ h. IsOut m h) (sym hold.2) (old.are_out m t)) (a.tickets m t) in
            let seen : IsPrefix u.seen v.seen = subst (λ h. IsPrefix u.seen h) (sym hold.2) old.begins in (
              record {
                begins = prefix_trans u.seen v.seen j.events seen may.extends;
                hears = old.hears;
                carries = old.carries;
                holding = λ h. absurd (other ((old.holding h).1 ∙ sym hold.1));
                own = λ s. let mine = old.own s in (
                  mine.0,
                  mine.1 ∙ ap owned (sym hold.2) ∙ sym (ap owned (sym whole) ∙ owned_append v.seen es ∙ ap (λ t. owned v.seen ++ t)
                      (others_own v.session es may.own (λ mine'. other (mine.0 ∙ sym (f.own mine').0))) ∙ append-nil (owned v.seen)),
                );
                whole = λ y. absurd (a.lone y);
                are_out = λ m t. subst (λ h. IsOut m h) whole (still m t).0;
                once = old.once;
              },
              record { lone = a.lone; tickets = λ m t. (still m t).1 },
              record { lone = b.lone; tickets = λ m t s. (still m s).1 t },
            ))
            (λ o. absurd (true≢false (sym o))) refl live,
        refl,
      )
    where
      others_own : (b : Bool) (es : List (Event D R O)) → AllOwned b es → b ≢ true → owned es ≡ []
      others_own true es h n = absurd (n refl)
      others_own false es h n = none_owned es h

  -- pop with the book
  pub enters_pop : (p : ℕ) (v : Known D R O) → v.live ≡ true → Pops (Ruled journal) p v (λ x w. (w ≡ entered v (journal x)) × Learned v (journal x))
  enters_pop p v live x items views r at =
      let j = journal x in
      let w : Known D R O = entered v j in
      let f = r.each p v at live in
      let one = single_of r.out r.settings r.history x items r.place in
      let fits : Fits true p r.session r.settings r.history p w = record {
        begins = subst (λ h. IsPrefix j.events h) one.3 (prefix_refl j.events);
        hears = tt;
        carries = f.carries;
        holding = λ _. (refl, refl, one.3);
        own = f.own;
        whole = λ _. one.3;
        are_out = f.are_out;
        once = f.once;
      } in (
        w,
        after (x ∷ items) views p v w r at live true p r.settings r.history items (subst (λ l. IsAt journal true r.settings r.history l) (sym one.0) refl) fits
            (λ k u other l old a b. (
              record {
                begins = old.begins;
                hears = old.hears;
                carries = old.carries;
                holding = λ h. absurd (true≢false (sym (old.holding h).0 ∙ one.1));
                own = old.own;
                whole = old.whole;
                are_out = old.are_out;
                once = old.once;
              },
              record { lone = a.lone; tickets = a.tickets },
              record { lone = b.lone; tickets = b.tickets },
            ))
            (λ _. (w, at_here views p v w at, live, refl)) refl live,
        (
          refl,
          record {
            carries = f.carries ∙ one.2;
            begins = subst (λ h. IsPrefix v.seen h) (sym one.3) f.begins;
            own = λ s. ap owned one.3 ∙ sym (f.own s).1;
            whole = λ a. one.3 ∙ sym (f.whole a);
            are_out = subst (λ h. AreOut v.tickets h) (sym one.3) f.are_out;
          },
        ),
      )

  -- a new pass, that has no ticket, beside passes that are not alone
  joins_in : (items : List T) (views : List (Known D R O)) (w : Known D R O) (r : Ruled journal items views) → Fits r.out r.holder r.session r.settings r.history (length views) w
      → ((j : ℕ) (u : Known D R O) → get_elem? views j ≡ some u → u.live ≡ true → u.alone ≢ true) → w.alone ≢ true → w.tickets ≡ []
      → Ruled journal items (views ++ w ∷ [])
  joins_in items views w r fits lone mine none = record {
    out = r.out;
    holder = r.holder;
    session = r.session;
    settings = r.settings;
    history = r.history;
    place = r.place;
    each = λ j u e l. ⊎_elim (λ x. r.each j u x l)
        (λ (x : (j ≡ length views) × (w ≡ u)). subst (λ (y : ℕ × Known D R O). Fits r.out r.holder r.session r.settings r.history y.0 y.1) (λ i. (sym x.0 i, x.1 i)) fits) (at_end views w u j e);
    apart = λ i j a b n ea eb la lb.
        ⊎_elim (λ (x : get_elem? views i ≡ some a).
        ⊎_elim (λ (y : get_elem? views j ≡ some b). r.apart i j a b n x y la lb)
        (λ (y : (j ≡ length views) × (w ≡ b)). no_tickets a b (lone i a x la) (ap (λ (z : Known D R O). z.tickets) (sym y.1) ∙ none)) (at_end views w b j eb))
        (λ (x : (i ≡ length views) × (w ≡ a)).
        ⊎_elim (λ (y : get_elem? views j ≡ some b). subst (λ z. Apart z b) x.1 (no_tickets' b w mine none))
        (λ (y : (j ≡ length views) × (w ≡ b)). absurd (n (x.0 ∙ sym y.0))) (at_end views w b j eb))
        (at_end views w a i ea);
    held = λ o. let b = r.held o in (b.0, at_front views w b.0 r.holder b.1, b.2, b.3);
    served = let b = r.served in (b.0, at_front views w b.0 r.session b.1, b.2, b.3);
  }

  -- split
  pub worker_forks : (p : ℕ) (v : Known D R O) → v.live ≡ true → Forks (Ruled journal) p v (after_split v) (worker_of v)
  unfolding after
  worker_forks p v live items views r at =
      let w : Known D R O = after_split v in
      let f = r.each p v at live in
      let fits : Fits r.out r.holder r.session r.settings r.history p w = record {
        begins = f.begins;
        hears = f.hears;
        carries = f.carries;
        holding = f.holding;
        own = f.own;
        whole = λ a. absurd (true≢false (sym a));
        are_out = f.are_out;
        once = f.once;
      } in
      let beside : Ruled journal items (set views p w) = after items views p v w r at live r.out r.holder r.settings r.history items r.place fits
      (λ k u other l old a b. (old, record { lone = a.lone; tickets = a.tickets }, record { lone = λ y. true≢false (sym y); tickets = b.tickets }))
      (λ o. still_held r.holder p views v w at (λ h. h) live (r.held o)) refl live in
      let new : Fits r.out r.holder r.session r.settings r.history (length (set views p w)) (worker_of v) = record {
        begins = f.begins;
        hears = tt;
        carries = f.carries;
        holding = λ h. absurd (true≢false (sym h));
        own = λ s. absurd (true≢false (sym s));
        whole = λ a. absurd (true≢false (sym a));
        are_out = λ n a. absurd (true≢false (sym a));
        once = tt;
      } in
      joins_in items (set views p w) (worker_of v) beside new
      (λ j u e l. ⊎_elim (λ (x : (j ≡ p) × (w ≡ u)). λ a. true≢false (sym (ap (λ (z : Known D R O). z.alone) x.1 ∙ a)))
      (λ (x : (j ≢ p) × (get_elem? views j ≡ some u)). (r.apart j p u v x.0 x.1 at l live).lone) (at_set views p j w u e))
      (λ a. true≢false (sym a)) refl

  -- a pass that does not hold the book is spent
  spends : (items : List T) (views : List (Known D R O)) (q : ℕ) (u : Known D R O) → Ruled journal items views → get_elem? views q ≡ some u → u.holds ≡ false → u.session ≡ false → Ruled journal items (set views q spent)
  spends items views q u r at free worker = record {
    out = r.out;
    holder = r.holder;
    session = r.session;
    settings = r.settings;
    history = r.history;
    place = r.place;
    each = λ j v e l. r.each j v (was j v e l) l;
    apart = λ i j a b n ea eb la lb. r.apart i j a b n (was i a ea la) (was j b eb lb) la lb;
    held = λ o. let b = r.held o in (
      b.0,
      at_else views q r.holder b.0 spent
          (λ s. let is : b.0 ≡ u = some-injective b.0 u (sym b.1 ∙ ap (λ i. get_elem? views i) s ∙ at) in true≢false (sym b.3 ∙ ap (λ (z : Known D R O). z.holds) is ∙ free))
          b.1,
      b.2,
      b.3,
    );
    served = let b = r.served in (
      b.0,
      at_else views q r.session b.0 spent
          (λ s. let is : b.0 ≡ u = some-injective b.0 u (sym b.1 ∙ ap (λ i. get_elem? views i) s ∙ at) in true≢false (sym b.3 ∙ ap (λ (z : Known D R O). z.session) is ∙ worker))
          b.1,
      b.2,
      b.3,
    );
  }
    where
      was : (j : ℕ) (v : Known D R O) → get_elem? (set views q spent) j ≡ some v → v.live ≡ true → get_elem? views j ≡ some v
      was j v e l = ⊎_elim (λ (x : (j ≡ q) × (spent ≡ v)). absurd (true≢false (sym (ap (λ (z : Known D R O). z.live) x.1 ∙ l)))) (λ (x : (j ≢ q) × (get_elem? views j ≡ some v)). x.1) (at_set views q j spent v e)

  -- join
  pub worker_merges : (p : ℕ) (v : Known D R O) (q : ℕ) (u : Known D R O) → v.live ≡ true → u.live ≡ true → u.holds ≡ false → u.session ≡ false → Merges (Ruled journal) p v q u (joined v u) spent
  worker_merges p v q u live alive free worker items views r at two at' =
      let w : Known D R O = joined v u in
      let f = r.each p v at live in
      let was : get_elem? views q ≡ some u = ⊎_elim (λ (x : (q ≡ p) × (w ≡ u)). absurd (two x.0)) (λ (x : (q ≢ p) × (get_elem? views q ≡ some u)). x.1) (at_set views p q w u at') in
      let g = r.each q u was alive in
      let fits : Fits r.out r.holder r.session r.settings r.history p w = record {
        begins = longer_prefix v.seen u.seen r.history f.begins g.begins;
        hears = longer_begins v.seen u.seen r.history f.begins g.begins;
        carries = f.carries;
        holding = λ h. ((f.holding h).0, (f.holding h).1, longer_whole v.seen u.seen r.history (f.holding h).2 g.begins);
        own = f.own;
        whole = λ a. longer_whole v.seen u.seen r.history (f.whole a) g.begins;
        are_out = f.are_out;
        once = f.once;
      } in
      let both : Ruled journal items (set views p w) = after items views p v w r at live r.out r.holder r.settings r.history items r.place fits
      (λ k y other l old a b. (old, record { lone = a.lone; tickets = a.tickets }, record { lone = b.lone; tickets = b.tickets }))
      (λ o. still_held r.holder p views v w at (λ h. h) live (r.held o)) refl live in
      spends items (set views p w) q u both at' free worker
