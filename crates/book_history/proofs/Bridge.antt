-- What a history says of its tickets, and what the replayed book does.
use Rattle.std.proofs.Common.{◌≡◌, ℕ, suc, ◌+◌, ◌<◌, ◌≤◌, false, List, [], ◌∷◌, ◌++◌, length, Option, Some, None, eqb, refl, sym, ap, ◌∙◌, subst, arith}
use Rattle.std.proofs.lemmas.Bool.{cond_both, cond-false, ne_eqb, or_from, or_parts}
use Rattle.machine.specs.Kit.{Kit}
use Rattle.book_history.specs.declared.who.Who.{Who}
use Rattle.book_history.specs.Book.{DrawnTicket, Book, Settings, Event, Opens, Runs, Reloads, Claims, Installs, Releases, Shows, Closes, drawn, takes, first_link, claim_found, install_found, with_segs, with_used, is_current, joined, result_of, step, apply, replay_from, replay}
use Rattle.book_history.specs.Legal.{MayCome, LegalFrom, Follows}
use Rattle.book_history.specs.Tickets.{is_among, draws, uses, is_drawn, is_used}
use Rattle.book_history.specs.Outs.{IsOutFor, tickets_drawn}
use Rattle.book_history.proofs.KeptInstall.{drawn_within}
use Rattle.book_history.proofs.Places.{replay-append}

module _ {D S R O : Type 0} (k : Kit D S R O) (st : Settings) where
  abbrev Is : Book D S R → ℕ → DrawnTicket D S R → Type 0
  Is c n t = (drawn n c.tickets ≡ Some t) × (is_among n c.used ≡ false)

  claim_is : (c : Book D S R) (by : Who) (o : Option (ℕ × ℕ × S)) (n : ℕ) (t : DrawnTicket D S R) → Is c n t → Is (claim_found c by o) n t
  claim_is c by None n t h = h
  claim_is c by (Some f) n t h = let w = drawn_within n c.tickets t h.0 in (cond-false _ _ _ (ne_eqb n (length c.tickets + 1) (λ e. omega arith)) ∙ h.0, h.1)

  install_is : (c : Book D S R) (m : ℕ) (o : Option (DrawnTicket D S R)) (n : ℕ) (t : DrawnTicket D S R) → eqb n m ≡ false → Is c n t → Is (install_found k c m o) n t
  install_is c m None n t u h = h
  install_is c m (Some s) n t u h =
      cond_both (is_current k c s) (with_segs c (joined k c.machine s (result_of k s) 0 c.first c.segs)) c (λ x. Is (with_used x m) n t) (λ _. (h.0, or_from (eqb n m) (is_among n c.used) u h.1)) (λ _. (h.0, or_from (eqb n m) (is_among n c.used) u h.1))

  step_is : (c : Book D S R) (e : Event D R O) (n : ℕ) (t : DrawnTicket D S R) → uses n e ≡ false → Is c n t → Is (step k st c e) n t
  step_is c (Opens v m) n t u h = h
  step_is c (Runs i rows) n t u h = h
  step_is c (Reloads v m ops from) n t u h = h
  step_is c (Claims i a b by) n t u h = claim_is c by (first_link (takes by) 0 c.first c.segs) n t h
  step_is c (Installs i j by) n t u h = install_is c i (drawn i c.tickets) n t u h
  step_is c (Releases i by) n t u h = (h.0, or_from (eqb n i) (is_among n c.used) u h.1)
  step_is c (Shows s) n t u h = h
  step_is c Closes n t u h = h

  outs_from : (b : Option (Book D S R)) (es : List (Event D R O)) (n : ℕ) (t : DrawnTicket D S R) (by : Who) → IsOutFor b n t by → is_used n es ≡ false → IsOutFor (replay_from k st b es) n t by
  outs_from b [] n t by o u = o
  outs_from None (e ∷ es) n t by o u = absurd o
  outs_from (Some c) (e ∷ es) n t by o u =
      let s = step_is c e n t (or_parts (uses n e) (is_used n es) u).0 (o.0, o.2) in
      outs_from (Some (step k st c e)) es n t by (s.0, o.1, s.1) (or_parts (uses n e) (is_used n es) u).1

  -- a ticket that is out stays so until an entry uses it up
  pub still_out : (h es : List (Event D R O)) (n : ℕ) (t : DrawnTicket D S R) (by : Who) → IsOutFor (replay k st h) n t by → is_used n es ≡ false → IsOutFor (replay k st (h ++ es)) n t by
  still_out h es n t by o u = subst (λ b. IsOutFor b n t by) (sym (replay-append k st None h es)) (outs_from (replay k st h) es n t by o u)

  claim_grows : (c : Book D S R) (by : Who) (o : Option (ℕ × ℕ × S)) → length c.tickets ≤ length (claim_found c by o).tickets
  claim_grows c by None = omega arith
  claim_grows c by (Some f) = omega arith

  install_grows : (c : Book D S R) (m : ℕ) (o : Option (DrawnTicket D S R)) → length c.tickets ≤ length (install_found k c m o).tickets
  install_grows c m None = omega arith
  install_grows c m (Some s) = cond_both (is_current k c s) (with_segs c (joined k c.machine s (result_of k s) 0 c.first c.segs)) c (λ x. length c.tickets ≤ length (with_used x m).tickets) (λ _. omega arith) (λ _. omega arith)

  grows : (b : Option (Book D S R)) (e : Event D R O) → tickets_drawn b ≤ tickets_drawn (apply k st b e)
  grows None e = omega arith
  grows (Some c) (Opens v m) = omega arith
  grows (Some c) (Runs i rows) = omega arith
  grows (Some c) (Reloads v m ops from) = omega arith
  grows (Some c) (Claims i a b by) = claim_grows c by (first_link (takes by) 0 c.first c.segs)
  grows (Some c) (Installs i j by) = install_grows c i (drawn i c.tickets)
  grows (Some c) (Releases i by) = omega arith
  grows (Some c) (Shows s) = omega arith
  grows (Some c) Closes = omega arith

  all_grow : (b : Option (Book D S R)) (es : List (Event D R O)) → tickets_drawn b ≤ tickets_drawn (replay_from k st b es)
  all_grow b [] = omega arith
  all_grow b (e ∷ es) = omega (arith, grows b e, all_grow (apply k st b e) es)

  module _ (valid : D → D → O → Type 0) where
    -- an entry names no ticket beyond those drawn after it
    names : (b : Option (Book D S R)) (e : Event D R O) → MayCome k valid st b e → (n : ℕ) → tickets_drawn (apply k st b e) < n → (draws n e ≡ false) × (uses n e ≡ false)
    names None (Opens v m) may n l = (refl, refl)
    names None (Runs i rows) may n l = absurd may
    names None (Reloads v m ops from) may n l = absurd may
    names None (Claims i a b by) may n l = absurd may
    names None (Installs i j by) may n l = absurd may
    names None (Releases i by) may n l = absurd may
    names None (Shows s) may n l = absurd may
    names None Closes may n l = (refl, refl)
    names (Some c) (Opens v m) may n l = (refl, refl)
    names (Some c) (Runs i rows) may n l = (refl, refl)
    names (Some c) (Reloads v m ops from) may n l = (refl, refl)
    names (Some c) (Claims i a b by) may n l =
        let more : length (claim_found c by (first_link (takes by) 0 c.first c.segs)).tickets ≡ suc (length c.tickets) = ap (λ o. length (claim_found c by o).tickets) may.1.1 in
        (ne_eqb n i (λ e. omega (arith, may.0, more)), refl)
    names (Some c) (Installs i j by) may n l =
        let w = drawn_within i c.tickets may.0 may.1 in let g = install_grows c i (drawn i c.tickets) in (refl, ne_eqb n i (λ e. omega arith))
    names (Some c) (Releases i by) may n l = let w = drawn_within i c.tickets may.0 may.1 in (refl, ne_eqb n i (λ e. omega arith))
    names (Some c) (Shows s) may n l = (refl, refl)
    names (Some c) Closes may n l = (refl, refl)

    fresh_from : (b : Option (Book D S R)) (es : List (Event D R O)) → LegalFrom k valid st b es → (n : ℕ) → tickets_drawn (replay_from k st b es) < n → (is_drawn n es ≡ false) × (is_used n es ≡ false)
    fresh_from b [] l n lt = (refl, refl)
    fresh_from b (e ∷ es) l n lt =
        let r = fresh_from (apply k st b e) es l.1 n lt in
        let h = names b e l.0 n (omega (arith, all_grow (apply k st b e) es)) in
        (or_from (draws n e) (is_drawn n es) h.0 r.0, or_from (uses n e) (is_used n es) h.1 r.1)

    -- the number of the next ticket is new to a legal history
    pub next_is_new : (h : List (Event D R O)) → Follows k valid st h → (n : ℕ) → n ≡ tickets_drawn (replay k st h) + 1 → (is_drawn n h ≡ false) × (is_used n h ≡ false)
    next_is_new h l n is = fresh_from None h l n (omega arith)
