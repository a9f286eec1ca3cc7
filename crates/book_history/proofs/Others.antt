-- What entries that aren't the session's own leave of a book.
use Rattle.std.proofs.Common.{◌≡◌, ℕ, ◌+◌, ◌≤◌, List, [], ◌∷◌, ◌++◌, length, refl, sym, ◌∙◌, ap, subst, arith, append_assoc, append-nil, Bool, true, false}
use Rattle.std.specs.Prelude.{Option, Some, None, if◌then◌else◌}
use Rattle.machine.specs.Kit.{Kit}
use Rattle.book_history.specs.declared.who.Who.{Who}
use Rattle.book_history.specs.Book.{Book, Settings, Event, Opens, Runs, Reloads, Claims, Installs, Releases, Shows, Closes, apply, replay_from, replay}
use Rattle.book_history.specs.Legal.{MayCome, Legal}
use Rattle.book_history.specs.Law.{AreCalm, LeadFallsNot, lead_in}
use Rattle.book_history.specs.Outline.{Outline, outline_in, outline_from}
use Rattle.book_history.specs.Outs.{tickets_drawn}
use Rattle.book_history.specs.Owned.{is_owned, owned}
use Rattle.book_history.specs.Readers.{links_in}
use Rattle.book_history.specs.Rooms.{Counts, count, count_kind, count_all, one_if, KindFits, RoomsFrom, out_in}
use Rattle.book_history.specs.Kind.{Kind, SessionsOwn, DrawsTicket, UsesTicket, EndsClaims, kind_of}
use Rattle.book_history.specs.declared.who.Who.TheVariants.{Session, Worker}
use Rattle.book_history.specs.Owned.{is_of_session}
use Rattle.book_history.specs.Tickets.{is_drawn, is_used}
use Rattle.book_history.proofs.Bridge.{next_is_new}
use Rattle.book_history.proofs.Currents.{legal_at}
use Rattle.book_history.proofs.Outlines.{outline_more, owned_outline, links_marked}
use Rattle.book_history.proofs.Places.{replay-append}
use Rattle.std.proofs.lemmas.Bool.{cond_both}

module _ {D R O : Type 0} where
  others_head : (z : Event D R O) (zs : List (Event D R O)) → owned (z ∷ zs) ≡ [] → (is_owned z ≡ false) × (owned zs ≡ [])
  others_head z zs h = go (is_owned z) h
    where
      go : (t : Bool) → (if t then z ∷ owned zs else owned zs) ≡ [] → (t ≡ false) × (owned zs ≡ [])
      go true e = absurd cc
      go false e = (refl, e)

  pub others_calm : (zs : List (Event D R O)) → owned zs ≡ [] → AreCalm zs
  others_calm [] h = tt
  others_calm (Opens v m ∷ zs) h = absurd cc
  others_calm (Runs n rows ∷ zs) h = absurd cc
  others_calm (Reloads v m ops from ∷ zs) h = absurd cc
  others_calm (Claims n a b by ∷ zs) h = (tt, others_calm zs (others_head (Claims n a b by) zs h).1)
  others_calm (Installs n j by ∷ zs) h = (tt, others_calm zs (others_head (Installs n j by) zs h).1)
  others_calm (Releases n by ∷ zs) h = (tt, others_calm zs (others_head (Releases n by) zs h).1)
  others_calm (Shows s ∷ zs) h = absurd cc
  others_calm (Closes ∷ zs) h = absurd cc

module _ {D S R O : Type 0} (k : Kit D S R O) (st : Settings) where
  lead_one : (b : Option (Book D S R)) (e : Event D R O) → is_owned e ≡ false → LeadFallsNot k st b e → lead_in b ≤ lead_in (replay_from k st b (e ∷ []))
  lead_one None e own f = omega arith
  lead_one (Some c) (Opens v m) own f = absurd cc
  lead_one (Some c) (Runs n rows) own f = absurd cc
  lead_one (Some c) (Reloads v m ops from) own f = absurd cc
  lead_one (Some c) (Claims n a b by) own f = f.leads
  lead_one (Some c) (Installs n j by) own f = f.leads
  lead_one (Some c) (Releases n by) own f = f.leads
  lead_one (Some c) (Shows s) own f = absurd cc
  lead_one (Some c) Closes own f = absurd cc

  module _ (valid : D → D → O → Type 0) where
    -- others make no fewer links lead, where the law says so of each entry
    pub lead_among : ((xs ys : List (Event D R O)) (e : Event D R O) → Legal k valid st (xs ++ e ∷ ys) → LeadFallsNot k st (replay k st xs) e)
        → (h zs : List (Event D R O)) → owned zs ≡ [] → Legal k valid st (h ++ zs) → lead_in (replay k st h) ≤ lead_in (replay k st (h ++ zs))
    lead_among leads h [] own l = omega (arith, ap (λ (x : List (Event D R O)). lead_in (replay k st x)) (append-nil h))
    lead_among leads h (z ∷ zs) own l =
        let head = others_head z zs own in
        let here = lead_one (replay k st h) z head.0 (leads h zs z l) in
        let again = append_assoc h (z ∷ []) zs in
        let rest = lead_among leads (h ++ z ∷ []) zs head.1 (subst (λ (x : List (Event D R O)). Legal k valid st x) (sym again) l) in
        omega (arith, here, rest, ap (λ (b : Option (Book D S R)). lead_in b) (replay-append k st None h (z ∷ [])), ap (λ (x : List (Event D R O)). lead_in (replay k st x)) again)

    -- others leave the outline
    pub outline_among : (h zs : List (Event D R O)) → owned zs ≡ [] → Legal k valid st (h ++ zs) → outline_in (replay k st (h ++ zs)) ≡ outline_in (replay k st h)
    outline_among h zs own l =
        outline_more k valid st h zs l ∙ owned_outline st (outline_in (replay k st h)) zs ∙ ap (λ (x : List (Event D R O)). outline_from st (outline_in (replay k st h)) x) own

    pub links_among : (h zs : List (Event D R O)) → owned zs ≡ [] → Legal k valid st (h ++ zs) → links_in (replay k st (h ++ zs)) ≡ links_in (replay k st h)
    links_among h zs own l =
        links_marked (replay k st (h ++ zs)) ∙ ap (λ (o : Outline D R). length o.marks) (outline_among h zs own l) ∙ sym (links_marked (replay k st h))

    -- a claim's ticket is new at its place
    pub new_ticket : (h ys : List (Event D R O)) (n a b : ℕ) (by : Who) → Legal k valid st (h ++ Claims n a b by ∷ ys) → (is_drawn n h ≡ false) × (is_used n h ≡ false)
    new_ticket h ys n a b by l =
        let at = legal_at k valid st None h (Claims n a b by) ys l.follows in
        next_is_new k st valid h at.0 n (number (replay k st h) at.1)
      where
        number : (c : Option (Book D S R)) → MayCome k valid st c (Claims n a b by) → n ≡ tickets_drawn c + 1
        number None m = absurd m
        number (Some c) m = m.0

-- the session's entries are counted, a close apart

owned_one : (st : Settings) (n : Counts) (out : ℕ) (x : Kind) → is_of_session x ≡ true → KindFits st n out x → (count_kind n x).session + one_if (count_kind n x).closed ≡ n.session + one_if n.closed + 1
owned_one st n out SessionsOwn own f = omega arith
owned_one st n out (DrawsTicket i Session) own f = omega arith
owned_one st n out (DrawsTicket i (Worker w)) own f = absurd cc
owned_one st n out (UsesTicket i Session) own f = omega arith
owned_one st n out (UsesTicket i (Worker w)) own f = absurd cc
owned_one st n out EndsClaims own f = omega (arith, ap one_if f)

others_none : (n : Counts) (x : Kind) → is_of_session x ≡ false → (count_kind n x).session + one_if (count_kind n x).closed ≡ n.session + one_if n.closed
others_none n SessionsOwn own = absurd cc
others_none n (DrawsTicket i Session) own = absurd cc
others_none n (DrawsTicket i (Worker w)) own = omega arith
others_none n (UsesTicket i Session) own = absurd cc
others_none n (UsesTicket i (Worker w)) own = omega arith
others_none n EndsClaims own = absurd cc

module _ {D S R O : Type 0} (k : Kit D S R O) (st : Settings) where
  pub owned_length : (n : Counts) (b : Option (Book D S R)) (h : List (Event D R O)) → RoomsFrom k st n b h
      → (count_all n h).session + one_if (count_all n h).closed ≡ n.session + one_if n.closed + length (owned h)
  owned_length n b [] r = omega arith
  owned_length n b (e ∷ es) r =
      let ih = owned_length (count n e) (apply k st b e) es r.1 in
      cond_both (is_owned e) (e ∷ owned es) (owned es)
      (λ (x : List (Event D R O)). (count_all (count n e) es).session + one_if (count_all (count n e) es).closed ≡ n.session + one_if n.closed + length x)
      (λ own. omega (arith, ih, owned_one st n (out_in b) (kind_of e) own r.0))
      (λ un. omega (arith, ih, others_none n (kind_of e) un))
