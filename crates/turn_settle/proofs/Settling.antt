-- Passes beside workers, and then a show.
use Rattle.std.proofs.Common.{◌≡◌, ℕ, ◌+◌, ◌≤◌, ◌<◌, ◌⊎◌, inl, inr, min, Bool, true, false, List, [], ◌∷◌, ◌++◌, length, Option, Some, None, if◌then◌else◌, refl, sym, ◌∙◌, ap, subst, arith}
use Rattle.std.proofs.lemmas.Bool.{cases_lt}
use Rattle.machine.specs.Kit.{Kit}
use Rattle.book_history.specs.declared.link.Link.{Link}
use Rattle.book_history.specs.declared.link.Link.TheVariants.{Open, Out, Joined}
use Rattle.book_history.specs.declared.segment.Segment.{Segment}
use Rattle.book_history.specs.Book.{Book, Settings, Event, Shows, replay, is_joined, lead, lead_past, all_joined, settled_to}
use Rattle.book_history.specs.Law.{lead_in}
use Rattle.book_history.specs.Legal.{Legal}
use Rattle.book_history.specs.Outline.{Outline, blank, outline_from}
use Rattle.book_history.specs.Owned.{owned, IsPrefix}
use Rattle.book_history.specs.Readers.{links_in}
use Rattle.book_history.proofs.Outlines.{legal_outline, outline-append, links_marked}
use Rattle.book_history.proofs.Prefixes.{legal_first}
use Rattle.segment_verify.proofs.Counting.{passes_outline}
use Rattle.segment_verify.proofs.Settling.{all_settled, enough}
use Rattle.book_turn.specs.Known.{Known}
use Rattle.book_turn.specs.Turns.{HasAdded}
use Rattle.book_turn.proofs.Turns.{adds_more}
use Rattle.checkpoint_book.specs.Views.{shown_in}
use Rattle.turn_settle.specs.Seen.{book_under, book_seen, IsLegalUnder}
use Rattle.turn_settle.specs.Visits.{IsVisit}
use Rattle.turn_settle.specs.Passed.{HasPassedBeside}
use Rattle.turn_settle.specs.Settled.{HasSettledBeside, HasTriedBeside}
use Rattle.turn_settle.proofs.Passing.{OthersLead, visit_leads, shows}

-- where all links are joined, all lead
lead_where_all : {S : Type 0} (xs : List (Segment S)) → all_joined xs ≡ true → length xs ≤ lead xs
lead_where_all [] all = omega arith
lead_where_all {S} (g ∷ gs) all = go g.link all (lead_where_all gs)
  where
    go : (l : Link) → (if is_joined l then all_joined gs else false) ≡ true → (all_joined gs ≡ true → length gs ≤ lead gs) → length (g ∷ gs) ≤ lead_past l (lead gs)
    go Open all ih = absurd cc
    go (Out n) all ih = absurd cc
    go Joined all ih = let rest = ih all in omega (arith, rest)

module _ {D S R O : Type 0} (k : Kit D S R O) where
  -- where a show answers settled, as many links lead as there are
  all_lead : (b : Option (Book D S R)) → shown_in b ≡ None → links_in b ≤ lead_in b
  all_lead None is = omega arith
  all_lead (Some c) is = go (all_joined c.segs) refl is
    where
      go : (t : Bool) → all_joined c.segs ≡ t → (if t then None else Some (settled_to 0 c.segs)) ≡ None → length c.segs ≤ lead c.segs
      go true all is = lead_where_all c.segs all
      go false all is = absurd cc

  module _ (valid : D → D → O → Type 0) where
    first_under : (o : Option Settings) (h g : List (Event D R O)) → IsPrefix h g → IsLegalUnder k valid o g → IsLegalUnder k valid o h
    first_under None h g begins legal = legal
    first_under (Some st) h g begins legal = legal_first k st valid h begins.0 (subst (λ (x : List (Event D R O)). Legal k valid st x) begins.1 legal)

    -- entries of the session that leave the outline leave the number of links, whatever others add
    links_under : (o : Option Settings) (h g es : List (Event D R O)) → IsPrefix h g → IsLegalUnder k valid o g → owned g ≡ owned h ++ es
        → ((st : Settings) (p : Outline D R) → outline_from st p es ≡ p) → links_in (book_under k o g) ≡ links_in (book_under k o h)
    links_under None h g es begins legal own leave = refl
    links_under (Some st) h g es begins legal own leave =
        let first : Legal k valid st h = first_under (Some st) h g begins legal in
        let same : outline_from {D = D} {R = R} {O = O} st blank (owned g) ≡ outline_from st blank (owned h) =
        ap (λ (x : List (Event D R O)). outline_from st blank x) own
        ∙ outline-append st blank (owned h) es
        ∙ leave st (outline_from st blank (owned h)) in
        links_marked (replay k st g)
        ∙ ap (λ (p : Outline D R). length p.marks) (legal_outline k valid st g legal ∙ same ∙ sym (legal_outline k valid st h first))
        ∙ sym (links_marked (replay k st h))

    links_behind : (v w : Known D R O) (es : List (Event D R O)) → HasAdded es v w → owned v.seen ≡ v.own → owned w.seen ≡ w.own → IsLegalUnder k valid w.settings w.seen
        → ((st : Settings) (p : Outline D R) → outline_from st p es ≡ p) → links_in (book_seen k w) ≡ links_in (book_seen k v)
    links_behind v w es added mine own legal leave =
        ap (λ (o : Option Settings). links_in (book_under k o w.seen)) added.settings
        ∙ links_under v.settings v.seen w.seen es added.begins (subst (λ (o : Option Settings). IsLegalUnder k valid o w.seen) added.settings legal)
        (own ∙ added.own ∙ ap (λ (x : List (Event D R O)). x ++ es) (sym mine)) leave

    module _ (v w x : Known D R O) (n : ℕ) (answer : Option ℕ) (h : HasPassedBeside k v w n) (t : IsVisit k valid (Shows answer ∷ []) w x) (others : OthersLead k valid)
        (mine : owned v.seen ≡ v.own) (own : owned w.seen ≡ w.own) where
      all_added : HasAdded (h.own ++ Shows answer ∷ []) v x
      all_added = adds_more h.own (Shows answer ∷ []) v w x h.added t.added

      links_then : links_in (book_seen k w) ≡ links_in (book_seen k v)
      links_then =
          let legal : IsLegalUnder k valid w.settings w.seen =
          first_under w.settings w.seen x.seen t.added.begins (subst (λ (o : Option Settings). IsLegalUnder k valid o x.seen) t.added.settings t.legal) in
          links_behind v w h.own h.added mine own legal (λ st p. passes_outline st p n h.own h.are)

      links_now : links_in (book_seen k x) ≡ links_in (book_seen k w)
      links_now = links_behind w x (Shows answer ∷ []) t.added own t.own t.legal (λ st p. refl)

      leads_now : lead_in (book_seen k w) ≤ lead_in (book_seen k x)
      leads_now = visit_leads k valid others (Shows answer ∷ []) (shows k answer) w x t

      stopped : (most passes links : ℕ) → links ≡ links_in (book_seen k v) → most ≡ min passes links → n ≤ most → (n < most → shown_in (book_seen k w) ≡ None)
          → (n < passes) ⊎ (links ≤ passes) → shown_in (book_seen k x) ≡ None
      stopped most passes links are is few stops why = all_settled (book_seen k x) (go (cases_lt n most))
        where
          go : (n < most) ⊎ (most ≤ n) → links_in (book_seen k x) ≤ lead_in (book_seen k x)
          go (inl lt) = let all = all_lead (book_seen k w) (stops lt) in omega (arith, all, links_now, leads_now)
          go (inr le) = let all = enough n most passes links is few le why in omega (arith, all, are, links_now, links_then, leads_now, h.leads)

      pub settled_by : (most passes links : ℕ) → links ≡ links_in (book_seen k v) → most ≡ min passes links → n ≤ most → (n < most → shown_in (book_seen k w) ≡ None)
          → answer ≡ shown_in (book_seen k x) → HasSettledBeside k v x passes answer
      settled_by most passes links are min_is few stops is =
          record {
            own = h.own ++ Shows answer ∷ [];
            added = all_added;
            is_settle = record {
              passes = h.own;
              count = n;
              answer = answer;
              split = refl;
              are = h.are;
              few = omega (arith, few, min_is);
              stops = λ lt. is ∙ stopped most passes links are min_is few stops (inl lt);
              all = λ le. is ∙ stopped most passes links are min_is few stops (inr (omega (arith, are, le)));
            };
            answers = refl;
            within = omega (arith, few, min_is, are);
            leads = omega (arith, h.leads, leads_now);
          }

-- behind a turn without entries
pub tried_behind : {D R O : Type 0} (v w x : Known D R O) (n m : ℕ) → n ≡ m → HasAdded [] v w → HasTriedBeside w x n → HasTriedBeside v x m
tried_behind v w x n m is added h =
    record { own = h.own; added = adds_more [] h.own v w x added h.added; unfinished = h.unfinished; few = omega (arith, is, h.few) }
