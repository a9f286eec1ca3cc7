-- The marks up to the end of the leading joined links are the truth, and the last mark stands at the current cycle.
use Rattle.std.proofs.Common.{◌≡◌, ℕ, ◌-◌, List, [], ◌∷◌, ◌++◌, take, sym, ◌∙◌, ap, arith, true}
use Rattle.std.specs.Prelude.{Option, Some, None}
use Rattle.machine.specs.Kit.{Kit, Laws}
use Rattle.book_history.specs.declared.segment.Segment.{Segment}
use Rattle.book_history.specs.declared.link.Link.{Link}
use Rattle.book_history.specs.declared.link.Link.TheVariants.{Open, Out, Joined}
use Rattle.book_history.specs.Book.{Book, Settings, Event, slice, is_joined, replay}
use Rattle.book_history.specs.Truth.{Chain, truth_at, LeadingAreTrue, LeadsInTruth, EndsAtCycle}
use Rattle.book_history.specs.Legal.{Follows}
use Rattle.book_history.proofs.Slices.{slice_joins}
use Rattle.book_history.proofs.Kept.{Kept}
use Rattle.book_history.proofs.Law.{InvOf, replay_kept}

front : {R : Type 0} (rows : List R) (b : ℕ) → slice rows 0 b ≡ take b rows
front rows b = let n : b - 0 ≡ b = omega arith in ap (λ (i : ℕ). take i rows) n

module _ {D S R O : Type 0} (k : Kit D S R O) (fits : D → S → Type 0) (valid : D → D → O → Type 0) (laws : Laws k fits valid) where
  leading_true : (c : Book D S R) (v : ℕ) (F : S → Type 0) (a : ℕ) (s : S) (segs : List (Segment S)) → s ≡ truth_at k c a
      → Chain F (Kept k c.machine c.rows v c.tickets) a s segs → LeadingAreTrue k c segs
  leading_true c v F a s [] start h = tt
  leading_true c v F a s (g ∷ gs) start h = λ joined.
      let here : k.seg c.machine (slice c.rows a g.to) s ≡ g.state = run g.link joined h.2 in
      let whole : take a c.rows ++ slice c.rows a g.to ≡ take g.to c.rows =
      ap (λ (x : List R). x ++ slice c.rows a g.to) (sym (front c.rows a)) ∙ slice_joins c.rows 0 a g.to (omega arith) (omega (arith, h.1)) ∙ front c.rows g.to in
      let truth : g.state ≡ truth_at k c g.to =
      sym here ∙ ap (λ (x : S). k.seg c.machine (slice c.rows a g.to) x) start
      ∙ sym (laws.seg_more c.machine (take a c.rows) (slice c.rows a g.to) (k.start c.machine))
      ∙ ap (λ (x : List R). k.seg c.machine x (k.start c.machine)) whole in
      (truth, leading_true c v F g.to g.state gs truth h.3)
    where
      run : (l : Link) → is_joined l ≡ true → Kept k c.machine c.rows v c.tickets l a s g.to g.state → k.seg c.machine (slice c.rows a g.to) s ≡ g.state
      run Open i j = absurd cc
      run (Out n) i j = absurd cc
      run Joined i j = j.1

  inv_leading : (b : Option (Book D S R)) → InvOf k fits b → LeadsInTruth k b
  inv_leading None h = tt
  inv_leading (Some c) h = leading_true c c.version (fits c.machine) 0 c.first c.segs (h.first_is ∙ sym (laws.seg_none c.machine (k.start c.machine))) h.links

  inv_ends : (b : Option (Book D S R)) → InvOf k fits b → EndsAtCycle b
  inv_ends None h = tt
  inv_ends (Some c) h = h.end_is

  pub legal_leading : (st : Settings) (h : List (Event D R O)) → Follows k valid st h → LeadsInTruth k (replay k st h)
  legal_leading st h l = inv_leading (replay k st h) (replay_kept k fits valid laws st None h tt l)

  pub legal_ends : (st : Settings) (h : List (Event D R O)) → Follows k valid st h → EndsAtCycle (replay k st h)
  legal_ends st h l = inv_ends (replay k st h) (replay_kept k fits valid laws st None h tt l)
