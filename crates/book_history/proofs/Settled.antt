-- where all links are joined, the last mark is the run from reset
use Rattle.std.proofs.Common.{◌≡◌, ℕ, zero, ◌-◌, List, [], ◌∷◌, ◌++◌, length, take, drop, sym, ◌∙◌, ap, arith, true, take_all}
use Rattle.std.specs.Prelude.{Option, Some, None}
use Rattle.machine.specs.Kit.{Kit, Laws}
use Rattle.book_history.specs.declared.segment.Segment.{Segment}
use Rattle.book_history.specs.declared.link.Link.{Link}
use Rattle.book_history.specs.declared.link.Link.TheVariants.{Open, Out, Joined}
use Rattle.book_history.specs.Book.{Book, Settings, Event, slice, last_cycle, last_state, all_joined, is_joined, replay}
use Rattle.book_history.specs.Truth.{Chain, SettledIsTruth}
use Rattle.book_history.specs.Legal.{Follows}
use Rattle.book_history.proofs.Slices.{slice_joins}
use Rattle.book_history.proofs.Kept.{Kept, chain_rises}
use Rattle.book_history.proofs.KeptInstall.{if_true}
use Rattle.book_history.proofs.Law.{InvOf, replay_kept}

pub settled_is : {D S R O : Type 0} (k : Kit D S R O) (fits : D → S → Type 0) (valid : D → D → O → Type 0) → Laws k fits valid
    → (F : S → Type 0) (J : Link → ℕ → S → ℕ → S → Type 0) (m : D) (rows : List R)
    → ((a : ℕ) (s : S) (b : ℕ) (e : S) → J Joined a s b e → k.seg m (slice rows a b) s ≡ e)
    → (a : ℕ) (s : S) (segs : List (Segment S)) → Chain F J a s segs → all_joined segs ≡ true
    → last_state s segs ≡ k.seg m (slice rows a (last_cycle a segs)) s
settled_is {D} {S} {R} k fits valid laws F J m rows run a s [] h e =
    let none : a - a ≡ zero = omega arith in
    sym (ap (λ (n : ℕ). k.seg m (take n (drop a rows)) s) none ∙ laws.seg_none m s)
settled_is {D} {S} {R} k fits valid laws F J m rows run a s (g ∷ gs) h e =
    let both = if_true (is_joined g.link) (all_joined gs) e in
    let ih = settled_is k fits valid laws F J m rows run g.to g.state gs h.3 both.1 in
    let rises = chain_rises F J g.to g.state gs h.3 in
    let here : k.seg m (slice rows a g.to) s ≡ g.state = joined g.link both.0 h.2 in
    let join : slice rows a g.to ++ slice rows g.to (last_cycle g.to gs) ≡ slice rows a (last_cycle g.to gs) = slice_joins rows a g.to (last_cycle g.to gs) (omega (arith, h.1)) rises in
    ih ∙ ap (λ (x : S). k.seg m (slice rows g.to (last_cycle g.to gs)) x) (sym here)
    ∙ sym (laws.seg_more m (slice rows a g.to) (slice rows g.to (last_cycle g.to gs)) s)
    ∙ ap (λ (x : List R). k.seg m x s) join
  where
    joined : (l : Link) → is_joined l ≡ true → J l a s g.to g.state → k.seg m (slice rows a g.to) s ≡ g.state
    joined Open i j = absurd cc
    joined (Out n) i j = absurd cc
    joined Joined i j = run a s g.to g.state j

pub inv_settled : {D S R O : Type 0} (k : Kit D S R O) (fits : D → S → Type 0) (valid : D → D → O → Type 0) → Laws k fits valid
    → (b : Option (Book D S R)) → InvOf k fits b → SettledIsTruth k b
inv_settled k fits valid laws None h = tt
inv_settled {D} {S} {R} k fits valid laws (Some c) h = λ e.
    let s = settled_is k fits valid laws (fits c.machine) (Kept k c.machine c.rows c.version c.tickets) c.machine c.rows (λ a s b x j. j.1) 0 c.first c.segs h.links e in
    let whole : slice c.rows 0 (length c.rows) ≡ c.rows = take_all _ _ (omega arith) in
    s ∙ ap (λ (n : ℕ). k.seg c.machine (slice c.rows 0 n) c.first) h.end_is ∙ ap (λ (x : List R). k.seg c.machine x c.first) whole ∙ ap (λ (x : S). k.seg c.machine c.rows x) h.first_is

pub legal_settled : {D S R O : Type 0} (k : Kit D S R O) (fits : D → S → Type 0) (valid : D → D → O → Type 0) → Laws k fits valid
    → (st : Settings) (h : List (Event D R O)) → Follows k valid st h → SettledIsTruth k (replay k st h)
legal_settled k fits valid laws st h l = inv_settled k fits valid laws (replay k st h) (replay_kept k fits valid laws st None h tt l)
