-- The marks of a run that come behind those of the book, one by one.
use Rattle.std.proofs.Common.{◌≡◌, ℕ, suc, ◌+◌, ◌-◌, ◌*◌, ◌<◌, ◌≤◌, List, [], ◌∷◌, ◌++◌, length, sym, ◌∙◌, ap, subst, arith, append_assoc, append-nil, true, false}
use Rattle.std.specs.Prelude.{leb}
use Rattle.std.proofs.lemmas.Bool.{le-leb, lt-leb}
use Rattle.machine.specs.Kit.{Kit}
use Rattle.machine.specs.Rows.{between}
use Rattle.book_history.specs.declared.segment.Segment.{Segment}
use Rattle.book_history.specs.declared.link.Link.TheVariants.{Joined}
use Rattle.book_history.specs.Book.{slice, last_state, simulated, extend, grid}
use Rattle.book_history.proofs.Kept.{last_state-snoc}
use Rattle.book_history.proofs.Lead.{extend_plain}
use Rattle.checkpoint_book.specs.Grid.{next_mark, AgreeFrom}
use Rattle.checkpoint_book.proofs.Grids.{grid_step}
use Rattle.checkpoint_book.proofs.Thins.{taken_more}

-- so many marks were counted up to the cycle `at`
pub record Counted (interval links c at end count : ℕ) : Type 0 where
  pub sum : count + length (grid interval at (end - at)) ≡ links + length (grid interval c (end - c))
  pub few : count < 1024
  pub within : at ≤ end

pub counted_more : (interval links c at end count next : ℕ) → 1 ≤ interval → at < end → next ≡ next_mark interval at end → next ≤ end → count + 1 < 1024
    → Counted interval links c at end count → Counted interval links c next end (count + 1)
counted_more interval links c at end count next pos lt is within few h =
    let step : length (grid interval at (end - at)) ≡ suc (length (grid interval next (end - next))) =
    ap (λ (l : List ℕ). length l) (grid_step interval at end pos lt) ∙ ap (λ (n : ℕ). suc (length (grid interval n (end - n)))) (sym is) in
    record { sum = omega (arith, step, h.sum); few = few; within = within }

pub counted_all : (interval links c at end count : ℕ) → end ≤ at → Counted interval links c at end count → true ≡ leb (links + 1 + length (grid interval c (end - c))) 1024
counted_all interval links c at end count le h =
    let none : end - at ≡ 0 = omega (arith, le) in
    let empty : length (grid interval at (end - at)) ≡ 0 = ap (λ (n : ℕ). length (grid interval at n)) none in
    sym (le-leb (links + 1 + length (grid interval c (end - c))) 1024 (omega (arith, h.sum, h.few, empty)))

-- one mark more, while there is a next one, is one too many
pub counted_full : (interval links c at end count : ℕ) → 1 ≤ interval → at < end → count + 1 ≡ 1024 → Counted interval links c at end count
    → false ≡ leb (links + 1 + length (grid interval c (end - c))) 1024
counted_full interval links c at end count pos lt full h =
    let step : length (grid interval at (end - at)) ≡ suc (length (grid interval (next_mark interval at end) (end - next_mark interval at end))) =
    ap (λ (l : List ℕ). length l) (grid_step interval at end pos lt) in
    sym (lt-leb (links + 1 + length (grid interval c (end - c))) 1024 (omega (arith, step, h.sum, full)))

-- what each turn of the loop keeps
pub record Marked {D S R O : Type 0} (k : Kit D S R O) (fits : S → Type 0) (m : D) (rows : ℕ × List R) (from : S) (marks : List (Segment S)) (interval c at end w before after : ℕ) : Type 0 where
  pub items : (all : List R) → AgreeFrom c end rows all
      → marks ++ simulated k m all at (last_state from marks) (grid interval at (end - at)) ≡ simulated k m all c from (grid interval c (end - c))
  pub fit : fits (last_state from marks)
  pub begun : c ≤ at
  pub within : at ≤ end
  pub taken : after ≡ before + (at - c) * w

pub marked_none : {D S R O : Type 0} (k : Kit D S R O) (fits : S → Type 0) (m : D) (rows : ℕ × List R) (from : S) (marks : List (Segment S)) (interval c end w steps : ℕ)
    → marks ≡ [] → fits from → c ≤ end → Marked k fits m rows from marks interval c c end w steps steps
marked_none {D} {S} k fits m rows from marks interval c end w steps none fit rises =
    let zero_steps : (c - c) * w ≡ 0 * w = let z : c - c ≡ 0 = omega arith in ap (λ (x : ℕ). x * w) z in
    record {
      items = λ all agree. ap (λ (l : List (Segment S)). l ++ simulated k m all c (last_state from l) (grid interval c (end - c))) none;
      fit = subst (λ (l : List (Segment S)). fits (last_state from l)) (sym none) fit;
      begun = omega arith;
      within = rises;
      taken = omega (arith, zero_steps);
    }

pub marked_more : {D S R O : Type 0} (k : Kit D S R O) (fits : S → Type 0) (m : D) (rows : ℕ × List R) (from : S) (marks marks' : List (Segment S)) (interval c at end next w before after after' : ℕ) (s : S)
    → 1 ≤ interval → at < end → next ≡ next_mark interval at end → at < next → next ≤ end
    → Marked k fits m rows from marks interval c at end w before after → fits s
    → s ≡ k.seg m (between rows at next) (last_state from marks) → after' ≡ after + (next - at) * w
    → marks' ≡ marks ++ record { link = Joined; to = next; state = s } ∷ []
    → Marked k fits m rows from marks' interval c next end w before after'
marked_more {D} {S} {R} k fits m rows from marks marks' interval c at end next w before after after' s pos lt is rises within h fit state taken new =
    let seg : Segment S = record { link = Joined; to = next; state = s } in
    let last : last_state from marks' ≡ s = ap (λ (l : List (Segment S)). last_state from l) new ∙ last_state-snoc from marks seg in
    record {
      items = λ all agree.
          let run : s ≡ k.seg m (slice all at next) (last_state from marks) =
          state ∙ ap (λ (x : List R). k.seg m x (last_state from marks)) (agree at next h.begun within) in
          let step : simulated k m all at (last_state from marks) (grid interval at (end - at)) ≡ seg ∷ simulated k m all next s (grid interval next (end - next)) =
          ap (λ (cs : List ℕ). simulated k m all at (last_state from marks) cs) (grid_step interval at end pos lt)
          ∙ ap (λ (n : ℕ). simulated k m all at (last_state from marks) (n ∷ grid interval n (end - n))) (sym is)
          ∙ ap (λ (x : S). record { link = Joined; to = next; state = x } ∷ simulated k m all next x (grid interval next (end - next))) (sym run) in
          ap (λ (x : S). marks' ++ simulated k m all next x (grid interval next (end - next))) last
          ∙ ap (λ (l : List (Segment S)). l ++ simulated k m all next s (grid interval next (end - next))) new
          ∙ append_assoc marks (seg ∷ []) (simulated k m all next s (grid interval next (end - next)))
          ∙ ap (λ (l : List (Segment S)). marks ++ l) (sym step)
          ∙ h.items all agree;
      fit = subst fits (sym last) fit;
      begun = omega (arith, h.begun, rises);
      within = within;
      taken = taken_more w c at next before after after' h.begun (omega (arith, rises)) h.taken taken;
    }

pub marked_all : {D S R O : Type 0} (k : Kit D S R O) (fits : S → Type 0) (m : D) (rows : ℕ × List R) (from : S) (marks : List (Segment S)) (interval c at end w before after : ℕ)
    → end ≤ at → Marked k fits m rows from marks interval c at end w before after → (all : List R) → AgreeFrom c end rows all
    → marks ≡ simulated k m all c from (grid interval c (end - c))
marked_all {D} {S} k fits m rows from marks interval c at end w before after le h all agree =
    let none : end - at ≡ 0 = omega (arith, le) in
    sym (append-nil marks)
    ∙ ap (λ (n : ℕ). marks ++ simulated k m all at (last_state from marks) (grid interval at n)) (sym none)
    ∙ h.items all agree

-- a run that thins nothing puts them behind the others
pub more_plain : {D S R O : Type 0} (k : Kit D S R O) (m : D) (all : List R) (segs marks : List (Segment S)) (c : ℕ) (s : S) (cs : List ℕ)
    → length segs + 1 + length cs < 1025 → marks ≡ simulated k m all c s cs → segs ++ marks ≡ extend k m all segs c s cs
more_plain {D} {S} k m all segs marks c s cs few is = ap (λ (l : List (Segment S)). segs ++ l) is ∙ sym (extend_plain k m all segs c s cs few)
