use Rattle.std.proofs.Common.{◌≡◌, ℕ, zero, suc, ◌+◌, ◌-◌, ◌*◌, ◌<◌, ◌≤◌, List, [], ◌∷◌, ◌++◌, length, take, drop, set, get_or, sym, ◌∙◌, ap, arith, eqb, length-append}
use Rattle.std.proofs.Math.Seq.{drop-append-add, drop-cons, take-suc}
use Rattle.std.proofs.lemmas.List.{drop_all, take-set-le}
use Rattle.std.specs.List.{SwappedAt}
use Rattle.std.proofs.lemmas.Bool.{cond_both, eqb-false}
use Rattle.book_history.specs.declared.segment.Segment.{Segment}
use Rattle.book_history.specs.declared.link.Link.TheVariants.{Joined}
use Rattle.machine.specs.Kit.{Kit}
use Rattle.book_history.specs.Book.{thin, last_state, add_mark, extend, grid, slice}
use Rattle.book_history.proofs.Kept.{last_state-snoc, last_state-thin}
use Rattle.checkpoint_book.specs.Grid.{next_mark, AgreeFrom}
use Rattle.checkpoint_book.proofs.Grids.{grid_step}

-- a last mark without a partner
pub squeeze_last : {S : Type 0} (k a m : ℕ) (xs ys : List (Segment S)) → m ≡ suc k → k ≤ a → length xs ≡ suc a → length ys ≡ length xs → SwappedAt xs ys k a
    → take m ys ≡ take k xs ++ thin (drop a xs)
squeeze_last k a m [] ys em le few len sw = absurd (omega (arith, few))
squeeze_last {S} k a m (d ∷ ds) ys em le few len sw =
    let xs = d ∷ ds in
    let x = get_or xs a d in
    let new : ys ≡ set (set xs k (get_or xs a d)) a (get_or xs k d) = sw.3 d in
    let front : take k ys ≡ take k xs =
    ap (λ (l : List (Segment S)). take k l) new
    ∙ take-set-le k (set xs k (get_or xs a d)) a (get_or xs k d) le
    ∙ take-set-le k xs k (get_or xs a d) (omega arith) in
    let one : drop a xs ≡ x ∷ [] =
    drop-cons xs a d (omega (arith, few)) ∙ ap (λ (l : List (Segment S)). x ∷ l) (drop_all (suc a) xs (omega (arith, few))) in
    ap (λ (i : ℕ). take i ys) em
    ∙ take-suc ys k d (omega (arith, len, few, le))
    ∙ ap (λ (y : Segment S). take k ys ++ y ∷ []) (sw.0 d)
    ∙ ap (λ (l : List (Segment S)). l ++ x ∷ []) front
    ∙ ap (λ (l : List (Segment S)). take k xs ++ thin l) (sym one)

pub length-thin : {S : Type 0} (xs : List (Segment S)) → 2 * length (thin xs) ≤ length xs + 1
length-thin [] = omega arith
length-thin (x ∷ []) = omega arith
length-thin (x ∷ y ∷ zs) = omega (arith, length-thin zs)

pub last_state-add : {S : Type 0} (s : S) (segs : List (Segment S)) (g : Segment S) → last_state s (add_mark segs g) ≡ g.state
last_state-add s segs g =
    cond_both (eqb (length segs + 2) 1025) (thin (segs ++ g ∷ [])) (segs ++ g ∷ []) (λ x. last_state s x ≡ g.state)
    (λ _. last_state-thin s (segs ++ g ∷ []) ∙ last_state-snoc s segs g)
    (λ _. last_state-snoc s segs g)

pub length-add : {S : Type 0} (segs : List (Segment S)) (g : Segment S) → length segs < 1024 → length (add_mark segs g) < 1024
length-add {S} segs g few =
    let more = length-append segs (g ∷ []) in
    let half = length-thin (segs ++ g ∷ []) in
    cond_both (eqb (length segs + 2) 1025) (thin (segs ++ g ∷ [])) (segs ++ g ∷ []) (λ x. length x < 1024)
    (λ is. omega (arith, more, half, few))
    (λ is. let ne : length segs + 2 ≡ 1025 → ⊥ = eqb-false (length segs + 2) 1025 is in omega (arith, more, few))

pub extend_few : {D S R O : Type 0} (k : Kit D S R O) (m : D) (rows : List R) (segs : List (Segment S)) (a : ℕ) (s : S) (cs : List ℕ) → length segs < 1024 → length (extend k m rows segs a s cs) < 1024
extend_few k m rows segs a s [] few = few
extend_few {D} {S} k m rows segs a s (c ∷ cs) few =
    let e : S = k.seg m (slice rows a c) s in
    let g : Segment S = record { link = Joined; to = c; state = e } in
    extend_few k m rows (add_mark segs g) c e cs (length-add segs g few)

-- the last one, read by its index
pub last_at : {S : Type 0} (s : S) (segs : List (Segment S)) (n : ℕ) (g : Segment S) → length segs ≡ suc n → g ≡ get_or segs n g → g.state ≡ last_state s segs
last_at s [] n g len is = absurd (omega arith)
last_at {S} s (x ∷ []) zero g len is = ap (λ (y : Segment S). y.state) is
last_at s (x ∷ y ∷ ys) zero g len is = absurd (omega arith)
last_at s (x ∷ xs) (suc n) g len is = last_at x.state xs n g (omega arith) is

pub extend_step : {D S R O : Type 0} (k : Kit D S R O) (m : D) (rows : List R) (first : S) (segs segs' : List (Segment S)) (interval at end next : ℕ) (s e : S)
    → 1 ≤ interval → at < end → next ≡ next_mark interval at end → e ≡ k.seg m (slice rows at next) s
    → segs' ≡ add_mark segs (record { link = Joined; to = next; state = e })
    → extend k m rows segs' next (last_state first segs') (grid interval next (end - next)) ≡ extend k m rows segs at s (grid interval at (end - at))
extend_step {D} {S} k m rows first segs segs' interval at end next s e pos lt is run new =
    let g : Segment S = record { link = Joined; to = next; state = e } in
    let last : last_state first segs' ≡ e = ap (λ (x : List (Segment S)). last_state first x) new ∙ last_state-add first segs g in
    let from : S → ℕ → List (Segment S) = λ y n. extend k m rows (add_mark segs (record { link = Joined; to = n; state = y })) n y (grid interval n (end - n)) in
    ap (λ (y : S). extend k m rows segs' next y (grid interval next (end - next))) last
    ∙ ap (λ (x : List (Segment S)). extend k m rows x next e (grid interval next (end - next))) new
    ∙ ap (λ (y : S). from y next) run
    ∙ ap (λ (n : ℕ). from (k.seg m (slice rows at n) s) n) is
    ∙ ap (λ (cs : List ℕ). extend k m rows segs at s cs) (sym (grid_step interval at end pos lt))

-- what each turn of the loop keeps
pub record Extended {D S R O : Type 0} (k : Kit D S R O) (fits : S → Type 0) (m : D) (rows : ℕ × List R) (first : S) (old new : List (Segment S)) (cap interval c at end w before after : ℕ) : Type 0 where
  pub same : (all : List R) → AgreeFrom c end rows all
      → extend k m all new at (last_state first new) (grid interval at (end - at)) ≡ extend k m all old c (last_state first old) (grid interval c (end - c))
  pub fit : fits (last_state first new)
  pub from : c ≤ at
  pub within : at ≤ end
  pub few : length new < 1024
  pub room : 1024 ≤ cap
  pub taken : after ≡ before + (at - c) * w

pub taken_more : (w c at next before steps steps' : ℕ) → c ≤ at → at ≤ next → steps ≡ before + (at - c) * w → steps' ≡ steps + (next - at) * w → steps' ≡ before + (next - c) * w
taken_more w c at next before steps steps' from le so_far taken =
    let e : (at - c) + (next - at) ≡ next - c = omega arith in
    let product : ((at - c) + (next - at)) * w ≡ (next - c) * w = ap (λ (x : ℕ). x * w) e in
    omega (arith, product, so_far, taken)

pub most_within : (w c at next end before steps steps' : ℕ) → c ≤ at → at ≤ next → next ≤ end → steps ≡ before + (at - c) * w → steps' ≤ steps + (next - at) * w
    → steps' ≤ before + (end - c) * w
most_within w c at next end before steps steps' from le within taken most =
    let e : (at - c) + (next - at) ≡ next - c = omega arith in
    let product : ((at - c) + (next - at)) * w ≡ (next - c) * w = ap (λ (x : ℕ). x * w) e in
    let f : (next - c) + (end - next) ≡ end - c = omega arith in
    let whole : ((next - c) + (end - next)) * w ≡ (end - c) * w = ap (λ (x : ℕ). x * w) f in
    omega (arith, product, whole, taken, most)

-- rows that follow a record
pub agree_after : {R : Type 0} (before : List R) (r : ℕ × List R) → length before ≡ r.0 → (end : ℕ) → AgreeFrom r.0 end r (before ++ r.1)
agree_after {R} before r len end = λ a b from within.
    let at : a ≡ length before + (a - r.0) = omega (arith, len, from) in
    let count : (b - r.0) - (a - r.0) ≡ b - a = omega (arith, from) in
    ap (λ (n : ℕ). take n (drop (a - r.0) r.1)) count
    ∙ ap (λ (l : List R). take (b - a) l) (sym (ap (λ (i : ℕ). drop i (before ++ r.1)) at ∙ drop-append-add before r.1 (a - r.0)))
