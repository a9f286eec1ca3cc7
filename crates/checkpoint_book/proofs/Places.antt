use Rattle.std.proofs.Common.{◌≡◌, ℕ, zero, suc, ◌+◌, ◌<◌, ◌≤◌, List, [], ◌∷◌, ◌++◌, length, take, drop, set, get_or, refl, sym, ◌∙◌, ap, arith, true, false, drop-cons}
use Rattle.std.proofs.lemmas.Bool.{cond-true}
use Rattle.machine.specs.Kit.{Kit}
use Rattle.book_history.specs.declared.segment.Segment.{Segment}
use Rattle.book_history.specs.declared.link.Link.TheVariants.{Open, Joined}
use Rattle.book_history.specs.Book.{DrawnTicket, matches, joined}
use Rattle.checkpoint_book.specs.Place.{joined_at}

pub joined_at_splits : {D S R O : Type 0} (k : Kit D S R O) (m : D) (r : S) (i : ℕ) (segs : List (Segment S)) → i ≤ length segs
    → take i segs ++ joined_at k m r 0 (drop i segs) ≡ joined_at k m r i segs
joined_at_splits k m r zero segs h = refl
joined_at_splits k m r (suc i) [] h = refl
joined_at_splits k m r (suc i) (g ∷ gs) h = ap (λ l. g ∷ l) (joined_at_splits k m r i gs (omega arith))

pub place_found : {D S R O : Type 0} (k : Kit D S R O) (m : D) (t : DrawnTicket D S R) (r : S) (i a : ℕ) (s : S) (segs : List (Segment S)) (g : Segment S)
    → i < length segs → g ≡ get_or segs i g → matches k m t a s g ≡ true
    → take i segs ++ joined k m t r a s (drop i segs) ≡ joined_at k m r i segs
place_found {D} {S} k m t r i a s segs g lt is found =
    let e : drop i segs ≡ g ∷ drop (suc i) segs = drop-cons segs i g lt ∙ ap (λ (x : Segment S). x ∷ drop (suc i) segs) (sym is) in
    let here : joined k m t r a s (g ∷ drop (suc i) segs) ≡ joined_at k m r 0 (g ∷ drop (suc i) segs) = cond-true (matches k m t a s g) _ _ found in
    ap (λ (x : List (Segment S)). take i segs ++ joined k m t r a s x) e
    ∙ ap (λ (x : List (Segment S)). take i segs ++ x) here
    ∙ ap (λ (x : List (Segment S)). take i segs ++ joined_at k m r 0 x) (sym e)
    ∙ joined_at_splits k m r i segs (omega arith)

pub join_same : {D S R O : Type 0} (k : Kit D S R O) (m : D) (r : S) (i : ℕ) (segs : List (Segment S)) (g : Segment S)
    → i < length segs → g ≡ get_or segs i g → k.alike m r g.state ≡ true
    → set segs i (record { link = Joined; to = g.to; state = g.state }) ≡ joined_at k m r i segs
join_same k m r i [] g lt is alike = absurd (omega arith)
join_same {D} {S} k m r zero (x ∷ xs) g lt is alike =
    rw (sym is) (rw alike refl)
join_same k m r (suc i) (x ∷ xs) g lt is alike = ap (λ l. x ∷ l) (join_same k m r i xs g (omega arith) is alike)

pub join_last : {D S R O : Type 0} (k : Kit D S R O) (m : D) (r : S) (i : ℕ) (segs : List (Segment S)) (g : Segment S)
    → i < length segs → length segs ≤ i + 1 → g ≡ get_or segs i g → k.alike m r g.state ≡ false
    → set segs i (record { link = Joined; to = g.to; state = r }) ≡ joined_at k m r i segs
join_last k m r i [] g lt le is alike = absurd (omega arith)
join_last {D} {S} k m r zero (x ∷ []) g lt le is alike = rw (sym is) (rw alike refl)
join_last k m r zero (x ∷ y ∷ ys) g lt le is alike = absurd (omega arith)
join_last k m r (suc i) (x ∷ xs) g lt le is alike = ap (λ l. x ∷ l) (join_last k m r i xs g (omega arith) (omega arith) is alike)

pub join_more : {D S R O : Type 0} (k : Kit D S R O) (m : D) (r : S) (i : ℕ) (segs : List (Segment S)) (g h : Segment S)
    → suc i < length segs → g ≡ get_or segs i g → k.alike m r g.state ≡ false → h ≡ get_or segs (suc i) h
    → set (set segs i (record { link = Joined; to = g.to; state = r })) (suc i) (record { link = Open; to = h.to; state = h.state }) ≡ joined_at k m r i segs
join_more k m r i [] g h lt is alike next = absurd (omega arith)
join_more k m r zero (x ∷ []) g h lt is alike next = absurd (omega arith)
join_more {D} {S} k m r zero (x ∷ y ∷ ys) g h lt is alike next = rw (sym is, sym next) (rw alike refl)
join_more k m r (suc i) (x ∷ xs) g h lt is alike next = ap (λ l. x ∷ l) (join_more k m r i xs g h (omega arith) is alike next)

pub get_or_past_set : {A : Type 0} (xs : List A) (i : ℕ) (a x : A) → x ≡ get_or (set xs i a) (suc i) x → x ≡ get_or xs (suc i) x
get_or_past_set [] i a x e = refl
get_or_past_set (b ∷ bs) zero a x e = e
get_or_past_set (b ∷ bs) (suc i) a x e = get_or_past_set bs i a x e
