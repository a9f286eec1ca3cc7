-- Links are freed one by one.
use Rattle.std.proofs.Common.{◌≡◌, ℕ, zero, suc, ◌+◌, ◌<◌, List, [], ◌∷◌, ◌++◌, length, take, drop, set, get_or, refl, sym, ◌∙◌, ap, subst, arith, add-one}
use Rattle.book_history.specs.declared.segment.Segment.{Segment}
use Rattle.book_history.specs.Book.{free_link, freed}

pub freed_step : {S : Type 0} (n i : ℕ) (xs : List (Segment S)) (g : Segment S) → i < length xs → g ≡ get_or (freed n (take i xs) ++ drop i xs) i g
    → set (freed n (take i xs) ++ drop i xs) i (record { link = free_link n g.link; to = g.to; state = g.state }) ≡ freed n (take (suc i) xs) ++ drop (suc i) xs
freed_step n i [] g lt is = absurd (omega arith)
freed_step {S} n zero (x ∷ xs) g lt is = ap (λ (y : Segment S). record { link = free_link n y.link; to = y.to; state = y.state } ∷ xs) is
freed_step {S} n (suc i) (x ∷ xs) g lt is =
    ap (λ (l : List (Segment S)). record { link = free_link n x.link; to = x.to; state = x.state } ∷ l) (freed_step n i xs g (omega arith) is)

pub freed_next : {S : Type 0} (n i : ℕ) (xs now : List (Segment S)) (g : Segment S) → now ≡ freed n (take i xs) ++ drop i xs → i < length xs → g ≡ get_or now i g
    → set now i (record { link = free_link n g.link; to = g.to; state = g.state }) ≡ freed n (take (i + 1) xs) ++ drop (i + 1) xs
freed_next {S} n i xs now g e lt is =
    let P : List (Segment S) → Type 0 = λ l. g ≡ get_or l i g in
    let here : P (freed n (take i xs) ++ drop i xs) = subst P e is in
    ap (λ (l : List (Segment S)). set l i (record { link = free_link n g.link; to = g.to; state = g.state })) e
    ∙ freed_step n i xs g lt here
    ∙ ap (λ (j : ℕ). freed n (take j xs) ++ drop j xs) (sym (add-one i))

pub length-freed : {S : Type 0} (n : ℕ) (xs : List (Segment S)) → length (freed n xs) ≡ length xs
length-freed n [] = refl
length-freed n (x ∷ xs) = omega (arith, length-freed n xs)
