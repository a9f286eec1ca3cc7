-- No entry but a run changes how many links there are.
use Rattle.std.proofs.Common.{◌≡◌, ℕ, suc, List, [], ◌∷◌, length, refl, arith, if◌then◌else◌, Bool}
use Rattle.std.proofs.lemmas.Bool.{cond_both}
use Rattle.machine.specs.Kit.{Kit}
use Rattle.book_history.specs.declared.link.Link.{Link}
use Rattle.book_history.specs.declared.link.Link.TheVariants.{Joined, Out}
use Rattle.book_history.specs.declared.segment.Segment.{Segment}
use Rattle.book_history.specs.Book.{slice, DrawnTicket, matches, joined, reopen, mark_out, simulated}

pub length-reopen : {S : Type 0} (xs : List (Segment S)) → length (reopen xs) ≡ length xs
length-reopen [] = refl
length-reopen (x ∷ xs) = refl

pub length-joined : {D S R O : Type 0} (k : Kit D S R O) (m : D) (t : DrawnTicket D S R) (r : S) (a : ℕ) (s : S) (xs : List (Segment S)) → length (joined k m t r a s xs) ≡ length xs
length-joined k m t r a s [] = refl
length-joined {D} {S} k m t r a s (g ∷ gs) =
    let here : length (if k.alike m r g.state then record { link = Joined; to = g.to; state = g.state } ∷ gs else record { link = Joined; to = g.to; state = r } ∷ reopen gs) ≡ suc (length gs) =
    cond_both (k.alike m r g.state) (record { link = Joined; to = g.to; state = g.state } ∷ gs) (record { link = Joined; to = g.to; state = r } ∷ reopen gs)
    (λ (x : List (Segment S)). length x ≡ suc (length gs)) (λ _. refl) (λ _. omega (arith, length-reopen gs)) in
    cond_both (matches k m t a s g)
    (if k.alike m r g.state then record { link = Joined; to = g.to; state = g.state } ∷ gs else record { link = Joined; to = g.to; state = r } ∷ reopen gs)
    (g ∷ joined k m t r g.to g.state gs)
    (λ (x : List (Segment S)). length x ≡ suc (length gs)) (λ _. here) (λ _. omega (arith, length-joined k m t r g.to g.state gs))

pub length-marked : {S : Type 0} (p : Link → Bool) (n : ℕ) (xs : List (Segment S)) → length (mark_out p n xs) ≡ length xs
length-marked p n [] = refl
length-marked {S} p n (g ∷ gs) =
    cond_both (p g.link) (record { link = Out n; to = g.to; state = g.state } ∷ gs) (g ∷ mark_out p n gs) (λ (x : List (Segment S)). length x ≡ suc (length gs))
    (λ _. refl) (λ _. omega (arith, length-marked p n gs))

pub length-simulated : {D S R O : Type 0} (k : Kit D S R O) (m : D) (rows : List R) (a : ℕ) (s : S) (cs : List ℕ) → length (simulated k m rows a s cs) ≡ length cs
length-simulated k m rows a s [] = refl
length-simulated k m rows a s (c ∷ cs) = omega (arith, length-simulated k m rows c (k.seg m (slice rows a c) s) cs)
