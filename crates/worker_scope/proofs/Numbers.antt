-- The numbers of workers, and what a worker's pass has added from its beginning on.
use Rattle.std.proofs.Common.{◌≡◌, ◌+◌, ℕ, List, [], ◌∷◌, ◌++◌, length, sym, ap, ◌∙◌, subst, arith}
use Rattle.book_history.specs.declared.who.Who.{Who}
use Rattle.book_history.specs.declared.who.Who.TheVariants.{Worker}
use Rattle.book_history.specs.Event.{Event}
use Rattle.book_turn.specs.Known.{Known}
use Rattle.segment_verify.specs.Entries.{AreTurns, HasTurned}
use Rattle.worker_scope.specs.Scope.{AreNumbered, AreOfWorkers}

-- all that a pass without entries of its own adds
pub turned_alone : {D R O : Type 0} (by : Who) (v w : Known D R O) → v.own ≡ [] → HasTurned by v w → AreTurns by w.own
turned_alone by v w none t = subst (λ l. AreTurns by l) (sym (t.own ∙ ap (λ l. l ++ t.entries) none)) t.turns

-- one more, with the next number
pub one_more : {A : Type 0} (number : A → ℕ) (n : ℕ) (xs : List A) (y : A) → number y ≡ n + length xs → AreNumbered number n xs → AreNumbered number n (xs ++ y ∷ [])
one_more number n [] y is r = (omega (arith, is), tt)
one_more number n (x ∷ xs) y is r = (r.0, one_more number (n + 1) xs y (omega (arith, is)) r.1)

-- the same from 0 on, by the count of those that are there
pub next_more : {A : Type 0} (number : A → ℕ) (xs : List A) (y : A) (n len : ℕ) → number y ≡ n → len ≡ n → len ≡ length xs → AreNumbered number 0 xs → AreNumbered number 0 (xs ++ y ∷ [])
next_more number xs y n len is count counted r = one_more number 0 xs y (omega (arith, is, count, counted)) r

-- what the next worker added
pub one_list_more : {D R O : Type 0} (n : ℕ) (ls : List (List (Event D R O))) (es : List (Event D R O)) → AreTurns (Worker (n + length ls)) es → AreOfWorkers n ls → AreOfWorkers n (ls ++ es ∷ [])
one_list_more n [] es turns are =
    let same : n + 0 ≡ n = omega arith in
    (subst (λ (m : ℕ). AreTurns (Worker m) es) same turns, tt)
one_list_more n (l ∷ ls) es turns are =
    let same : n + length (l ∷ ls) ≡ n + 1 + length ls = omega arith in
    (are.0, one_list_more (n + 1) ls es (subst (λ (m : ℕ). AreTurns (Worker m) es) same turns) are.1)
