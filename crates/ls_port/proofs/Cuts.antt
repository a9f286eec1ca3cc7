-- How long the front of a list is.
use Rattle.std.proofs.Common.{◌≡◌, ◌≤◌, ℕ, List, min, length, take, arith}
use Rattle.std.proofs.lemmas.List.{length-take}

pub few_taken : (n : ℕ) (xs : List ℕ) → length (take n xs) ≤ n
few_taken n xs =
    let counted : length (take n xs) ≡ min n (length xs) = length-take n xs in
    omega arith
