-- Numbers in the order of declarations, one after another.
use Rattle.std.proofs.Common.{◌≡◌, ℕ, suc, ◌+◌, ◌-◌, ◌<◌, List, ◌++◌, append_assoc, ◌∙◌, ap, arith}
use Rattle.std.specs.Prelude.{Option}
use Rattle.std.specs.Option.{option_to_list}
use Rattle.gen_unroll.specs.Numbers.{place_where, has_order, numbers_from}
use Rattle.gen_unroll.specs.Signals.{NamedSignal}

pub order_next : (k count : ℕ) (xs : List NamedSignal) (old new : List ℕ) (p : Option ℕ) → k < count → p ≡ place_where (has_order k) xs → new ≡ old ++ option_to_list p
    → new ++ numbers_from (k + 1) (count - (k + 1)) xs ≡ old ++ numbers_from k (count - k) xs
order_next k count xs old new p h found is =
    let left : suc (count - (k + 1)) ≡ count - k = omega (arith, h) in
    let more : k + 1 ≡ suc k = omega arith in
    ap (λ zs. zs ++ numbers_from (k + 1) (count - (k + 1)) xs) (is ∙ ap (λ (o : Option ℕ). old ++ option_to_list o) found)
    ∙ append_assoc old (option_to_list (place_where (has_order k) xs)) (numbers_from (k + 1) (count - (k + 1)) xs)
    ∙ ap (λ (j : ℕ). old ++ (option_to_list (place_where (has_order k) xs) ++ numbers_from j (count - (k + 1)) xs)) more
    ∙ ap (λ (n : ℕ). old ++ numbers_from k n xs) left
