-- The order of texts by their bytes is total, and goes one way.
use Rattle.std.proofs.Common.{◌≡◌, ◌∙◌, ℕ, true, false, List, [], ◌∷◌, refl, sym, arith, true≢false}
use Rattle.std.specs.Str.{bytes_eq}
use Rattle.std.specs.Cmp.Lexicographic.{bytes_decides}
use Rattle.std.proofs.lemmas.Bool.{false_from_ne_true}
use Rattle.std.proofs.lemmas.Bool.Decides.{nat_tests}
use Rattle.live_session.specs.Rows.{is_before}

before_one_way : (a b : List ℕ) → is_before a b ≡ true → is_before b a ≡ false
before_one_way [] [] h = refl
before_one_way [] (y ∷ ys) h = refl
before_one_way (x ∷ xs) [] h = absurd (true≢false (sym h))
before_one_way (x ∷ xs) (y ∷ ys) h = grind (arith, nat_tests, before_one_way xs ys)

pub before_on : (a b c : List ℕ) → is_before a b ≡ true → is_before b c ≡ true → is_before a c ≡ true
before_on [] b [] h k = absurd (true≢false (sym k ∙ before_one_way [] b h))
before_on [] b (z ∷ zs) h k = refl
before_on (x ∷ xs) [] c h k = absurd (true≢false (sym h))
before_on (x ∷ xs) (y ∷ ys) [] h k = absurd (true≢false (sym k))
before_on (x ∷ xs) (y ∷ ys) (z ∷ zs) h k = grind (arith, nat_tests, before_on xs ys zs)

-- one of two texts stands before the other
pub before_or : (a b : List ℕ) → bytes_eq a b ≡ false → is_before a b ≡ false → is_before b a ≡ true
before_or [] [] differ h = absurd (true≢false differ)
before_or [] (y ∷ ys) differ h = absurd (true≢false h)
before_or (x ∷ xs) [] differ h = refl
before_or (x ∷ xs) (y ∷ ys) differ h = grind (arith, nat_tests, before_or xs ys)

-- two different texts, of which the first stands before the other
pub record AreInOrder (t u : List ℕ) : Type 0 where
  pub apart : bytes_eq t u ≡ false
  pub turned : bytes_eq u t ≡ false
  pub first : is_before t u ≡ true
  pub second : is_before u t ≡ false

pub differs_too : (a b : List ℕ) → bytes_eq a b ≡ false → bytes_eq b a ≡ false
differs_too a b h =
    false_from_ne_true (bytes_eq b a)
    (λ is. true≢false (sym ((bytes_decides a b).1 (sym ((bytes_decides b a).0 is))) ∙ h))

pub in_order : (t u : List ℕ) → bytes_eq t u ≡ false → is_before t u ≡ true → AreInOrder t u
in_order t u differ h = record { apart = differ; turned = differs_too t u differ; first = h; second = before_one_way t u h }
