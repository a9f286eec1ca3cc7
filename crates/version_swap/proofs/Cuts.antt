-- Texts that are cut at the first place of a byte.
use Rattle.std.proofs.Common.{◌≡◌, ℕ, not, List, [], ◌∷◌, ◌++◌, true, refl, sym, ap, ◌∙◌, true≢false}
use Rattle.std.proofs.lemmas.Bool.{and_parts, eq-eqb}
use Rattle.ls_text.proofs.Lists.{first_of, rest_of}
use Rattle.version_swap.specs.Told.{lacks}

-- what stands before the cut and what stands behind it
pub record IsCut (x y xs ys : List ℕ) : Type 0 where
  pub before : x ≡ y
  pub after : xs ≡ ys

not_here : {P : Type 0} (byte c : ℕ) (cs : List ℕ) → lacks byte (c ∷ cs) ≡ true → c ≡ byte → P
not_here byte c cs h is = absurd (true≢false (sym (and_parts _ _ h).0 ∙ ap not (eq-eqb c byte is)))

-- `before ++ byte ∷ after` is read back, where the byte doesn't stand before
pub cut : (byte : ℕ) (x y xs ys : List ℕ) → lacks byte x ≡ true → lacks byte y ≡ true → x ++ byte ∷ xs ≡ y ++ byte ∷ ys → IsCut x y xs ys
cut byte [] [] xs ys h k e = record { before = refl; after = ap rest_of e }
cut byte [] (d ∷ y) xs ys h k e = not_here byte d y k (sym (ap first_of e))
cut byte (c ∷ x) [] xs ys h k e = not_here byte c x h (ap first_of e)
cut byte (c ∷ x) (d ∷ y) xs ys h k e =
    let more : IsCut x y xs ys = cut byte x y xs ys (and_parts _ _ h).1 (and_parts _ _ k).1 (ap rest_of e) in
    record { before = ap (λ z. z ∷ x) (ap first_of e) ∙ ap (λ z. d ∷ z) more.before; after = more.after }
