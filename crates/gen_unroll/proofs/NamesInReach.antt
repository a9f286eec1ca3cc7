-- The names in reach, part by part.
use Rattle.std.proofs.Common.{◌≡◌, ◌≤◌, ℕ, suc, List, ◌∷◌, length, sym, ◌∙◌, ap, ap₂, arith}
use Rattle.width_rules.specs.Scopes.{Scope}
use Rattle.gen_unroll.specs.Reaches.{Reach, closed_reach}

abbrev pub reach_with : Scope → List Scope → List ℕ → Reach
reach_with scope around blocks = record { scope = scope; around = around; blocks = blocks }

pub same_parts : (s t : Scope) (xs ys : List Scope) (ms ns : List ℕ) → s ≡ t → xs ≡ ys → ms ≡ ns → reach_with s xs ms ≡ reach_with t ys ns
same_parts s t xs ys ms ns a b c =
    ap (λ (u : Scope). reach_with u xs ms) a ∙ ap (λ (zs : List Scope). reach_with t zs ms) b ∙ ap (λ (zs : List ℕ). reach_with t ys zs) c

-- ---- as many scopes as blocks

pub even_more : (xs ys : List Scope) (ms ns : List ℕ) (s : Scope) (n : ℕ) → length ys ≡ length ns → xs ≡ s ∷ ys → ms ≡ n ∷ ns → length xs ≡ length ms
even_more xs ys ms ns s n even a b = ap length a ∙ ap suc even ∙ sym (ap length b)

pub even_less : (xs ys : List Scope) (ms ns : List ℕ) (s : Scope) (n : ℕ) → length xs ≡ length ms → xs ≡ s ∷ ys → ms ≡ n ∷ ns → length ys ≡ length ns
even_less xs ys ms ns s n even a b =
    let more : suc (length ys) ≡ suc (length ns) = sym (ap length a) ∙ even ∙ ap length b in omega arith

pub even_some : (xs : List Scope) (ms ns : List ℕ) (n : ℕ) → length xs ≡ length ms → ms ≡ n ∷ ns → 1 ≤ length xs
even_some xs ms ns n even b = let more : length xs ≡ suc (length ns) = even ∙ ap length b in omega arith

-- ---- the end of a block

pub closed_some : (s t : Scope) (xs ys : List Scope) (ms ns : List ℕ) (n : ℕ) → xs ≡ t ∷ ys → ms ≡ n ∷ ns → reach_with t ys ns ≡ closed_reach (reach_with s xs ms)
closed_some s t xs ys ms ns n a b = sym (ap₂ (λ (zs : List Scope) (ks : List ℕ). closed_reach (reach_with s zs ks)) a b)
