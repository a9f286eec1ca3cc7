-- What the walk keeps of the parts of a concatenation is what the definition makes of them.
use Rattle.std.proofs.Common.{◌≡◌, ◌<◌, ℕ, ◌+◌, List, [], ◌∷◌, refl, sym, ◌∙◌, ap, subst, arith, nat_le, add_assoc}
use Rattle.std.proofs.lemmas.Bool.{cond-true, cond-false, leb-false}
use Rattle.typed_ir.proofs.Cases.{by_cases}
use Rattle.typed_ir.specs.Sized as s
use Rattle.typed_ir.specs.Sized.{Sized}
use Rattle.verilog_ast.specs.Expressions as e
use Rattle.verilog_ast.specs.Expressions.{Expression}
use Rattle.verilog_ast.specs.Views.{parts_of}
use Rattle.width_rules.specs.Scopes.{Scope}
use Rattle.width_rules.specs.Sizes.{length, joined, beside}
use Rattle.width_rules.specs.Opened.{own}
use Rattle.width_rules.specs.Joins.{Together, Nothing, Bits, TooWide, joins}

pub no_part : (scope : Scope) → length scope e.NoPart ≡ 0
unfolding length
no_part scope = refl

pub parts_length : (scope : Scope) (x xs : Expression) → length scope (e.Parts x xs) ≡ length scope x + length scope xs
unfolding length
parts_length scope x xs = refl

pub beside_none : (scope : Scope) (w : ℕ) (b : Sized) → beside scope w b e.NoPart ≡ b
unfolding beside
beside_none scope w b = refl

pub beside_part : (scope : Scope) (w : ℕ) (b : Sized) (x xs : Expression)
    → beside scope w b (e.Parts x xs) ≡ beside scope (w + length scope x) (s.Concat (w + length scope x) b (own scope x)) xs
unfolding beside
beside_part scope w b x xs = refl

pub joined_part : (scope : Scope) (x xs : Expression) → joined scope (e.Parts x xs) ≡ beside scope (length scope x) (own scope x) xs
unfolding joined
joined_part scope x xs = refl

-- what is told of a length and a form
pub record Is (v : ℕ) (f : Sized) (width : ℕ) (form : Sized) : Type 0 where
  pub long : v ≡ width
  pub so : f ≡ form

abbrev pub Told : Together → ℕ → Sized → Type 0
Told Nothing width form = width ≡ 0
Told (Bits v f) width form = Is v f width form
Told TooWide width form = 128 < width

wide_stays : (scope : Scope) (xs : List Expression) → joins scope TooWide xs ≡ TooWide
wide_stays scope [] = refl
wide_stays scope (x ∷ xs) = wide_stays scope xs

pub so_far : (scope : Scope) (w : ℕ) (b : Sized) (xs : List Expression)
    → Told (joins scope (Bits w b) xs) (w + length scope (parts_of xs)) (beside scope w b (parts_of xs))
so_far scope w b [] = record { long = omega (arith, no_part scope); so = sym (beside_none scope w b) }
so_far scope w b (x ∷ xs) =
    let v = w + length scope x in
    let c = s.Concat v b (own scope x) in
    let rest = length scope (parts_of xs) in
    let long : v + rest ≡ w + length scope (e.Parts x (parts_of xs)) = add_assoc w (length scope x) rest ∙ ap (λ n. w + n) (sym (parts_length scope x (parts_of xs))) in
    by_cases (nat_le v 128)
    (λ yes. subst (λ z. Told (joins scope z xs) (w + length scope (e.Parts x (parts_of xs))) (beside scope w b (e.Parts x (parts_of xs)))) (sym (cond-true (nat_le v 128) (Bits v c) TooWide yes))
    (subst (λ n. Told (joins scope (Bits v c) xs) n (beside scope w b (e.Parts x (parts_of xs)))) long
    (subst (λ z. Told (joins scope (Bits v c) xs) (v + rest) z) (sym (beside_part scope w b x (parts_of xs))) (so_far scope v c xs))))
    (λ no. subst (λ z. Told (joins scope z xs) (w + length scope (e.Parts x (parts_of xs))) (beside scope w b (e.Parts x (parts_of xs)))) (sym (cond-false (nat_le v 128) (Bits v c) TooWide no))
    (subst (λ z. Told z (w + length scope (e.Parts x (parts_of xs))) (beside scope w b (e.Parts x (parts_of xs)))) (sym (wide_stays scope xs))
    (subst (λ n. 128 < n) long (omega (arith, leb-false v 128 no)))))

pub told : (scope : Scope) (xs : List Expression) → Told (joins scope Nothing xs) (length scope (parts_of xs)) (joined scope (parts_of xs))
told scope [] = no_part scope
told scope (x ∷ xs) =
    subst (λ n. Told (joins scope (Bits (length scope x) (own scope x)) xs) n (joined scope (e.Parts x (parts_of xs)))) (sym (parts_length scope x (parts_of xs)))
    (subst (λ z. Told (joins scope (Bits (length scope x) (own scope x)) xs) (length scope x + length scope (parts_of xs)) z) (sym (joined_part scope x (parts_of xs)))
    (so_far scope (length scope x) (own scope x) xs))
