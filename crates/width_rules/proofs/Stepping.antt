-- One more part of a concatenation, and what all of them are together.
use Rattle.std.proofs.Common.{◌≡◌, ◌<◌, ◌≤◌, ℕ, ◌+◌, Bool, false, ◌&&◌, ◌==◌, ◌++◌, List, [], ◌∷◌, map, drop, length, get_or, sym, ◌∙◌, ap, ap₂, subst, arith, nat_lt}
use Rattle.std.proofs.Math.Bool.{and_assoc}
use Rattle.std.proofs.lemmas.Bool.{cond-true, cond-false, lt-leb, le-leb, eqb-true}
use Rattle.typed_ir.proofs.Cases.{by_cases}
use Rattle.typed_ir.proofs.Lists.{drop_read}
use Rattle.typed_ir.specs.Sized.{Sized}
use Rattle.ls_text.specs.declared.fault.Fault.{Fault}
use Rattle.ls_text.specs.declared.place.Place.{Place}
use Rattle.ls_text.specs.declared.refusal.Refusal.{Refusal}
use Rattle.verilog_ast.specs.declared.expression.Expr.{Expr}
use Rattle.verilog_ast.specs.Expressions.{Expression}
use Rattle.verilog_ast.specs.Views.{expression_of, parts_of}
use Rattle.width_rules.specs.declared.due.Due.{Due}
use Rattle.width_rules.specs.Scopes.{Scope}
use Rattle.width_rules.specs.Sizes.{length as bits_of, joined, is_constant}
use Rattle.width_rules.specs.Opened.{own}
use Rattle.width_rules.specs.Faults.{IsFirst, faults, fault, total_faults, fault_if}
use Rattle.width_rules.specs.Joins.{Together, Nothing, Bits, TooWide, added, joins}
use Rattle.width_rules.proofs.Firsts.{earlier, later, neither}
use Rattle.width_rules.proofs.Gathered.{Told, Is, told}

-- what is left from a part on
abbrev pub left : List Expr → ℕ → List Expression
left xs k = map expression_of (drop k xs)

left_is : (xs : List Expr) (k : ℕ) (x : Expr) → k < length xs → x ≡ get_or xs k x → left xs k ≡ expression_of x ∷ left xs (k + 1)
left_is xs k x h is = ap (map expression_of) (drop_read xs k x h is)

pub ahead_next : (scope : Scope) (due : Due) (xs : List Expr) (k : ℕ) (x : Expr) → k < length xs → x ≡ get_or xs k x → faults scope due (expression_of x) ≡ []
    → faults scope due (parts_of (left xs (k + 1))) ≡ faults scope due (parts_of (left xs k))
ahead_next scope due xs k x h is none =
    ap (λ (zs : List Fault). zs ++ faults scope due (parts_of (left xs (k + 1)))) (sym none)
    ∙ ap (λ ys. faults scope due (parts_of ys)) (sym (left_is xs k x h is))

pub fault_next : (scope : Scope) (due : Due) (xs : List Expr) (k : ℕ) (x : Expr) (r : Refusal) → k < length xs → x ≡ get_or xs k x
    → IsFirst (faults scope due (expression_of x)) r → IsFirst (faults scope due (parts_of (left xs k))) r
fault_next scope due xs k x r h is first =
    subst (λ ys. IsFirst (faults scope due (parts_of ys)) r) (sym (left_is xs k x h is))
    (earlier (faults scope due (expression_of x)) (faults scope due (parts_of (left xs (k + 1)))) r first)

pub fixed_next : (scope : Scope) (xs : List Expr) (k : ℕ) (x : Expr) (b c : Bool) → k < length xs → x ≡ get_or xs k x → c ≡ is_constant scope (expression_of x)
    → ((b && c) && is_constant scope (parts_of (left xs (k + 1)))) ≡ (b && is_constant scope (parts_of (left xs k)))
fixed_next scope xs k x b c h is c_is =
    and_assoc b c (is_constant scope (parts_of (left xs (k + 1))))
    ∙ ap (λ (d : Bool). b && (d && is_constant scope (parts_of (left xs (k + 1))))) c_is
    ∙ ap (λ ys. b && is_constant scope (parts_of ys)) (sym (left_is xs k x h is))

pub together_next : (scope : Scope) (xs : List Expr) (k : ℕ) (x : Expr) (before new : Together) (w : ℕ) (f : Sized) → k < length xs → x ≡ get_or xs k x
    → new ≡ added before w f → w ≡ bits_of scope (expression_of x) → f ≡ own scope (expression_of x)
    → joins scope new (left xs (k + 1)) ≡ joins scope before (left xs k)
together_next scope xs k x before new w f h is new_is w_is f_is =
    ap (λ (z : Together). joins scope z (left xs (k + 1))) (new_is ∙ ap₂ (added before) w_is f_is)
    ∙ ap (joins scope before) (sym (left_is xs k x h is))

-- ---- all parts

pub bits_are : (scope : Scope) (ys : List Expression) (w : ℕ) (f : Sized) → Bits w f ≡ joins scope Nothing ys → Is w f (bits_of scope (parts_of ys)) (joined scope (parts_of ys))
bits_are scope ys w f h = subst (λ (z : Together). Told z (bits_of scope (parts_of ys)) (joined scope (parts_of ys))) (sym h) (told scope ys)

pub none_are : (scope : Scope) (ys : List Expression) → Nothing ≡ joins scope Nothing ys → bits_of scope (parts_of ys) ≡ 0
none_are scope ys h = subst (λ (z : Together). Told z (bits_of scope (parts_of ys)) (joined scope (parts_of ys))) (sym h) (told scope ys)

pub wide_are : (scope : Scope) (ys : List Expression) → TooWide ≡ joins scope Nothing ys → 128 < bits_of scope (parts_of ys)
wide_are scope ys h = subst (λ (z : Together). Told z (bits_of scope (parts_of ys)) (joined scope (parts_of ys))) (sym h) (told scope ys)

-- ---- the width of the whole

no_zero : (n : ℕ) → 1 ≤ n → n ≡ 0 → ⊥
no_zero n a h = omega (arith, a, h)

pub some : (n : ℕ) → 1 ≤ n → (n == 0) ≡ false
some n a = by_cases (n == 0) (λ t. absurd (no_zero n a (eqb-true n 0 t))) (λ f. f)

pub width_fine : (at : Place) (n : ℕ) → 1 ≤ n → n ≤ 128 → total_faults at n ≡ []
width_fine at n a b =
    neither (fault_if (n == 0) (fault 26 at [])) (fault_if (nat_lt 128 n) (fault 31 at []))
    (cond-false (n == 0) (fault 26 at [] ∷ []) [] (some n a)) (cond-false (nat_lt 128 n) (fault 31 at [] ∷ []) [] (lt-leb 129 n (omega (arith, b))))

pub width_none : (at : Place) (n : ℕ) (r : Refusal) → n ≡ 0 → IsFirst (fault 26 at [] ∷ []) r → IsFirst (total_faults at n) r
width_none at n r is first =
    subst (λ (m : ℕ). IsFirst (total_faults at m) r) (sym is) (earlier (fault 26 at [] ∷ []) (fault_if (nat_lt 128 0) (fault 31 at [])) r first)

pub width_wide : (at : Place) (n : ℕ) (r : Refusal) → 128 < n → IsFirst (fault 31 at [] ∷ []) r → IsFirst (total_faults at n) r
width_wide at n r h first =
    later (fault_if (n == 0) (fault 26 at [])) (fault_if (nat_lt 128 n) (fault 31 at [])) r
    (cond-false (n == 0) (fault 26 at [] ∷ []) [] (some n (omega (arith, h))))
    (subst (λ (zs : List Fault). IsFirst zs r) (sym (cond-true (nat_lt 128 n) (fault 31 at [] ∷ []) [] (le-leb 129 n h))) first)
