-- A target takes as many bits as its parts, and has the faults of its parts.
use Rattle.std.proofs.Common.{◌≡◌, ◌≤◌, ℕ, ◌+◌, Bool, true, List, [], ◌++◌, min, cond, refl, sym, ◌∙◌, ap, ap₂, subst, arith, true≢false}
use Rattle.std.specs.Prelude.{Some, None}
use Rattle.std.proofs.lemmas.Bool.{and_parts}
use Rattle.typed_ir.proofs.Cases.{by_cases}
use Rattle.ls_text.specs.declared.fault.Fault.{Fault}
use Rattle.ls_text.specs.declared.place.Place.{Place}
use Rattle.ls_text.specs.declared.refusal.Refusal.{Refusal}
use Rattle.verilog_ast.specs.Expressions as e
use Rattle.verilog_ast.specs.Expressions.{Expression}
use Rattle.width_rules.specs.declared.due.Due.TheVariants.{ConstantOnly}
use Rattle.width_rules.specs.declared.writer.Writer.TheVariants as writer
use Rattle.width_rules.specs.Scopes.{Scope}
use Rattle.width_rules.specs.Sizes.{length}
use Rattle.width_rules.specs.Faults.{IsFirst, total_faults}
use Rattle.width_rules.proofs.Lengths.{concatenation_is}
use Rattle.statement_rules.specs.Targets.{target_length, target_faults, kind_faults}
use Rattle.unit_build.specs.Outputs.{is_target, target_at, part_faults, part_kinds, written_kinds, output_kinds}

-- ---- lengths

pub same_length : (scope : Scope) (x : Expression) → is_target x ≡ true → target_length scope (target_at x) ≡ length scope x
unfolding length
same_length scope (e.Literal at x) h = absurd (true≢false (sym h))
same_length scope (e.Whole n) h = refl
same_length scope (e.BitSelect n x) h = refl
same_length scope (e.PartSelect n x y) h = refl
same_length scope (e.UpwardSelect n x y) h = refl
same_length scope (e.DownwardSelect n x y) h = refl
same_length scope (e.Unary at op x) h = absurd (true≢false (sym h))
same_length scope (e.Binary op x y) h = absurd (true≢false (sym h))
same_length scope (e.Conditional c x y) h = absurd (true≢false (sym h))
same_length scope (e.Concatenation at xs) h = same_length scope xs h
same_length scope (e.Replication at c xs) h = absurd (true≢false (sym h))
same_length scope (e.Bracketed at x) h = absurd (true≢false (sym h))
same_length scope e.NoPart h = refl
same_length scope (e.Parts x xs) h =
    let both = and_parts (is_target x) (is_target xs) h in
    ap₂ (λ (a b : ℕ). a + b) (same_length scope x both.0) (same_length scope xs both.1)

pub so_long : (scope : Scope) (x : Expression) (n : ℕ) → is_target x ≡ true → n ≡ length scope x → n ≡ target_length scope (target_at x)
so_long scope x n h is = is ∙ sym (same_length scope x h)

-- a concatenation of at most 128 bits
pub whole_long : (scope : Scope) (at : Place) (xs : Expression) (n : ℕ) → n ≡ min (length scope xs) 255 → n ≤ 128 → n ≡ length scope (e.Concatenation at xs)
whole_long scope at xs n h few =
    let all : n ≡ length scope xs = omega (arith, h, few) in
    all ∙ sym (concatenation_is scope at xs)

-- ---- faults

pub same_faults : (scope : Scope) (x : Expression) → is_target x ≡ true → target_faults scope ConstantOnly (target_at x) ≡ part_faults scope x
same_faults scope (e.Literal at x) h = absurd (true≢false (sym h))
same_faults scope (e.Whole n) h = refl
same_faults scope (e.BitSelect n x) h = refl
same_faults scope (e.PartSelect n x y) h = refl
same_faults scope (e.UpwardSelect n x y) h = refl
same_faults scope (e.DownwardSelect n x y) h = refl
same_faults scope (e.Unary at op x) h = absurd (true≢false (sym h))
same_faults scope (e.Binary op x y) h = absurd (true≢false (sym h))
same_faults scope (e.Conditional c x y) h = absurd (true≢false (sym h))
same_faults scope (e.Concatenation at xs) h =
    ap₂ (λ (fs : List Fault) (n : ℕ). fs ++ total_faults at n) (same_faults scope xs h) (same_length scope xs h)
same_faults scope (e.Replication at c xs) h = absurd (true≢false (sym h))
same_faults scope (e.Bracketed at x) h = absurd (true≢false (sym h))
same_faults scope e.NoPart h = refl
same_faults scope (e.Parts x xs) h =
    let both = and_parts (is_target x) (is_target xs) h in
    ap₂ (λ (fs gs : List Fault). fs ++ gs) (same_faults scope x both.0) (same_faults scope xs both.1)

pub no_faults : (scope : Scope) (x : Expression) → is_target x ≡ true → part_faults scope x ≡ [] → target_faults scope ConstantOnly (target_at x) ≡ []
no_faults scope x h none = same_faults scope x h ∙ none

pub first_fault : (scope : Scope) (x : Expression) (r : Refusal) → is_target x ≡ true → IsFirst (part_faults scope x) r
    → IsFirst (target_faults scope ConstantOnly (target_at x)) r
first_fault scope x r h = subst (λ (fs : List Fault). IsFirst fs r) (sym (same_faults scope x h))

-- ---- 33

same_kinds : (scope : Scope) (x : Expression) → is_target x ≡ true → kind_faults scope writer.Continuous (target_at x) ≡ part_kinds scope x
same_kinds scope (e.Literal at x) h = absurd (true≢false (sym h))
same_kinds scope (e.Whole n) h = refl
same_kinds scope (e.BitSelect n x) h = refl
same_kinds scope (e.PartSelect n x y) h = refl
same_kinds scope (e.UpwardSelect n x y) h = refl
same_kinds scope (e.DownwardSelect n x y) h = refl
same_kinds scope (e.Unary at op x) h = absurd (true≢false (sym h))
same_kinds scope (e.Binary op x y) h = absurd (true≢false (sym h))
same_kinds scope (e.Conditional c x y) h = absurd (true≢false (sym h))
same_kinds scope (e.Concatenation at xs) h = same_kinds scope xs h
same_kinds scope (e.Replication at c xs) h = absurd (true≢false (sym h))
same_kinds scope (e.Bracketed at x) h = absurd (true≢false (sym h))
same_kinds scope e.NoPart h = refl
same_kinds scope (e.Parts x xs) h =
    let both = and_parts (is_target x) (is_target xs) h in
    ap₂ (λ (fs gs : List Fault). fs ++ gs) (same_kinds scope x both.0) (same_kinds scope xs both.1)

kinds_are : (scope : Scope) (x : Expression) → part_kinds scope x ≡ output_kinds scope x
kinds_are scope x = by_cases (is_target x)
    (λ t. sym (ap (λ (b : Bool). written_kinds scope x (cond b (Some (target_at x)) None)) t ∙ same_kinds scope x t))
    (λ f. sym (ap (λ (b : Bool). written_kinds scope x (cond b (Some (target_at x)) None)) f))

pub no_kinds : (scope : Scope) (x : Expression) → part_kinds scope x ≡ [] → output_kinds scope x ≡ []
no_kinds scope x none = sym (kinds_are scope x) ∙ none

pub first_kind : (scope : Scope) (x : Expression) (r : Refusal) → IsFirst (part_kinds scope x) r → IsFirst (output_kinds scope x) r
first_kind scope x r = subst (λ (fs : List Fault). IsFirst fs r) (kinds_are scope x)
