-- Values of constants, and their first fault.
use Rattle.std.proofs.Common.{◌≡◌, ℕ, Bool, List, [], ◌∷◌, IsErrAnd, Result, Ok, Err, refl, sym, ◌∙◌, ap, ap₂, subst}
use Rattle.std.specs.Prelude.{Option, Some, None, ℤ}
use Rattle.ls_text.specs.declared.fault.Fault.{Fault}
use Rattle.ls_text.specs.declared.refusal.Refusal.{Refusal}
use Rattle.ls_text.specs.declared.refusal.Refusal.TheVariants as refusal
use Rattle.typed_ir.specs.declared.constant.Const.{Const}
use Rattle.verilog_ast.specs.Expressions.{Expression}
use Rattle.width_rules.specs.declared.due.Due.TheVariants.{ConstantOnly}
use Rattle.width_rules.specs.Constants.{constant, integer}
use Rattle.width_rules.specs.Faults.{IsFirst, faults, first}
use Rattle.width_rules.specs.Scopes.{Scope}
use Rattle.width_rules.specs.Signs.{is_signed}
use Rattle.width_rules.specs.Sizes.{length, read_as}
use Rattle.ls_text.specs.Answers.{◌>>=◌, Answers}
use Rattle.gen_unroll.specs.Values.{ConstantValue, constant_of, unless, evaluated}

abbrev pub err_or : {A : Type 0} → A → Option Fault → Result A Fault
err_or x None = Ok x
err_or x (Some f) = Err f

by_first : {A : Type 0} (fs : List Fault) (x : A) → unless fs x ≡ err_or x (first fs)
by_first [] x = refl
by_first (f ∷ fs) x = refl

-- a refusal is the first fault, or memory ran out
pub is_first : {A B : Type 0} (fs : List Fault) (x : B) (view : A → B) (r : Refusal) → IsFirst fs r → Answers {A = A} (Err r) view (unless fs x)
is_first fs x view (refusal.Fault f) h = by_first fs x ∙ ap (err_or x) h
is_first fs x view refusal.NoMemory h = tt

-- nothing is wrong
pub no_fault : {A : Type 0} (fs : List Fault) (x : A) → fs ≡ [] → unless fs x ≡ Ok x
no_fault fs x none = ap (λ zs. unless zs x) none

pub same_value : (v w : ConstantValue) → v.width ≡ w.width → v.value ≡ w.value → v.signed ≡ w.signed → v ≡ w
same_value v w a b c =
    ap (λ n. record { width = n; value = v.value; signed = v.signed }) a
    ∙ ap (λ n. record { width = w.width; value = n; signed = v.signed }) b
    ∙ ap (λ s. record { width = w.width; value = w.value; signed = s }) c

abbrev pub value_with : ℕ → ℕ → Bool → ConstantValue
value_with width value signed = record { width = width; value = value; signed = signed }

pub constant_so : (k l v w : ℕ) (s t : Bool) → l ≡ k → w ≡ v → t ≡ s → value_with l w t ≡ value_with k v s
constant_so k l v w s t lengths values signs = ap₂ (λ (a b : ℕ). value_with a b t) lengths values ∙ ap (value_with k v) signs

pub is_value : (scope : Scope) (e : Expression) (x : Const) → faults scope ConstantOnly e ≡ [] → x.bits.width ≡ length scope e → x.signed ≡ is_signed scope e
    → x.bits.value ≡ constant scope e → evaluated scope e ≡ Ok (constant_of x)
unfolding evaluated
is_value scope e x none width signed value =
    no_fault (faults scope ConstantOnly e) (record { width = length scope e; value = constant scope e; signed = is_signed scope e }) none
    ∙ ap Ok (same_value (record { width = length scope e; value = constant scope e; signed = is_signed scope e }) (constant_of x) (sym width) (sym value) (sym signed))

pub is_integer : (scope : Scope) (e : Expression) (signed : Bool) (width value : ℕ) (n : ℤ) → n ≡ read_as signed width value
    → width ≡ length scope e → signed ≡ is_signed scope e → value ≡ constant scope e → n ≡ integer scope e
is_integer scope e signed width value n is a b c =
    is ∙ ap (λ s. read_as s width value) b ∙ ap (λ w. read_as (is_signed scope e) w value) a ∙ ap (λ v. read_as (is_signed scope e) (length scope e) v) c

-- a refusal is handed on
pub refused_on : {A B C D : Type 0} (r : Refusal) (view : A → B) (d : Result B Fault) (f : B → Result D Fault) (other : C → D)
    → Answers {A = A} (Err r) view d → Answers {A = C} (Err r) other (d >>= f)
refused_on (refusal.Fault g) view d f other h = ap (λ z. z >>= f) h
refused_on refusal.NoMemory view d f other h = tt

-- the same refusal in an answer of another kind
pub handed_on : {A B : Type 0} (r : Result A Refusal) (e : Refusal) (view : A → B) (d : Result B Fault) → IsErrAnd r (λ y. y ≡ e)
    → Answers (Err e) view d → Answers r view d
handed_on (Err y) e view d is h = subst (λ (z : Refusal). Answers (Err z) view d) (sym is) h
handed_on (Ok x) e view d is h = absurd is

-- a step that gave a value goes on
pub goes_on : {B D : Type 0} (d : Result B Fault) (x : B) (f : B → Result D Fault) (y : Result D Fault) → d ≡ Ok x → f x ≡ y → (d >>= f) ≡ y
goes_on d x f y is next = ap (λ z. z >>= f) is ∙ next

pub ruleset answers = (is_first, refused_on, goes_on, no_fault)
