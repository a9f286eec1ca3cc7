-- One more name with its value of a declaration, for the walks over them.
use Rattle.std.proofs.Common.{◌≡◌, ◌<◌, ℕ, ◌+◌, List, [], ◌++◌, map, drop, length, get_or, append-nil, refl, sym}
use Rattle.ls_text.specs.declared.refusal.Refusal.{Refusal}
use Rattle.width_rules.specs.Scopes.{Scope}
use Rattle.width_rules.specs.Faults.{IsFirst}
use Rattle.statement_rules.proofs.Walks.{ahead, refused_here}
use Rattle.statement_rules.specs.declared.declared_value.DeclaredValue.{DeclaredValue}
use Rattle.statement_rules.specs.DeclaredValues.{value_faults, value_kinds, all_value_faults, all_value_kinds}
use Rattle.statement_rules.specs.Views.{declared_value_of}

pub value_ahead : (scope : Scope) (xs : List DeclaredValue) (k : ℕ) (x : DeclaredValue) → k < length xs → x ≡ get_or xs k x → value_faults scope (declared_value_of x) ≡ []
    → all_value_faults scope (map declared_value_of (drop (k + 1) xs)) ≡ all_value_faults scope (map declared_value_of (drop k xs))
value_ahead scope xs k x = ahead declared_value_of (all_value_faults scope) (value_faults scope) (λ y ys. refl) xs k x

pub value_fault : (scope : Scope) (xs : List DeclaredValue) (k : ℕ) (x : DeclaredValue) (r : Refusal) → k < length xs → x ≡ get_or xs k x
    → IsFirst (value_faults scope (declared_value_of x)) r → IsFirst (all_value_faults scope (map declared_value_of (drop k xs))) r
value_fault scope xs k x r = refused_here declared_value_of (all_value_faults scope) (value_faults scope) (λ y ys. refl) xs k x r

pub kind_ahead : (scope : Scope) (xs : List DeclaredValue) (k : ℕ) (x : DeclaredValue) → k < length xs → x ≡ get_or xs k x → value_kinds scope (declared_value_of x) ≡ []
    → all_value_kinds scope (map declared_value_of (drop (k + 1) xs)) ≡ all_value_kinds scope (map declared_value_of (drop k xs))
kind_ahead scope xs k x = ahead declared_value_of (all_value_kinds scope) (value_kinds scope) (λ y ys. refl) xs k x

pub kind_fault : (scope : Scope) (xs : List DeclaredValue) (k : ℕ) (x : DeclaredValue) (r : Refusal) → k < length xs → x ≡ get_or xs k x
    → IsFirst (value_kinds scope (declared_value_of x)) r → IsFirst (all_value_kinds scope (map declared_value_of (drop k xs))) r
kind_fault scope xs k x r = refused_here declared_value_of (all_value_kinds scope) (value_kinds scope) (λ y ys. refl) xs k x r

pub nothing_more : {A : Type 0} (xs : List A) → xs ≡ xs ++ []
nothing_more xs = sym (append-nil xs)
