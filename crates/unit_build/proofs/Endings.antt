-- Where no instance is left, nothing is.
use Rattle.std.proofs.Common.{◌≡◌, ◌≤◌, ℕ, List, [], ◌∷◌, ◌++◌, map, length, drop, append-nil, refl, sym, ◌∙◌, ap}
use Rattle.std.proofs.lemmas.List.{at_drop_all}
use Rattle.typed_ir.specs.declared.child_shape.ChildShape.{ChildShape}
use Rattle.typed_ir.specs.Items.{PlacedItem}
use Rattle.verilog_ast.specs.declared.instance.Instance.{Instance}
use Rattle.verilog_ast.specs.Views.{instance_of}
use Rattle.width_rules.specs.Scopes.{Scope}
use Rattle.unit_build.specs.Instances.{instance_faults, instance_kinds, instance_items}

no_faults : (scope : Scope) (ss : List ChildShape) → instance_faults scope ss [] ≡ []
no_faults scope [] = refl
no_faults scope (s ∷ ss) = refl

no_kinds : (scope : Scope) (ss : List ChildShape) → instance_kinds scope ss [] ≡ []
no_kinds scope [] = refl
no_kinds scope (s ∷ ss) = refl

no_items : (scope : Scope) (child : ℕ) (ss : List ChildShape) → instance_items scope child ss [] ≡ []
no_items scope child [] = refl
no_items scope child (s ∷ ss) = refl

pub faults_end : (scope : Scope) (ss : List ChildShape) (xs : List Instance) (k : ℕ) → length xs ≤ k → instance_faults scope ss (map instance_of (drop k xs)) ≡ []
faults_end scope ss xs k h = at_drop_all (λ (ys : List Instance). instance_faults scope ss (map instance_of ys)) xs k h ∙ no_faults scope ss

pub kinds_end : (scope : Scope) (ss : List ChildShape) (xs : List Instance) (k : ℕ) → length xs ≤ k → instance_kinds scope ss (map instance_of (drop k xs)) ≡ []
kinds_end scope ss xs k h = at_drop_all (λ (ys : List Instance). instance_kinds scope ss (map instance_of ys)) xs k h ∙ no_kinds scope ss

pub items_end : (scope : Scope) (child : ℕ) (ss : List ChildShape) (xs : List Instance) (k : ℕ) (here : List PlacedItem) → length xs ≤ k
    → here ≡ here ++ instance_items scope child ss (map instance_of (drop k xs))
items_end scope child ss xs k here h =
    sym (append-nil here)
    ∙ ap (λ (zs : List PlacedItem). here ++ zs) (sym (at_drop_all (λ (ys : List Instance). instance_items scope child ss (map instance_of ys)) xs k h ∙ no_items scope child ss))
