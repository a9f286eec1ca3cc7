-- One more part or connection of a list, for the walks over them.
use Rattle.std.proofs.Common.{◌≡◌, ◌<◌, ◌≤◌, ℕ, ◌+◌, ◌&&◌, List, [], ◌++◌, min, map, drop, length, get_or, append_assoc, refl, sym, ◌∙◌, ap, arith}
use Rattle.std.proofs.lemmas.List.{at_drop_all}
use Rattle.ls_text.specs.declared.refusal.Refusal.{Refusal}
use Rattle.verilog_ast.specs.declared.expression.Expr.{Expr}
use Rattle.verilog_ast.specs.Expressions.{Expression}
use Rattle.verilog_ast.specs.Views.{expression_of, parts_of}
use Rattle.width_rules.specs.Scopes.{Scope}
use Rattle.width_rules.specs.Sizes.{length as size}
use Rattle.width_rules.specs.Faults.{IsFirst}
use Rattle.width_rules.proofs.Gathered.{no_part, parts_length}
use Rattle.statement_rules.specs.Leaves.{Leaf, leaves}
use Rattle.statement_rules.proofs.Walks.{head_is, ahead, refused_here}
use Rattle.unit_build.specs.declared.connection.Connection.{Connection}
use Rattle.unit_build.specs.Connections.{connection_faults, connection_kinds, all_connection_faults, all_connection_kinds}
use Rattle.unit_build.specs.Outputs.{is_target, target_at, part_faults, part_kinds}
use Rattle.unit_build.specs.Views.{connected_of}

pub part_ahead : (scope : Scope) (xs : List Expr) (k : ℕ) (x : Expr) → k < length xs → x ≡ get_or xs k x → part_faults scope (expression_of x) ≡ []
    → part_faults scope (parts_of (map expression_of (drop (k + 1) xs))) ≡ part_faults scope (parts_of (map expression_of (drop k xs)))
part_ahead scope xs k x = ahead expression_of (λ ys. part_faults scope (parts_of ys)) (part_faults scope) (λ y ys. refl) xs k x

pub part_fault : (scope : Scope) (xs : List Expr) (k : ℕ) (x : Expr) (r : Refusal) → k < length xs → x ≡ get_or xs k x
    → IsFirst (part_faults scope (expression_of x)) r → IsFirst (part_faults scope (parts_of (map expression_of (drop k xs)))) r
part_fault scope xs k x r = refused_here expression_of (λ ys. part_faults scope (parts_of ys)) (part_faults scope) (λ y ys. refl) xs k x r

pub long_ahead : (scope : Scope) (xs : List Expr) (k : ℕ) (x : Expr) (width more next : ℕ) → k < length xs → x ≡ get_or xs k x
    → more ≡ size scope (expression_of x) → next ≡ min (width + more) 255
    → min (next + size scope (parts_of (map expression_of (drop (k + 1) xs)))) 255 ≡ min (width + size scope (parts_of (map expression_of (drop k xs)))) 255
long_ahead scope xs k x width more next h is own all =
    let split : size scope (parts_of (map expression_of (drop k xs))) ≡ size scope (expression_of x) + size scope (parts_of (map expression_of (drop (k + 1) xs))) =
    ap (λ (ys : List Expression). size scope (parts_of ys)) (head_is expression_of xs k x h is)
    ∙ parts_length scope (expression_of x) (parts_of (map expression_of (drop (k + 1) xs))) in
    omega (arith, own, all, split)

pub none_long : (scope : Scope) (xs : List Expr) (k : ℕ) → length xs ≤ k → size scope (parts_of (map expression_of (drop k xs))) ≡ 0
none_long scope xs k h = at_drop_all (λ (ys : List Expr). size scope (parts_of (map expression_of ys))) xs k h ∙ no_part scope

pub leaves_ahead : (scope : Scope) (xs : List Expr) (k : ℕ) (x : Expr) (here more : List Leaf) → k < length xs → x ≡ get_or xs k x
    → more ≡ here ++ leaves scope (target_at (expression_of x))
    → more ++ leaves scope (target_at (parts_of (map expression_of (drop (k + 1) xs)))) ≡ here ++ leaves scope (target_at (parts_of (map expression_of (drop k xs))))
leaves_ahead scope xs k x here more h is new =
    let rest = leaves scope (target_at (parts_of (map expression_of (drop (k + 1) xs)))) in
    ap (λ (ls : List Leaf). ls ++ rest) new
    ∙ append_assoc here (leaves scope (target_at (expression_of x))) rest
    ∙ ap (λ (ys : List Expression). here ++ leaves scope (target_at (parts_of ys))) (sym (head_is expression_of xs k x h is))

pub kind_ahead : (scope : Scope) (xs : List Expr) (k : ℕ) (x : Expr) → k < length xs → x ≡ get_or xs k x → part_kinds scope (expression_of x) ≡ []
    → part_kinds scope (parts_of (map expression_of (drop (k + 1) xs))) ≡ part_kinds scope (parts_of (map expression_of (drop k xs)))
kind_ahead scope xs k x = ahead expression_of (λ ys. part_kinds scope (parts_of ys)) (part_kinds scope) (λ y ys. refl) xs k x

pub kind_fault : (scope : Scope) (xs : List Expr) (k : ℕ) (x : Expr) (r : Refusal) → k < length xs → x ≡ get_or xs k x
    → IsFirst (part_kinds scope (expression_of x)) r → IsFirst (part_kinds scope (parts_of (map expression_of (drop k xs)))) r
kind_fault scope xs k x r = refused_here expression_of (λ ys. part_kinds scope (parts_of ys)) (part_kinds scope) (λ y ys. refl) xs k x r

pub sized_ahead : (scope : Scope) (xs : List Connection) (k : ℕ) (x : Connection) → k < length xs → x ≡ get_or xs k x
    → connection_faults scope (connected_of x) ≡ []
    → all_connection_faults scope (map connected_of (drop (k + 1) xs)) ≡ all_connection_faults scope (map connected_of (drop k xs))
sized_ahead scope xs k x = ahead connected_of (all_connection_faults scope) (connection_faults scope) (λ y ys. refl) xs k x

pub sized_fault : (scope : Scope) (xs : List Connection) (k : ℕ) (x : Connection) (r : Refusal) → k < length xs → x ≡ get_or xs k x
    → IsFirst (connection_faults scope (connected_of x)) r → IsFirst (all_connection_faults scope (map connected_of (drop k xs))) r
sized_fault scope xs k x r = refused_here connected_of (all_connection_faults scope) (connection_faults scope) (λ y ys. refl) xs k x r

pub checked_ahead : (scope : Scope) (xs : List Connection) (k : ℕ) (x : Connection) → k < length xs → x ≡ get_or xs k x
    → connection_kinds scope (connected_of x) ≡ []
    → all_connection_kinds scope (map connected_of (drop (k + 1) xs)) ≡ all_connection_kinds scope (map connected_of (drop k xs))
checked_ahead scope xs k x = ahead connected_of (all_connection_kinds scope) (connection_kinds scope) (λ y ys. refl) xs k x

pub checked_fault : (scope : Scope) (xs : List Connection) (k : ℕ) (x : Connection) (r : Refusal) → k < length xs → x ≡ get_or xs k x
    → IsFirst (connection_kinds scope (connected_of x)) r → IsFirst (all_connection_kinds scope (map connected_of (drop k xs))) r
checked_fault scope xs k x r = refused_here connected_of (all_connection_kinds scope) (connection_kinds scope) (λ y ys. refl) xs k x r

pub parts_so : (xs : List Expr) (k : ℕ) (x : Expr) → k < length xs → x ≡ get_or xs k x
    → is_target (parts_of (map expression_of (drop k xs))) ≡ (is_target (expression_of x) && is_target (parts_of (map expression_of (drop (k + 1) xs))))
parts_so xs k x h is = ap (λ ys. is_target (parts_of ys)) (head_is expression_of xs k x h is)
