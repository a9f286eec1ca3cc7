-- One more part, target or label of a list, for the walks over them.
use Rattle.std.proofs.Common.{◌≡◌, ◌<◌, ◌≤◌, ℕ, ◌+◌, Bool, true, false, ◌&&◌, List, map, drop, length, get_or, refl, sym, ◌∙◌, ap}
use Rattle.typed_ir.proofs.Lists.{drop_read}
use Rattle.verilog_ast.specs.declared.expression.Expr.{Expr}
use Rattle.verilog_ast.specs.declared.identifier.Identifier.{Identifier}
use Rattle.verilog_ast.specs.declared.label.Label.{Label}
use Rattle.verilog_ast.specs.declared.target.Lhs.{Lhs}
use Rattle.verilog_ast.specs.Views.{expression_of, parts_of, label_of, target_of, targets_of}
use Rattle.typed_ir.specs.declared.mention.Mention.{Mention}
use Rattle.width_rules.specs.Scopes.{Scope}
use Rattle.width_rules.specs.Sizes.{is_constant}
use Rattle.width_rules.specs.Adding.{Notes, NamesLeft}
use Rattle.width_rules.specs.Mentions.{Listing, label_names, labels_names}
use Rattle.width_rules.specs.Names.{expression_names, index_names, target_names, expression_targets}
use Rattle.width_rules.proofs.Noted.{element_after, elements_done}

-- ---- constants

pub part_constant : (scope : Scope) (xs : List Expr) (k : ℕ) (x : Expr) (all : Bool) → k < length xs → x ≡ get_or xs k x → is_constant scope (expression_of x) ≡ true
    → is_constant scope (parts_of (map expression_of (drop k xs))) ≡ all → is_constant scope (parts_of (map expression_of (drop (k + 1) xs))) ≡ all
part_constant scope xs k x all h is one left =
    let rest = is_constant scope (parts_of (map expression_of (drop (k + 1) xs))) in
    sym (ap (λ b. b && rest) one) ∙ sym (ap (λ zs. is_constant scope (parts_of (map expression_of zs))) (drop_read xs k x h is)) ∙ left

pub part_varies : (scope : Scope) (xs : List Expr) (k : ℕ) (x : Expr) (all : Bool) → k < length xs → x ≡ get_or xs k x → is_constant scope (expression_of x) ≡ false
    → is_constant scope (parts_of (map expression_of (drop k xs))) ≡ all → false ≡ all
part_varies scope xs k x all h is one left =
    let rest = is_constant scope (parts_of (map expression_of (drop (k + 1) xs))) in
    sym (ap (λ b. b && rest) one) ∙ sym (ap (λ zs. is_constant scope (parts_of (map expression_of zs))) (drop_read xs k x h is)) ∙ left

-- ---- parts of a concatenation

pub part_read : (scope : Scope) (xs : List Expr) (i : ℕ) (x : Expr) (old now new : List Mention) (from next after : ℕ) (all : List Identifier) → i < length xs → x ≡ get_or xs i x
    → NamesLeft old now from next all (expression_names scope (parts_of (map expression_of (drop i xs)))) → Notes now new next after (expression_names scope (expression_of x))
    → NamesLeft old new from after all (expression_names scope (parts_of (map expression_of (drop (i + 1) xs))))
part_read scope = element_after (λ ys. expression_names scope (parts_of (map expression_of ys))) (λ y. expression_names scope (expression_of y)) (λ y ys. refl)

pub parts_read : (scope : Scope) (xs : List Expr) (i : ℕ) (old now : List Mention) (from next : ℕ) → length xs ≤ i
    → NamesLeft old now from next (expression_names scope (parts_of (map expression_of xs))) (expression_names scope (parts_of (map expression_of (drop i xs))))
    → Notes old now from next (expression_names scope (parts_of (map expression_of xs)))
parts_read scope = elements_done (λ ys. expression_names scope (parts_of (map expression_of ys))) refl

pub part_written : (xs : List Expr) (i : ℕ) (x : Expr) (old now new : List Mention) (from next after : ℕ) (all : List Identifier) → i < length xs → x ≡ get_or xs i x
    → NamesLeft old now from next all (expression_targets (parts_of (map expression_of (drop i xs)))) → Notes now new next after (expression_targets (expression_of x))
    → NamesLeft old new from after all (expression_targets (parts_of (map expression_of (drop (i + 1) xs))))
part_written = element_after (λ ys. expression_targets (parts_of (map expression_of ys))) (λ y. expression_targets (expression_of y)) (λ y ys. refl)

pub parts_written : (xs : List Expr) (i : ℕ) (old now : List Mention) (from next : ℕ) → length xs ≤ i
    → NamesLeft old now from next (expression_targets (parts_of (map expression_of xs))) (expression_targets (parts_of (map expression_of (drop i xs))))
    → Notes old now from next (expression_targets (parts_of (map expression_of xs)))
parts_written = elements_done (λ ys. expression_targets (parts_of (map expression_of ys))) refl

-- ---- targets

pub target_written : (xs : List Lhs) (i : ℕ) (x : Lhs) (old now new : List Mention) (from next after : ℕ) (all : List Identifier) → i < length xs → x ≡ get_or xs i x
    → NamesLeft old now from next all (target_names (targets_of (map target_of (drop i xs)))) → Notes now new next after (target_names (target_of x))
    → NamesLeft old new from after all (target_names (targets_of (map target_of (drop (i + 1) xs))))
target_written = element_after (λ ys. target_names (targets_of (map target_of ys))) (λ y. target_names (target_of y)) (λ y ys. refl)

pub targets_written : (xs : List Lhs) (i : ℕ) (old now : List Mention) (from next : ℕ) → length xs ≤ i
    → NamesLeft old now from next (target_names (targets_of (map target_of xs))) (target_names (targets_of (map target_of (drop i xs))))
    → Notes old now from next (target_names (targets_of (map target_of xs)))
targets_written = elements_done (λ ys. target_names (targets_of (map target_of ys))) refl

pub target_read : (scope : Scope) (xs : List Lhs) (i : ℕ) (x : Lhs) (old now new : List Mention) (from next after : ℕ) (all : List Identifier) → i < length xs → x ≡ get_or xs i x
    → NamesLeft old now from next all (index_names scope (targets_of (map target_of (drop i xs)))) → Notes now new next after (index_names scope (target_of x))
    → NamesLeft old new from after all (index_names scope (targets_of (map target_of (drop (i + 1) xs))))
target_read scope = element_after (λ ys. index_names scope (targets_of (map target_of ys))) (λ y. index_names scope (target_of y)) (λ y ys. refl)

pub targets_read : (scope : Scope) (xs : List Lhs) (i : ℕ) (old now : List Mention) (from next : ℕ) → length xs ≤ i
    → NamesLeft old now from next (index_names scope (targets_of (map target_of xs))) (index_names scope (targets_of (map target_of (drop i xs))))
    → Notes old now from next (index_names scope (targets_of (map target_of xs)))
targets_read scope = elements_done (λ ys. index_names scope (targets_of (map target_of ys))) refl

-- ---- labels

pub label_listed : (w : Listing) (xs : List Label) (i : ℕ) (x : Label) (old now new : List Mention) (from next after : ℕ) (all : List Identifier) → i < length xs → x ≡ get_or xs i x
    → NamesLeft old now from next all (labels_names w (map label_of (drop i xs))) → Notes now new next after (label_names w (label_of x))
    → NamesLeft old new from after all (labels_names w (map label_of (drop (i + 1) xs)))
label_listed w = element_after (λ ys. labels_names w (map label_of ys)) (λ y. label_names w (label_of y)) (λ y ys. refl)

pub labels_listed : (w : Listing) (xs : List Label) (i : ℕ) (old now : List Mention) (from next : ℕ) → length xs ≤ i
    → NamesLeft old now from next (labels_names w (map label_of xs)) (labels_names w (map label_of (drop i xs)))
    → Notes old now from next (labels_names w (map label_of xs))
labels_listed w = elements_done (λ ys. labels_names w (map label_of ys)) refl
