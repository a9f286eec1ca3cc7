-- The names of a target are those of its parts, and what its indices read are the leaves of the indices.
use Rattle.std.proofs.Common.{◌≡◌, ℕ, ◌+◌, ◌-◌, Bool, true, false, List, [], ◌∷◌, ◌++◌, map, ℤ, refl, sym, ◌∙◌, ap, append-nil, append_assoc}
use Rattle.std.proofs.lemmas.List.{map-append}
use Rattle.typed_ir.specs.declared.span.Span.{Span}
use Rattle.typed_ir.specs.Sized.{Sized}
use Rattle.typed_ir.specs.Stmts.{SizedTarget, Fixed, Moving, span_of}
use Rattle.verilog_ast.specs.declared.identifier.Identifier.{Identifier}
use Rattle.verilog_ast.specs.Expressions.{Expression, Whole, BitSelect, PartSelect, UpwardSelect, DownwardSelect, Target, Reference, Joined, NoTarget, Targets}
use Rattle.width_rules.specs.Constants.{integer}
use Rattle.width_rules.specs.Opened.{own}
use Rattle.width_rules.specs.References.{whole_part, part_at, part_from, reference_part}
use Rattle.width_rules.specs.Scopes.{Meaning, Signal, Constant, Turn, Genvar, Unknown, Scope, is_signal}
use Rattle.width_rules.specs.Signs.{is_signed}
use Rattle.width_rules.specs.Sizes.{length, bits_between, count_of, is_constant}
use Rattle.statement_rules.specs.Targets.{target_length, parts}
use Rattle.block_rules.specs.Paths.{leaves, index_leaves}
use Rattle.statement_rules.specs.Written.{IsWritten, IsReference, IsTargetWritten, AreTargetsWritten}
use Rattle.statement_rules.specs.DeclaredValues.{signal_in}
use Rattle.mention_laws.specs.Leaves.{signals_of}
use Rattle.width_rules.specs.Names.{expression_names, run_time, index_of, index_names, reference_name, target_names}
use Rattle.mention_laws.proofs.ExpressionLeaves.{number, both_named, expression_leaves}

-- ---- names

whole_named : (m : Meaning) (shift : ℕ) → (span_of (whole_part m shift)).signal ≡ signal_in m
whole_named (Signal signal width lsb signed writer) shift = refl
whole_named (Constant width value signed) shift = refl
whole_named (Turn width value signed) shift = refl
whole_named Genvar shift = refl
whole_named Unknown shift = refl

bits_named : (m : Meaning) (shift width down : ℕ) (constant : Bool) (at : ℤ) (signed : Bool) (index : Sized)
    → (span_of (part_at m shift width down constant at signed index)).signal ≡ signal_in m
bits_named (Signal signal total lsb sign writer) shift width down true at signed index = refl
bits_named (Signal signal total lsb sign writer) shift width down false at signed index = refl
bits_named (Constant own value sign) shift width down constant at signed index = refl
bits_named (Turn own value sign) shift width down constant at signed index = refl
bits_named Genvar shift width down constant at signed index = refl
bits_named Unknown shift width down constant at signed index = refl

range_named : (m : Meaning) (shift : ℕ) (low : ℤ) (width : ℕ) → (span_of (part_from m shift low width)).signal ≡ signal_in m
range_named (Signal signal total lsb sign writer) shift low width = refl
range_named (Constant own value sign) shift low width = refl
range_named (Turn own value sign) shift low width = refl
range_named Genvar shift low width = refl
range_named Unknown shift low width = refl

one : (k n : ℕ) → k ≡ n → k ∷ [] ≡ n ∷ []
one k n h = ap (λ (i : ℕ). i ∷ []) h

reference_named : (scope : Scope) (shift : ℕ) (x : Expression) → IsReference x → signals_of (map span_of (reference_part scope shift x ∷ [])) ≡ map (number scope) (reference_name x)
reference_named scope shift (Whole n) w = one _ _ (whole_named (scope n.name.0) shift)
reference_named scope shift (BitSelect n x) w = one _ _ (bits_named (scope n.name.0) shift 1 0 (is_constant scope x) (integer scope x) (is_signed scope x) (own scope x))
reference_named scope shift (PartSelect n x y) w = one _ _ (range_named (scope n.name.0) shift (integer scope y) (bits_between (integer scope x) (integer scope y)))
reference_named scope shift (UpwardSelect n x y) w =
    one _ _ (bits_named (scope n.name.0) shift (count_of (integer scope y)) 0 (is_constant scope x) (integer scope x) (is_signed scope x) (own scope x))
reference_named scope shift (DownwardSelect n x y) w =
    one _ _ (bits_named (scope n.name.0) shift (count_of (integer scope y)) (count_of (integer scope y) - 1) (is_constant scope x) (integer scope x) (is_signed scope x) (own scope x))
reference_named scope shift other w = absurd w

mutual
  pub target_named : (scope : Scope) (shift : ℕ) (t : Target) → IsTargetWritten t → signals_of (map span_of (parts scope shift t)) ≡ map (number scope) (target_names t)
  target_named scope shift (Reference x) w = reference_named scope shift x w
  target_named scope shift (Joined at ts) w = targets_named scope shift ts w
  target_named scope shift NoTarget w = absurd w
  target_named scope shift (Targets t ts) w = absurd w

  targets_named : (scope : Scope) (shift : ℕ) (t : Target) → AreTargetsWritten t → signals_of (map span_of (parts scope shift t)) ≡ map (number scope) (target_names t)
  targets_named scope shift NoTarget w = refl
  targets_named scope shift (Targets t ts) w =
      ap signals_of (map-append span_of (parts scope (shift + target_length scope ts) t) (parts scope shift ts))
      ∙ both_named (number scope) (map span_of (parts scope (shift + target_length scope ts) t)) (map span_of (parts scope shift ts)) (target_names t) (target_names ts)
      (target_named scope (shift + target_length scope ts) t w.0) (targets_named scope shift ts w.1)
  targets_named scope shift (Reference x) w = absurd w
  targets_named scope shift (Joined at ts) w = absurd w

-- ---- indices

whole_index : (m : Meaning) (shift : ℕ) → index_leaves (whole_part m shift ∷ []) ≡ []
whole_index (Signal signal width lsb signed writer) shift = refl
whole_index (Constant width value signed) shift = refl
whole_index (Turn width value signed) shift = refl
whole_index Genvar shift = refl
whole_index Unknown shift = refl

range_index : (m : Meaning) (shift : ℕ) (low : ℤ) (width : ℕ) → index_leaves (part_from m shift low width ∷ []) ≡ []
range_index (Signal signal total lsb sign writer) shift low width = refl
range_index (Constant own value sign) shift low width = refl
range_index (Turn own value sign) shift low width = refl
range_index Genvar shift low width = refl
range_index Unknown shift low width = refl

bits_index : (f : Identifier → ℕ) (m : Meaning) (shift width down : ℕ) (constant : Bool) (at : ℤ) (signed : Bool) (index : Sized) (names : List Identifier)
    → signals_of (leaves index) ≡ map f names
    → signals_of (index_leaves (part_at m shift width down constant at signed index ∷ [])) ≡ map f (run_time (is_signal m) constant names)
bits_index f (Signal signal total lsb sign writer) shift width down true at signed index names h = refl
bits_index f (Signal signal total lsb sign writer) shift width down false at signed index names h = ap signals_of (append-nil (leaves index)) ∙ h
bits_index f (Constant own value sign) shift width down constant at signed index names h = refl
bits_index f (Turn own value sign) shift width down constant at signed index names h = refl
bits_index f Genvar shift width down constant at signed index names h = refl
bits_index f Unknown shift width down constant at signed index names h = refl

own_leaves : (scope : Scope) (x : Expression) → IsWritten x → signals_of (leaves (own scope x)) ≡ map (number scope) (expression_names scope x)
own_leaves scope x w = expression_leaves scope x (length scope x) (is_signed scope x) w

reference_index : (scope : Scope) (shift : ℕ) (x : Expression) → IsReference x → signals_of (index_leaves (reference_part scope shift x ∷ [])) ≡ map (number scope) (index_of scope x)
reference_index scope shift (Whole n) w = ap signals_of (whole_index (scope n.name.0) shift)
reference_index scope shift (BitSelect n x) w =
    bits_index (number scope) (scope n.name.0) shift 1 0 (is_constant scope x) (integer scope x) (is_signed scope x) (own scope x) (expression_names scope x) (own_leaves scope x w)
reference_index scope shift (PartSelect n x y) w = ap signals_of (range_index (scope n.name.0) shift (integer scope y) (bits_between (integer scope x) (integer scope y)))
reference_index scope shift (UpwardSelect n x y) w =
    bits_index (number scope) (scope n.name.0) shift (count_of (integer scope y)) 0 (is_constant scope x) (integer scope x) (is_signed scope x) (own scope x) (expression_names scope x) (own_leaves scope x w.0)
reference_index scope shift (DownwardSelect n x y) w =
    bits_index (number scope) (scope n.name.0) shift (count_of (integer scope y)) (count_of (integer scope y) - 1) (is_constant scope x) (integer scope x) (is_signed scope x) (own scope x) (expression_names scope x) (own_leaves scope x w.0)
reference_index scope shift other w = absurd w

index_two : (xs ys : List SizedTarget) → index_leaves (xs ++ ys) ≡ index_leaves xs ++ index_leaves ys
index_two [] ys = refl
index_two (Fixed lane ∷ xs) ys = index_two xs ys
index_two (Moving reach index ∷ xs) ys =
    ap (λ (ps : List Span). leaves index ++ ps) (index_two xs ys) ∙ sym (append_assoc (leaves index) (index_leaves xs) (index_leaves ys))

mutual
  pub target_index : (scope : Scope) (shift : ℕ) (t : Target) → IsTargetWritten t → signals_of (index_leaves (parts scope shift t)) ≡ map (number scope) (index_names scope t)
  target_index scope shift (Reference x) w = reference_index scope shift x w
  target_index scope shift (Joined at ts) w = targets_index scope shift ts w
  target_index scope shift NoTarget w = absurd w
  target_index scope shift (Targets t ts) w = absurd w

  targets_index : (scope : Scope) (shift : ℕ) (t : Target) → AreTargetsWritten t → signals_of (index_leaves (parts scope shift t)) ≡ map (number scope) (index_names scope t)
  targets_index scope shift NoTarget w = refl
  targets_index scope shift (Targets t ts) w =
      ap signals_of (index_two (parts scope (shift + target_length scope ts) t) (parts scope shift ts))
      ∙ both_named (number scope) (index_leaves (parts scope (shift + target_length scope ts) t)) (index_leaves (parts scope shift ts)) (index_names scope t) (index_names scope ts)
      (target_index scope (shift + target_length scope ts) t w.0) (targets_index scope shift ts w.1)
  targets_index scope shift (Reference x) w = absurd w
  targets_index scope shift (Joined at ts) w = absurd w
