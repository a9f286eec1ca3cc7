-- Targets in a scope whose signals have other numbers: where only signals are written, the same parts under these numbers.
use Rattle.std.proofs.Common.{◌≡◌, ℕ, ◌+◌, ◌-◌, Bool, true, false, List, [], ◌∷◌, ◌++◌, map, ℤ, refl, sym, ◌∙◌, ap, ap₂}
use Rattle.std.proofs.lemmas.List.{map-append}
use Rattle.ls_text.proofs.Lists.{some_is_none}
use Rattle.typed_ir.specs.Sized.{Sized}
use Rattle.typed_ir.specs.Stmts.{SizedTarget}
use Rattle.verilog_ast.specs.declared.identifier.Identifier.{Identifier}
use Rattle.verilog_ast.specs.Expressions.{Expression, Whole, BitSelect, PartSelect, UpwardSelect, DownwardSelect, Target, Reference, Joined, NoTarget, Targets}
use Rattle.width_rules.specs.declared.writer.Writer.{Writer}
use Rattle.width_rules.specs.Constants.{integer}
use Rattle.width_rules.specs.Faults.{fault_at}
use Rattle.width_rules.specs.References.{whole_part, part_at, part_from, reference_part}
use Rattle.width_rules.specs.Scopes.{Meaning, Signal, Constant, Turn, Genvar, Unknown, Scope}
use Rattle.width_rules.specs.Sizes.{count_of, bits_between}
use Rattle.statement_rules.specs.Targets.{target_length, parts, reference_kind, kind_faults}
use Rattle.width_rules.proofs.Reading.{left_none, right_none}
use Rattle.statement_rules.specs.Renumbering.{meaning_as, renumbered, numbered_as, target_as}
use Rattle.statement_rules.specs.Written.{IsReference, IsTargetWritten, AreTargetsWritten}
use Rattle.statement_rules.proofs.RenumberedFaults.{target_long_as}
use Rattle.statement_rules.proofs.RenumberedForms.{sign_as, fixed_as, integer_as, own_as}
use Rattle.statement_rules.proofs.Targets.{wrong_kind}

whole_as : (g : ℕ → ℕ) (m : Meaning) (by : Writer) (n : Identifier) (shift : ℕ) → wrong_kind by m n ≡ [] → whole_part (meaning_as g m) shift ≡ target_as g (whole_part m shift)
whole_as g (Signal signal width lsb signed writer) by n shift h = refl
whole_as g (Constant width value signed) by n shift h = some_is_none (fault_at 33 n) [] h
whole_as g (Turn width value signed) by n shift h = some_is_none (fault_at 33 n) [] h
whole_as g Genvar by n shift h = some_is_none (fault_at 33 n) [] h
whole_as g Unknown by n shift h = some_is_none (fault_at 33 n) [] h

part_as : (g : ℕ → ℕ) (m : Meaning) (by : Writer) (n : Identifier) (shift width down : ℕ) (known : Bool) (at : ℤ) (signed : Bool) (index : Sized) → wrong_kind by m n ≡ []
    → part_at (meaning_as g m) shift width down known at signed (numbered_as g index) ≡ target_as g (part_at m shift width down known at signed index)
part_as g (Signal signal total lsb sign writer) by n shift width down true at signed index h = refl
part_as g (Signal signal total lsb sign writer) by n shift width down false at signed index h = refl
part_as g (Constant own value sign) by n shift width down known at signed index h = some_is_none (fault_at 33 n) [] h
part_as g (Turn own value sign) by n shift width down known at signed index h = some_is_none (fault_at 33 n) [] h
part_as g Genvar by n shift width down known at signed index h = some_is_none (fault_at 33 n) [] h
part_as g Unknown by n shift width down known at signed index h = some_is_none (fault_at 33 n) [] h

range_as : (g : ℕ → ℕ) (m : Meaning) (by : Writer) (n : Identifier) (shift : ℕ) (low : ℤ) (width : ℕ) → wrong_kind by m n ≡ []
    → part_from (meaning_as g m) shift low width ≡ target_as g (part_from m shift low width)
range_as g (Signal signal total lsb sign writer) by n shift low width h = refl
range_as g (Constant own value sign) by n shift low width h = some_is_none (fault_at 33 n) [] h
range_as g (Turn own value sign) by n shift low width h = some_is_none (fault_at 33 n) [] h
range_as g Genvar by n shift low width h = some_is_none (fault_at 33 n) [] h
range_as g Unknown by n shift low width h = some_is_none (fault_at 33 n) [] h

part_so : (g : ℕ → ℕ) (m : Meaning) (by : Writer) (n : Identifier) (shift v w d e : ℕ) (b c : Bool) (i j : ℤ) (p q : Bool) (x y : Sized) → wrong_kind by m n ≡ []
    → v ≡ w → d ≡ e → b ≡ c → i ≡ j → p ≡ q → x ≡ numbered_as g y
    → part_at (meaning_as g m) shift v d b i p x ≡ target_as g (part_at m shift w e c j q y)
part_so g m by n shift v w d e b c i j p q x y h vs ds bs is ps xs =
    ap₂ (λ (a k : ℕ). part_at (meaning_as g m) shift a k b i p x) vs ds
    ∙ ap₂ (λ (a : Bool) (k : ℤ). part_at (meaning_as g m) shift w e a k p x) bs is
    ∙ ap₂ (λ (a : Bool) (k : Sized). part_at (meaning_as g m) shift w e c j a k) ps xs
    ∙ part_as g m by n shift w e c j q y h

reference_as : (g : ℕ → ℕ) (scope : Scope) (by : Writer) (shift : ℕ) (x : Expression) → IsReference x → reference_kind scope by x ≡ []
    → reference_part (renumbered g scope) shift x ≡ target_as g (reference_part scope shift x)
reference_as g scope by shift (Whole n) w h = whole_as g (scope n.name.0) by n shift h
reference_as g scope by shift (BitSelect n x) w h =
    part_so g (scope n.name.0) by n shift 1 1 0 0 _ _ _ _ _ _ _ _ h refl refl (fixed_as g scope x) (integer_as g scope x) (sign_as g scope x) (own_as g scope x)
reference_as g scope by shift (PartSelect n x y) w h =
    ap₂ (λ (i : ℤ) (v : ℕ). part_from (meaning_as g (scope n.name.0)) shift i v) (integer_as g scope y) (ap₂ bits_between (integer_as g scope x) (integer_as g scope y))
    ∙ range_as g (scope n.name.0) by n shift (integer scope y) (bits_between (integer scope x) (integer scope y)) h
reference_as g scope by shift (UpwardSelect n x y) w h =
    part_so g (scope n.name.0) by n shift _ _ 0 0 _ _ _ _ _ _ _ _ h (ap count_of (integer_as g scope y)) refl (fixed_as g scope x) (integer_as g scope x) (sign_as g scope x) (own_as g scope x)
reference_as g scope by shift (DownwardSelect n x y) w h =
    part_so g (scope n.name.0) by n shift _ _ _ _ _ _ _ _ _ _ _ _ h (ap count_of (integer_as g scope y)) (ap (λ (z : ℤ). count_of z - 1) (integer_as g scope y))
    (fixed_as g scope x) (integer_as g scope x) (sign_as g scope x) (own_as g scope x)
reference_as g scope by shift other w h = absurd w

mutual
  pub parts_as : (g : ℕ → ℕ) (scope : Scope) (by : Writer) (shift : ℕ) (t : Target) → IsTargetWritten t → kind_faults scope by t ≡ []
      → parts (renumbered g scope) shift t ≡ map (target_as g) (parts scope shift t)
  parts_as g scope by shift (Reference x) w h = ap (λ (p : SizedTarget). p ∷ []) (reference_as g scope by shift x w h)
  parts_as g scope by shift (Joined at ts) w h = all_as g scope by shift ts w h
  parts_as g scope by shift NoTarget w h = absurd w
  parts_as g scope by shift (Targets t ts) w h = absurd w

  all_as : (g : ℕ → ℕ) (scope : Scope) (by : Writer) (shift : ℕ) (t : Target) → AreTargetsWritten t → kind_faults scope by t ≡ []
      → parts (renumbered g scope) shift t ≡ map (target_as g) (parts scope shift t)
  all_as g scope by shift NoTarget w h = refl
  all_as g scope by shift (Targets t ts) w h =
      ap₂ (λ (ps qs : List SizedTarget). ps ++ qs)
      (ap (λ (n : ℕ). parts (renumbered g scope) (shift + n) t) (target_long_as g scope ts)
      ∙ parts_as g scope by (shift + target_length scope ts) t w.0 (left_none (kind_faults scope by t) (kind_faults scope by ts) h))
      (all_as g scope by shift ts w.1 (right_none (kind_faults scope by t) (kind_faults scope by ts) h))
      ∙ sym (map-append (target_as g) (parts scope (shift + target_length scope ts) t) (parts scope shift ts))
  all_as g scope by shift other w h = absurd w
