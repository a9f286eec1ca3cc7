-- Names and selects that are written, without places: the same bits, and the same faults.
use Rattle.std.proofs.Common.{◌≡◌, ℕ, ◌-◌, map, refl, ap}
use Rattle.verilog_ast.specs.declared.identifier.Identifier.{Identifier}
use Rattle.verilog_ast.specs.Expressions as e
use Rattle.verilog_ast.specs.Expressions.{Expression}
use Rattle.width_rules.specs.declared.due.Due.{Due}
use Rattle.width_rules.specs.declared.due.Due.TheVariants.{ConstantOnly}
use Rattle.width_rules.specs.References.{reference_part, target_name_faults, reference_faults}
use Rattle.width_rules.specs.Scopes.{Meaning, Unknown, Scope}
use Rattle.width_rules.proofs.RenamedReferences.{bit_part, fixed_part, upward_part, downward_part}
use Rattle.version_swap.specs.Unplaced.{unplaced_expression, unplaced_name}
use Rattle.version_swap.specs.UnplacedFindings.{fault_unplaced}
use Rattle.version_swap.proofs.UnplacedSizes.{same_fixed, same_worth, same_operand, parts_so}
use Rattle.version_swap.proofs.UnplacedFaults.{both_so, run_so, part_so, width_so, same_count, same_between, same_faults}

-- ---- the bits

pub same_reference : (scope : Scope) (shift : ℕ) (x : Expression) → reference_part scope shift (unplaced_expression x) ≡ reference_part scope shift x
same_reference scope shift (e.BitSelect n x) =
    parts_so (bit_part shift (scope n.name.0)) _ _ _ _ _ _ (same_fixed scope x) (same_operand scope x) (same_operand scope x)
same_reference scope shift (e.PartSelect n x y) =
    parts_so (fixed_part shift (scope n.name.0)) _ _ _ _ _ _ (same_fixed scope x) (same_operand scope x) (same_operand scope y)
same_reference scope shift (e.UpwardSelect n x y) =
    parts_so (upward_part shift (scope n.name.0)) _ _ _ _ _ _ (same_fixed scope x) (same_operand scope x) (same_operand scope y)
same_reference scope shift (e.DownwardSelect n x y) =
    parts_so (downward_part shift (scope n.name.0)) _ _ _ _ _ _ (same_fixed scope x) (same_operand scope x) (same_operand scope y)
same_reference scope shift other = refl

-- ---- faults

name_moves : (m : Meaning) (n : Identifier) → target_name_faults m (unplaced_name n) ≡ map fault_unplaced (target_name_faults m n)
name_moves Unknown n = refl
name_moves other n = refl

pub same_reference_faults : (scope : Scope) (due : Due) (x : Expression)
    → reference_faults scope due (unplaced_expression x) ≡ map fault_unplaced (reference_faults scope due x)
same_reference_faults scope due (e.Whole n) = name_moves (scope n.name.0) n
same_reference_faults scope due (e.BitSelect n x) =
    both_so _ _ _ _ (name_moves (scope n.name.0) n) (both_so _ _ _ _ (same_faults scope due x)
    (run_so _ _ _ _ _ 1 1 0 0 n (same_fixed scope x) (same_worth scope x) refl refl))
same_reference_faults scope due (e.PartSelect n x y) =
    both_so _ _ _ _ (name_moves (scope n.name.0) n) (both_so _ _ _ _ (same_faults scope ConstantOnly x)
    (both_so _ _ _ _ (same_faults scope ConstantOnly y)
    (part_so _ _ _ _ _ n (same_worth scope y) (same_between scope x y))))
same_reference_faults scope due (e.UpwardSelect n x y) =
    both_so _ _ _ _ (name_moves (scope n.name.0) n) (both_so _ _ _ _ (same_faults scope due x)
    (both_so _ _ _ _ (same_faults scope ConstantOnly y) (both_so _ _ _ _ (width_so n y _ _ (same_count scope y))
    (run_so _ _ _ _ _ _ _ 0 0 n (same_fixed scope x) (same_worth scope x) (same_count scope y) refl))))
same_reference_faults scope due (e.DownwardSelect n x y) =
    both_so _ _ _ _ (name_moves (scope n.name.0) n) (both_so _ _ _ _ (same_faults scope due x)
    (both_so _ _ _ _ (same_faults scope ConstantOnly y) (both_so _ _ _ _ (width_so n y _ _ (same_count scope y))
    (run_so _ _ _ _ _ _ _ _ _ n (same_fixed scope x) (same_worth scope x) (same_count scope y)
    (ap (λ (w : ℕ). w - 1) (same_count scope y))))))
same_reference_faults scope due other = refl
