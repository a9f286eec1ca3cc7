-- Constants, ranges and types of parameters without places: the same values, and the same faults.
use Rattle.std.proofs.Common.{◌≡◌, nat_lt, Bool, not, map, Option, Some, None, refl, ap, ap₂}
use Rattle.std.specs.Option.{option_map}
use Rattle.verilog_ast.specs.Declarations.{RangeBounds, Kind}
use Rattle.verilog_ast.specs.Expressions.{Expression}
use Rattle.width_rules.specs.declared.due.Due.TheVariants.{ConstantOnly}
use Rattle.width_rules.specs.Constants.{integer}
use Rattle.width_rules.specs.Faults.{fault_of}
use Rattle.width_rules.specs.Scopes.{Scope}
use Rattle.gen_unroll.specs.Declarations.{is_range, lower_bound, range_faults, range_value, parameter_type, typed_by}
use Rattle.gen_unroll.specs.Values.{evaluated}
use Rattle.gen_unroll.proofs.Values.{constant_so}
use Rattle.gen_unroll.proofs.Bounds.{range_with}
use Rattle.version_swap.specs.Unplaced.{unplaced_expression, unplaced_range, unplaced_kind}
use Rattle.version_swap.specs.UnplacedFindings.{fault_unplaced, answer_unplaced}
use Rattle.version_swap.proofs.UnplacedSizes.{same_sign, same_length, same_value, same_worth}
use Rattle.version_swap.proofs.UnplacedFaults.{both_so, if_so, fault_of_so, same_between, same_faults}
use Rattle.version_swap.proofs.UnplacedAnswers.{bind_so, unless_so}

-- ---- constants

pub same_evaluated : (scope : Scope) (e : Expression) → evaluated scope (unplaced_expression e) ≡ answer_unplaced (evaluated scope e)
unfolding evaluated
same_evaluated scope e =
    unless_so _ _ _ _ (same_faults scope ConstantOnly e)
    (constant_so _ _ _ _ _ _ (same_length scope e) (same_value scope e) (same_sign scope e))

-- ---- ranges

same_is_range : (scope : Scope) (r : RangeBounds)
    → is_range (integer scope (unplaced_expression r.high)) (integer scope (unplaced_expression r.low))
    ≡ is_range (integer scope r.high) (integer scope r.low)
same_is_range scope r = ap₂ is_range (same_worth scope r.high) (same_worth scope r.low)

same_range_faults : (scope : Scope) (r : RangeBounds) → range_faults scope (unplaced_range r) ≡ map fault_unplaced (range_faults scope r)
unfolding range_faults
same_range_faults scope r =
    both_so _ _ _ _ (same_faults scope ConstantOnly r.high)
    (both_so _ _ _ _ (same_faults scope ConstantOnly r.low)
    (both_so _ _ _ _ (if_so _ _ _ (fault_of 26 r.high) (ap not (same_is_range scope r)) (fault_of_so 26 r.high))
    (if_so _ _ _ (fault_of 31 r.high) (ap (nat_lt 128) (same_between scope r.high r.low)) (fault_of_so 31 r.high))))

pub same_range_value : (scope : Scope) (r : RangeBounds) → range_value scope (unplaced_range r) ≡ answer_unplaced (range_value scope r)
unfolding range_value
same_range_value scope r =
    unless_so _ _ _ _ (same_range_faults scope r) (ap₂ range_with (same_between scope r.high r.low) (ap lower_bound (same_worth scope r.low)))

-- ---- types of parameters

same_typed : (scope : Scope) (signed : Bool) (r : Option RangeBounds)
    → typed_by scope signed (option_map unplaced_range r) ≡ answer_unplaced (typed_by scope signed r)
same_typed scope signed None = refl
same_typed scope signed (Some r) = bind_so _ _ _ _ (same_range_value scope r) (λ b. refl)

pub same_type : (scope : Scope) (k : Kind) → parameter_type scope (unplaced_kind k) ≡ answer_unplaced (parameter_type scope k)
same_type scope k = same_typed scope k.signed k.range
