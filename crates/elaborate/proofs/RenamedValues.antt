-- Constants, ranges and types of parameters under other names: the same values, and the same faults with their other names.
use Rattle.std.proofs.Common.{◌≡◌, nat_lt, Bool, not, List, [], ◌∷◌, map, Option, Some, None, refl, ◌∙◌, ap, ap₂}
use Rattle.std.specs.Option.{option_map}
use Rattle.ls_text.specs.declared.fault.Fault.{Fault}
use Rattle.ls_text.specs.declared.name_id.NameId.{NameId}
use Rattle.verilog_ast.specs.Declarations.{RangeBounds, Kind}
use Rattle.verilog_ast.specs.Expressions.{Expression}
use Rattle.verilog_ast.specs.Renaming.{expression_as, range_as, kind_as}
use Rattle.width_rules.specs.declared.due.Due.TheVariants.{ConstantOnly}
use Rattle.width_rules.specs.Constants.{integer}
use Rattle.width_rules.specs.Faults.{fault_of}
use Rattle.width_rules.specs.Renaming.{MeansSame, fault_as}
use Rattle.width_rules.specs.Scopes.{Scope}
use Rattle.width_rules.proofs.RenamedSizes.{same_sign, same_length, same_value, same_worth}
use Rattle.width_rules.proofs.RenamedFaults.{both_so, if_so, fault_of_so, same_between, same_faults}
use Rattle.gen_unroll.specs.Declarations.{is_range, lower_bound, range_faults, range_value, parameter_type, typed_by}
use Rattle.gen_unroll.specs.Values.{unless, evaluated}
use Rattle.gen_unroll.proofs.Values.{constant_so}
use Rattle.gen_unroll.proofs.Bounds.{range_with}
use Rattle.elaborate.specs.Renaming.{answer_as}
use Rattle.elaborate.proofs.RenamedAnswers.{bind_so}

-- ---- answers

unless_moves : {A : Type 0} (f : NameId → NameId) (xs : List Fault) (x : A) → unless (map (fault_as f) xs) x ≡ answer_as f (unless xs x)
unless_moves f [] x = refl
unless_moves f (e ∷ es) x = refl

unless_so : {A : Type 0} (f : NameId → NameId) (xs ys : List Fault) (x y : A) → ys ≡ map (fault_as f) xs → y ≡ x → unless ys y ≡ answer_as f (unless xs x)
unless_so {A} f xs ys x y faults values = ap₂ (λ (zs : List Fault) (z : A). unless zs z) faults values ∙ unless_moves f xs x

-- ---- constants

pub same_evaluated : (f : NameId → NameId) (scope other : Scope) (e : Expression) → MeansSame f scope other → evaluated other (expression_as f e) ≡ answer_as f (evaluated scope e)
unfolding evaluated
same_evaluated f scope other e same =
    unless_so f _ _ _ _ (same_faults f scope other ConstantOnly e same)
    (constant_so _ _ _ _ _ _ (same_length f scope other e same) (same_value f scope other e same) (same_sign f scope other e same))

-- ---- ranges

same_is_range : (f : NameId → NameId) (scope other : Scope) (r : RangeBounds) → MeansSame f scope other
    → is_range (integer other (expression_as f r.high)) (integer other (expression_as f r.low)) ≡ is_range (integer scope r.high) (integer scope r.low)
same_is_range f scope other r same = ap₂ is_range (same_worth f scope other r.high same) (same_worth f scope other r.low same)

same_range_faults : (f : NameId → NameId) (scope other : Scope) (r : RangeBounds) → MeansSame f scope other
    → range_faults other (range_as f r) ≡ map (fault_as f) (range_faults scope r)
unfolding range_faults
same_range_faults f scope other r same =
    both_so f _ _ _ _ (same_faults f scope other ConstantOnly r.high same)
    (both_so f _ _ _ _ (same_faults f scope other ConstantOnly r.low same)
    (both_so f _ _ _ _ (if_so f _ _ _ (fault_of 26 r.high) (ap not (same_is_range f scope other r same)) (fault_of_so f 26 r.high))
    (if_so f _ _ _ (fault_of 31 r.high) (ap (nat_lt 128) (same_between f scope other r.high r.low same)) (fault_of_so f 31 r.high))))

pub same_range_value : (f : NameId → NameId) (scope other : Scope) (r : RangeBounds) → MeansSame f scope other → range_value other (range_as f r) ≡ answer_as f (range_value scope r)
unfolding range_value
same_range_value f scope other r same =
    unless_so f _ _ _ _ (same_range_faults f scope other r same)
    (ap₂ range_with (same_between f scope other r.high r.low same) (ap lower_bound (same_worth f scope other r.low same)))

-- ---- types of parameters

same_typed : (f : NameId → NameId) (scope other : Scope) (signed : Bool) (r : Option RangeBounds) → MeansSame f scope other
    → typed_by other signed (option_map (range_as f) r) ≡ answer_as f (typed_by scope signed r)
same_typed f scope other signed None same = refl
same_typed f scope other signed (Some r) same = bind_so f _ _ _ _ (same_range_value f scope other r same) (λ b. refl)

pub same_type : (f : NameId → NameId) (scope other : Scope) (k : Kind) → MeansSame f scope other → parameter_type other (kind_as f k) ≡ answer_as f (parameter_type scope k)
same_type f scope other k same = same_typed f scope other k.signed k.range same
