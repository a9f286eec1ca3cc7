use Rattle.std.proofs.Common.{◌≡◌, nat_lt, true, false, [], ◌∷◌, rules}
use Rattle.verilog_ast.specs.Views.{range_of}
use Rattle.width_rules.specs.declared.due.Due.TheVariants.{ConstantOnly}
use Rattle.width_rules.specs.Constants.{integer}
use Rattle.width_rules.specs.Entries.{scope_of}
use Rattle.width_rules.specs.Faults.{IsFirst, faults, fault_of}
use Rattle.width_rules.specs.Sizes.{bits_between}
use Rattle.width_rules.specs.Wholes.{whole_of}
use Rattle.gen_unroll.specs.Declarations.{is_range, range_value}
use Rattle.gen_unroll.specs.Views.{bit_range_of}
use Rattle.gen_unroll.proofs.Bounds.{is_range_value, first_none, first_order, first_wide, refused_range, high_refused, low_refused}
use Rattle.gen_unroll.proofs.Values.{handed_on}
use Rattle.gen_unroll.proofs.ranges.range_value.Goals as goal

pub returns-in-Some : goal.returns-in-Some
returns-in-Some c =
    let s = scope_of c.args.scope.now in
    let r = range_of c.args.range.now in
    let high : whole_of c.in_ok-high.high ≡ integer s r.high = search rules in
    let low : whole_of c.in_ok-low.low ≡ integer s r.low = search rules in
    let high_none : faults s ConstantOnly r.high ≡ [] = search rules in
    let low_none : faults s ConstantOnly r.low ≡ [] = search rules in
    let ordered : is_range (whole_of c.in_ok-high.high) (whole_of c.in_ok-low.low) ≡ true = search rules in
    let narrow : nat_lt 128 (bits_between (whole_of c.in_ok-high.high) (whole_of c.in_ok-low.low)) ≡ false = search rules in
    is_range_value s r (whole_of c.in_ok-high.high) (whole_of c.in_ok-low.low) c.in-Some.range
    (first_none s r (whole_of c.in_ok-high.high) (whole_of c.in_ok-low.low) high_none low_none high low ordered narrow)
    high low c.in-Some.ensures.width c.in-Some.ensures.low

pub returns-then-not-is_range : goal.returns-then-not-is_range
returns-then-not-is_range c =
    let s = scope_of c.args.scope.now in
    let r = range_of c.args.range.now in
    let high : whole_of c.in_ok-high.high ≡ integer s r.high = search rules in
    let low : whole_of c.in_ok-low.low ≡ integer s r.low = search rules in
    let high_none : faults s ConstantOnly r.high ≡ [] = search rules in
    let low_none : faults s ConstantOnly r.low ≡ [] = search rules in
    let unordered : is_range (whole_of c.in_ok-high.high) (whole_of c.in_ok-low.low) ≡ false = search rules in
    let first : IsFirst (fault_of 26 r.high ∷ []) c.refused_of.result = search rules in
    refused_range s r c.refused_of.result
    (first_order s r (whole_of c.in_ok-high.high) (whole_of c.in_ok-low.low) c.refused_of.result high_none low_none high low unordered first)

pub returns-in-None : goal.returns-in-None
returns-in-None c =
    let s = scope_of c.args.scope.now in
    let r = range_of c.args.range.now in
    let high : whole_of c.in_ok-high.high ≡ integer s r.high = search rules in
    let low : whole_of c.in_ok-low.low ≡ integer s r.low = search rules in
    let high_none : faults s ConstantOnly r.high ≡ [] = search rules in
    let low_none : faults s ConstantOnly r.low ≡ [] = search rules in
    let ordered : is_range (whole_of c.in_ok-high.high) (whole_of c.in_ok-low.low) ≡ true = search rules in
    let first : IsFirst (fault_of 31 r.high ∷ []) c.refused_of-in-None.result = search rules in
    refused_range s r c.refused_of-in-None.result
    (first_wide s r (whole_of c.in_ok-high.high) (whole_of c.in_ok-low.low) c.refused_of-in-None.result high_none low_none high low ordered c.in-None.ensures.wide first)

pub returns-in_err-high : goal.returns-in_err-high
returns-in_err-high c =
    let s = scope_of c.args.scope.now in
    let r = range_of c.args.range.now in
    let first : IsFirst (faults s ConstantOnly r.high) c.in_err-high.field-0.0 = search rules in
    handed_on c.from_residual.result c.in_err-high.field-0.0 bit_range_of (range_value s r) c.from_residual.ensures.1
    (high_refused s r bit_range_of c.in_err-high.field-0.0 first)

pub returns-in_err-low : goal.returns-in_err-low
returns-in_err-low c =
    let s = scope_of c.args.scope.now in
    let r = range_of c.args.range.now in
    let high_none : faults s ConstantOnly r.high ≡ [] = search rules in
    let first : IsFirst (faults s ConstantOnly r.low) c.in_err-low.field-0.0 = search rules in
    handed_on c.from_residual-in_err-low.result c.in_err-low.field-0.0 bit_range_of (range_value s r) c.from_residual-in_err-low.ensures.1
    (low_refused s r bit_range_of c.in_err-low.field-0.0 high_none first)
