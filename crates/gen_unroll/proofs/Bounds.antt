-- Ranges of declarations.
use Rattle.std.proofs.Common.{◌≡◌, ℕ, nat_lt, Bool, true, false, not, [], ◌∷◌, Ok, Err, sym, ◌∙◌, ap, ap₂, subst}
use Rattle.std.specs.Prelude.{ℤ, Option, Some, Result}
use Rattle.std.specs.Option.{option_map}
use Rattle.std.proofs.lemmas.Bool.{not_from_false, not_from_true}
use Rattle.ls_text.specs.declared.fault.Fault.{Fault}
use Rattle.ls_text.specs.declared.refusal.Refusal.{Refusal}
use Rattle.ls_text.specs.declared.refusal.Refusal.TheVariants as refusal
use Rattle.verilog_ast.specs.declared.range.Range.{Range}
use Rattle.verilog_ast.specs.declared.shape.Shape.{Shape}
use Rattle.verilog_ast.specs.Views.{range_of, kind_of}
use Rattle.verilog_ast.specs.Declarations.{RangeBounds}
use Rattle.width_rules.specs.declared.due.Due.TheVariants.{ConstantOnly}
use Rattle.width_rules.specs.Constants.{integer}
use Rattle.width_rules.specs.Faults.{IsFirst, faults, fault_if, fault_of}
use Rattle.width_rules.specs.Scopes.{Scope}
use Rattle.width_rules.specs.Sizes.{bits_between}
use Rattle.gen_unroll.specs.declared.bit_range.BitRange.{BitRange as Bounds}
use Rattle.gen_unroll.specs.Declarations.{BitRange, ParameterType, is_range, lower_bound, range_faults, range_value, typed_by, parameter_type}
use Rattle.ls_text.specs.Answers.{◌>>=◌, Answers}
use Rattle.gen_unroll.specs.Views.{bit_range_of, parameter_type_of}
use Rattle.width_rules.proofs.Firsts.{earlier, later, neither}
use Rattle.gen_unroll.proofs.Values.{is_first, no_fault}

abbrev pub range_with : ℕ → ℕ → BitRange
range_with width low = record { width = width; low = low }

same_range : (a b : BitRange) → a.width ≡ b.width → a.low ≡ b.low → a ≡ b
same_range a b h k = ap (λ n. record { width = n; low = a.low }) h ∙ ap (λ n. record { width = b.width; low = n }) k

-- a range in which nothing is wrong
pub is_range_value : (scope : Scope) (r : RangeBounds) (high low : ℤ) (x : Bounds) → range_faults scope r ≡ []
    → high ≡ integer scope r.high → low ≡ integer scope r.low → x.width ≡ bits_between high low → x.low ≡ lower_bound low
    → range_value scope r ≡ Ok (bit_range_of x)
unfolding range_value
is_range_value scope r high low x none a b width bound =
    no_fault (range_faults scope r) (record { width = bits_between (integer scope r.high) (integer scope r.low); low = lower_bound (integer scope r.low) }) none
    ∙ ap Ok (same_range (record { width = bits_between (integer scope r.high) (integer scope r.low); low = lower_bound (integer scope r.low) }) (bit_range_of x)
    (ap (λ (n : ℤ). bits_between n (integer scope r.low)) (sym a) ∙ ap (λ (n : ℤ). bits_between high n) (sym b) ∙ sym width)
    (ap lower_bound (sym b) ∙ sym bound))

-- a fault where this is so, and none where it isn't
if_so : (b : Bool) (f : Fault) (r : Refusal) → b ≡ true → IsFirst (f ∷ []) r → IsFirst (fault_if b f) r
if_so b f r is h = subst (λ (c : Bool). IsFirst (fault_if c f) r) (sym is) h

none_if : (b : Bool) (f : Fault) → b ≡ false → fault_if b f ≡ []
none_if b f is = ap (λ c. fault_if c f) is

pub first_high : (scope : Scope) (r : RangeBounds) (x : Refusal) → IsFirst (faults scope ConstantOnly r.high) x → IsFirst (range_faults scope r) x
unfolding range_faults
first_high scope r x h = earlier (faults scope ConstantOnly r.high) _ x h

pub first_low : (scope : Scope) (r : RangeBounds) (x : Refusal) → faults scope ConstantOnly r.high ≡ [] → IsFirst (faults scope ConstantOnly r.low) x → IsFirst (range_faults scope r) x
unfolding range_faults
first_low scope r x a h = later (faults scope ConstantOnly r.high) _ x a (earlier (faults scope ConstantOnly r.low) _ x h)

pub first_order : (scope : Scope) (r : RangeBounds) (high low : ℤ) (x : Refusal) → faults scope ConstantOnly r.high ≡ [] → faults scope ConstantOnly r.low ≡ []
    → high ≡ integer scope r.high → low ≡ integer scope r.low → is_range high low ≡ false → IsFirst (fault_of 26 r.high ∷ []) x → IsFirst (range_faults scope r) x
unfolding range_faults
first_order scope r high low x a b is_high is_low none h =
    later (faults scope ConstantOnly r.high) _ x a (later (faults scope ConstantOnly r.low) _ x b
    (earlier (fault_if (not (is_range (integer scope r.high) (integer scope r.low))) (fault_of 26 r.high)) _ x
    (if_so (not (is_range (integer scope r.high) (integer scope r.low))) (fault_of 26 r.high) x
    (not_from_false (is_range (integer scope r.high) (integer scope r.low)) (sym (ap₂ is_range is_high is_low) ∙ none)) h)))

pub first_wide : (scope : Scope) (r : RangeBounds) (high low : ℤ) (x : Refusal) → faults scope ConstantOnly r.high ≡ [] → faults scope ConstantOnly r.low ≡ []
    → high ≡ integer scope r.high → low ≡ integer scope r.low → is_range high low ≡ true → nat_lt 128 (bits_between high low) ≡ true
    → IsFirst (fault_of 31 r.high ∷ []) x → IsFirst (range_faults scope r) x
unfolding range_faults
first_wide scope r high low x a b is_high is_low so wide h =
    later (faults scope ConstantOnly r.high) _ x a (later (faults scope ConstantOnly r.low) _ x b
    (later (fault_if (not (is_range (integer scope r.high) (integer scope r.low))) (fault_of 26 r.high)) _ x
    (none_if (not (is_range (integer scope r.high) (integer scope r.low))) (fault_of 26 r.high)
    (not_from_true (is_range (integer scope r.high) (integer scope r.low)) (sym (ap₂ is_range is_high is_low) ∙ so)))
    (if_so (nat_lt 128 (bits_between (integer scope r.high) (integer scope r.low))) (fault_of 31 r.high) x
    (ap (nat_lt 128) (sym (ap₂ bits_between is_high is_low)) ∙ wide) h)))

pub first_none : (scope : Scope) (r : RangeBounds) (high low : ℤ) → faults scope ConstantOnly r.high ≡ [] → faults scope ConstantOnly r.low ≡ []
    → high ≡ integer scope r.high → low ≡ integer scope r.low → is_range high low ≡ true → nat_lt 128 (bits_between high low) ≡ false
    → range_faults scope r ≡ []
unfolding range_faults
first_none scope r high low a b is_high is_low so narrow =
    neither (faults scope ConstantOnly r.high) _ a (neither (faults scope ConstantOnly r.low) _ b
    (neither (fault_if (not (is_range (integer scope r.high) (integer scope r.low))) (fault_of 26 r.high)) _
    (none_if (not (is_range (integer scope r.high) (integer scope r.low))) (fault_of 26 r.high)
    (not_from_true (is_range (integer scope r.high) (integer scope r.low)) (sym (ap₂ is_range is_high is_low) ∙ so)))
    (none_if (nat_lt 128 (bits_between (integer scope r.high) (integer scope r.low))) (fault_of 31 r.high)
    (ap (nat_lt 128) (sym (ap₂ bits_between is_high is_low)) ∙ narrow))))

-- a refusal is the answer
pub refused_range : (scope : Scope) (r : RangeBounds) (x : Refusal) → IsFirst (range_faults scope r) x
    → Answers {A = Bounds} (Err x) bit_range_of (range_value scope r)
unfolding range_value
refused_range scope r x h =
    is_first (range_faults scope r) (record { width = bits_between (integer scope r.high) (integer scope r.low); low = lower_bound (integer scope r.low) }) bit_range_of x h

-- what the first fault of a bound gives
pub high_refused : {A : Type 0} (scope : Scope) (r : RangeBounds) (view : A → BitRange) (x : Refusal) → IsFirst (faults scope ConstantOnly r.high) x
    → Answers {A = A} (Err x) view (range_value scope r)
unfolding range_value
high_refused scope r view x h =
    is_first (range_faults scope r) (record { width = bits_between (integer scope r.high) (integer scope r.low); low = lower_bound (integer scope r.low) }) view x
    (first_high scope r x h)

pub low_refused : {A : Type 0} (scope : Scope) (r : RangeBounds) (view : A → BitRange) (x : Refusal) → faults scope ConstantOnly r.high ≡ [] → IsFirst (faults scope ConstantOnly r.low) x
    → Answers {A = A} (Err x) view (range_value scope r)
unfolding range_value
low_refused scope r view x none h =
    is_first (range_faults scope r) (record { width = bits_between (integer scope r.high) (integer scope r.low); low = lower_bound (integer scope r.low) }) view x
    (first_low scope r x none h)

pub ruleset ranges = (high_refused, low_refused)

-- ---- declarations of parameters

pub typed_range : (scope : Scope) (shape : Shape) (range : Range) (x : Bounds) → shape.range ≡ Some range → range_value scope (range_of range) ≡ Ok (bit_range_of x)
    → parameter_type scope (kind_of shape) ≡ Ok (parameter_type_of (record { range = Some x; signed = shape.signed }))
typed_range scope shape range x is value =
    ap (λ (o : Option Range). typed_by scope shape.signed (option_map range_of o)) is
    ∙ ap (λ (r : Result BitRange Fault). r >>= λ b. Ok (record { width = Some b.width; signed = shape.signed })) value

pub typed_refused : {A : Type 0} (scope : Scope) (shape : Shape) (range : Range) (view : A → ParameterType) (r : Refusal) → shape.range ≡ Some range
    → Answers {A = Bounds} (Err r) bit_range_of (range_value scope (range_of range)) → Answers {A = A} (Err r) view (parameter_type scope (kind_of shape))
typed_refused scope shape range view (refusal.Fault e) is bad =
    ap (λ (o : Option Range). typed_by scope shape.signed (option_map range_of o)) is
    ∙ ap (λ (r : Result BitRange Fault). r >>= λ b. Ok (record { width = Some b.width; signed = shape.signed })) bad
typed_refused scope shape range view refusal.NoMemory is bad = tt
