-- Constant expressions read no signal.
use Rattle.std.proofs.Common.{◌≡◌, ℕ, Bool, true, ◌&&◌, ◌==◌, ◌+◌, ◌-◌, ◌*◌, max, not, List, [], ◌∷◌, ◌++◌, refl, sym, ◌∙◌, ap, true≢false, IsTrue, ℤ, nat_lt}
use Rattle.std.proofs.lemmas.Bool.{and_from, cond-true, cond-false}
use Rattle.typed_ir.proofs.Cases.{by_cases, and_left, and_right}
use Rattle.ls_text.specs.declared.fault.Fault.{Fault}
use Rattle.ls_text.proofs.Lists.{some_is_none}
use Rattle.typed_ir.specs.Sized as s
use Rattle.typed_ir.specs.Sized.{Sized, fits_signals, width_of}
use Rattle.typed_ir.specs.declared.binary_operator.BinaryOperator.{BinaryOperator as Operator}
use Rattle.typed_ir.specs.declared.binary_operator.BinaryOperator.TheVariants.{Arithmetic, Compare, Logical, Shift}
use Rattle.verilog_ast.specs.declared.identifier.Identifier.{Identifier}
use Rattle.verilog_ast.specs.Expressions as e
use Rattle.verilog_ast.specs.Expressions.{Expression}
use Rattle.width_rules.specs.declared.kinds.UnaryKind.{UnaryKind}
use Rattle.width_rules.specs.declared.kinds.UnaryKind.TheVariants.{Kept, Negated, Inverted, OneBit, Complement}
use Rattle.width_rules.specs.Operators.{unary_kind, operator_of, comparison_with}
use Rattle.width_rules.specs.declared.due.Due.TheVariants.{ConstantOnly}
use Rattle.width_rules.specs.Scopes.{Meaning, Signal, Constant, Turn, Genvar, Unknown, Scope, is_signal}
use Rattle.width_rules.specs.Signs.{is_signed}
use Rattle.width_rules.specs.Sizes.{length, push, joined, beside, Operand, unary_at, binary_at, extended, name_at, bits_at, bits_from, bits_between, count_of, is_constant}
use Rattle.width_rules.specs.Constants.{integer}
use Rattle.width_rules.specs.Opened.{own}
use Rattle.typed_ir.specs.declared.unary_operator.UnaryOperator.TheVariants as operator
use Rattle.width_rules.specs.Faults.{faults, name_faults, run_faults, part_faults, width_faults, total_faults, fault_if, fault_at, fault_of}

no_signal_fits : (x : Sized) (l : ℕ) (t : Bool) → fits_signals x [] ≡ true → fits_signals (extended x l t) [] ≡ true
no_signal_fits x l t h = by_cases (width_of x == l)
    (λ y. ap (λ (z : Sized). fits_signals z []) (cond-true (width_of x == l) x (s.Resized x l t) y) ∙ h)
    (λ n. ap (λ (z : Sized). fits_signals z []) (cond-false (width_of x == l) x (s.Resized x l t) n) ∙ h)

name_reads : (m : Meaning) (l : ℕ) (t : Bool) → not (is_signal m) ≡ true → fits_signals (name_at m l t) [] ≡ true
name_reads (Signal signal width lsb signed writer) l t h = absurd (true≢false (sym h))
name_reads (Constant width value signed) l t h = refl
name_reads (Turn width value signed) l t h = refl
name_reads Genvar l t h = refl
name_reads Unknown l t h = refl

bits_read : (m : Meaning) (width down : ℕ) (b : Bool) (at : ℤ) (signed : Bool) (x : Sized) → not (is_signal m) ≡ true
    → fits_signals (bits_at m width down b at signed x) [] ≡ true
bits_read (Signal signal total lsb sign writer) width down b at signed x h = absurd (true≢false (sym h))
bits_read (Constant own value sign) width down b at signed x h = refl
bits_read (Turn own value sign) width down b at signed x h = refl
bits_read Genvar width down b at signed x h = refl
bits_read Unknown width down b at signed x h = refl

from_read : (m : Meaning) (low : ℤ) (width : ℕ) → not (is_signal m) ≡ true → fits_signals (bits_from m low width) [] ≡ true
from_read (Signal signal total lsb sign writer) low width h = absurd (true≢false (sym h))
from_read (Constant own value sign) low width h = refl
from_read (Turn own value sign) low width h = refl
from_read Genvar low width h = refl
from_read Unknown low width h = refl

both_fit : (x y : Sized) → fits_signals x [] ≡ true → fits_signals y [] ≡ true → (fits_signals x [] && fits_signals y []) ≡ true
both_fit x y h k = and_from (fits_signals x []) (fits_signals y []) h k

unary_reads : (k : UnaryKind) (x : Operand) → ((l : ℕ) (t : Bool) → fits_signals (x.at l t) [] ≡ true) → (l : ℕ) (t : Bool) → fits_signals (unary_at k x l t) [] ≡ true
unary_reads Kept x h l t = h l t
unary_reads Negated x h l t = h l t
unary_reads Inverted x h l t = h l t
unary_reads (OneBit op) x h l t = no_signal_fits (s.Unary op (x.at x.own x.sign)) l t (h x.own x.sign)
unary_reads (Complement op) x h l t = no_signal_fits (s.Unary operator.Inverse (s.Unary op (x.at x.own x.sign))) l t (h x.own x.sign)

binary_reads : (o : Operator) (x y : Operand) → ((l : ℕ) (t : Bool) → fits_signals (x.at l t) [] ≡ true) → ((l : ℕ) (t : Bool) → fits_signals (y.at l t) [] ≡ true)
    → (l : ℕ) (t : Bool) → fits_signals (binary_at o x y l t) [] ≡ true
binary_reads (Arithmetic op) x y h k l t = both_fit (x.at l t) (y.at l t) (h l t) (k l t)
binary_reads (Shift op) x y h k l t = both_fit (x.at l t) (y.at y.own y.sign) (h l t) (k y.own y.sign)
binary_reads (Compare op) x y h k l t =
    let both : ℕ = max x.own y.own in
    let sign : Bool = x.sign && y.sign in
    no_signal_fits (s.Binary (Compare (comparison_with op sign)) (x.at both sign) (y.at both sign)) l t
    (both_fit (x.at both sign) (y.at both sign) (h both sign) (k both sign))
binary_reads (Logical op) x y h k l t =
    no_signal_fits (s.Binary (Logical op) (x.at x.own x.sign) (y.at y.own y.sign)) l t
    (both_fit (x.at x.own x.sign) (y.at y.own y.sign) (h x.own x.sign) (k y.own y.sign))

bits_extended : (m : Meaning) (width down : ℕ) (b : Bool) (at : ℤ) (signed : Bool) (x : Sized) (l : ℕ) (t : Bool) → not (is_signal m) ≡ true
    → fits_signals (extended (bits_at m width down b at signed x) l t) [] ≡ true
bits_extended m width down b at signed x l t h = no_signal_fits (bits_at m width down b at signed x) l t (bits_read m width down b at signed x h)

mutual
  unfolding push

  pub no_reads : (scope : Scope) (x : Expression) → is_constant scope x ≡ true → (l : ℕ) (t : Bool) → fits_signals (push scope x l t) [] ≡ true
  no_reads scope (e.Literal at x) h l t = refl
  no_reads scope (e.Whole n) h l t = name_reads (scope n.name.0) l t h
  no_reads scope (e.BitSelect n x) h l t = bits_extended (scope n.name.0) 1 0 (is_constant scope x) (integer scope x) (is_signed scope x) (own scope x) l t (and_left (not (is_signal (scope n.name.0))) (is_constant scope x) h)
  no_reads scope (e.PartSelect n x y) h l t =
      no_signal_fits (bits_from (scope n.name.0) (integer scope y) (bits_between (integer scope x) (integer scope y))) l t
      (from_read (scope n.name.0) (integer scope y) (bits_between (integer scope x) (integer scope y)) (and_left (not (is_signal (scope n.name.0))) (is_constant scope x && is_constant scope y) h))
  no_reads scope (e.UpwardSelect n x y) h l t =
      bits_extended (scope n.name.0) (count_of (integer scope y)) 0 (is_constant scope x) (integer scope x) (is_signed scope x) (own scope x) l t
      (and_left (not (is_signal (scope n.name.0))) (is_constant scope x && is_constant scope y) h)
  no_reads scope (e.DownwardSelect n x y) h l t =
      bits_extended (scope n.name.0) (count_of (integer scope y)) (count_of (integer scope y) - 1) (is_constant scope x) (integer scope x) (is_signed scope x) (own scope x) l t
      (and_left (not (is_signal (scope n.name.0))) (is_constant scope x && is_constant scope y) h)
  no_reads scope (e.Unary at op x) h l t = unary_reads (unary_kind op) (record { own = length scope x; sign = is_signed scope x; at = push scope x }) (no_reads scope x h) l t
  no_reads scope (e.Binary op x y) h l t =
      binary_reads (operator_of op)
      (record { own = length scope x; sign = is_signed scope x; at = push scope x })
      (record { own = length scope y; sign = is_signed scope y; at = push scope y })
      (no_reads scope x (and_left (is_constant scope x) (is_constant scope y) h)) (no_reads scope y (and_right (is_constant scope x) (is_constant scope y) h)) l t
  no_reads scope (e.Conditional c x y) h l t =
      let c_is = and_left (is_constant scope c) (is_constant scope x && is_constant scope y) h in
      let both = and_right (is_constant scope c) (is_constant scope x && is_constant scope y) h in
      and_from (fits_signals (own scope c) []) (fits_signals (push scope x l t) [] && fits_signals (push scope y l t) [])
      (no_reads scope c c_is (length scope c) (is_signed scope c))
      (both_fit (push scope x l t) (push scope y l t) (no_reads scope x (and_left (is_constant scope x) (is_constant scope y) both) l t) (no_reads scope y (and_right (is_constant scope x) (is_constant scope y) both) l t))
  no_reads scope (e.Concatenation at xs) h l t = no_signal_fits (joined scope xs) l t (joined_reads scope xs h)
  no_reads scope (e.Replication at c xs) h l t =
      no_signal_fits (s.Repeat (count_of (integer scope c) * length scope xs) (count_of (integer scope c)) (joined scope xs)) l t (joined_reads scope xs (and_right (is_constant scope c) (is_constant scope xs) h))
  no_reads scope (e.Bracketed at x) h l t = no_reads scope x h l t
  no_reads scope e.NoPart h l t = no_signal_fits (s.Constant 0 0) l t refl
  no_reads scope (e.Parts x xs) h l t =
      no_signal_fits (beside scope (length scope x) (own scope x) xs) l t (beside_reads scope (length scope x) (own scope x) xs
      (no_reads scope x (and_left (is_constant scope x) (is_constant scope xs) h) (length scope x) (is_signed scope x))
      (and_right (is_constant scope x) (is_constant scope xs) h))

  joined_reads : (scope : Scope) (x : Expression) → is_constant scope x ≡ true → fits_signals (joined scope x) [] ≡ true
  joined_reads scope (e.Parts x xs) h =
      beside_reads scope (length scope x) (own scope x) xs
      (no_reads scope x (and_left (is_constant scope x) (is_constant scope xs) h) (length scope x) (is_signed scope x))
      (and_right (is_constant scope x) (is_constant scope xs) h)
  joined_reads scope other h = refl

  beside_reads : (scope : Scope) (width : ℕ) (before : Sized) (x : Expression) → fits_signals before [] ≡ true → is_constant scope x ≡ true → fits_signals (beside scope width before x) [] ≡ true
  beside_reads scope width before (e.Parts x xs) b h =
      beside_reads scope (width + length scope x) (s.Concat (width + length scope x) before (own scope x)) xs
      (both_fit before (own scope x) b (no_reads scope x (and_left (is_constant scope x) (is_constant scope xs) h) (length scope x) (is_signed scope x)))
      (and_right (is_constant scope x) (is_constant scope xs) h)
  beside_reads scope width before other b h = b

-- an expression at its own length and sign
pub own_reads : (scope : Scope) (x : Expression) (z : Sized) → is_constant scope x ≡ true → z ≡ push scope x (length scope x) (is_signed scope x) → IsTrue (fits_signals z [])
own_reads scope x z h is = (ap (λ (p : Sized). fits_signals p []) is ∙ no_reads scope x h (length scope x) (is_signed scope x))

-- ---- where a constant is due

pub left_none : (xs ys : List Fault) → xs ++ ys ≡ [] → xs ≡ []
left_none [] ys h = refl
left_none (x ∷ xs) ys h = some_is_none x (xs ++ ys) h

pub right_none : (xs ys : List Fault) → xs ++ ys ≡ [] → ys ≡ []
right_none [] ys h = h
right_none (x ∷ xs) ys h = some_is_none x (xs ++ ys) h

-- no select has no fault where a constant is due: a net or variable has 25, all else 32
no_bits : (m : Meaning) (b : Bool) (at : ℤ) (width down : ℕ) (n : Identifier) (ys : List Fault)
    → name_faults m ConstantOnly n ++ (ys ++ run_faults m b at width down n) ≡ [] → ⊥
no_bits (Signal signal total lsb signed writer) b at width down n ys h = some_is_none _ _ h
no_bits (Constant own value signed) b at width down n ys h = some_is_none _ _ (right_none ys _ h)
no_bits (Turn own value signed) b at width down n ys h = some_is_none _ _ (right_none ys _ h)
no_bits Genvar b at width down n ys h = some_is_none _ _ h
no_bits Unknown b at width down n ys h = some_is_none _ _ h

no_range : (m : Meaning) (low : ℤ) (width : ℕ) (n : Identifier) (ys zs : List Fault)
    → name_faults m ConstantOnly n ++ (ys ++ (zs ++ part_faults m low width n)) ≡ [] → ⊥
no_range (Signal signal total lsb signed writer) low width n ys zs h = some_is_none _ _ h
no_range (Constant own value signed) low width n ys zs h =
    some_is_none _ _ (right_none (fault_if (width == 0) (fault_at 32 n)) _ (right_none (fault_if (nat_lt 128 width) (fault_at 31 n)) _ (right_none zs _ (right_none ys _ h))))
no_range (Turn own value signed) low width n ys zs h =
    some_is_none _ _ (right_none (fault_if (width == 0) (fault_at 32 n)) _ (right_none (fault_if (nat_lt 128 width) (fault_at 31 n)) _ (right_none zs _ (right_none ys _ h))))
no_range Genvar low width n ys zs h = some_is_none _ _ h
no_range Unknown low width n ys zs h = some_is_none _ _ h

no_run : (m : Meaning) (b : Bool) (at : ℤ) (width down : ℕ) (n : Identifier) (xs ys zs : List Fault)
    → name_faults m ConstantOnly n ++ (xs ++ (ys ++ (zs ++ run_faults m b at width down n))) ≡ [] → ⊥
no_run (Signal signal total lsb signed writer) b at width down n xs ys zs h = some_is_none _ _ h
no_run (Constant own value signed) b at width down n xs ys zs h = some_is_none _ _ (right_none zs _ (right_none ys _ (right_none xs _ h)))
no_run (Turn own value signed) b at width down n xs ys zs h = some_is_none _ _ (right_none zs _ (right_none ys _ (right_none xs _ h)))
no_run Genvar b at width down n xs ys zs h = some_is_none _ _ h
no_run Unknown b at width down n xs ys zs h = some_is_none _ _ h

name_due : (m : Meaning) (n : Identifier) → name_faults m ConstantOnly n ≡ [] → not (is_signal m) ≡ true
name_due (Signal signal width lsb signed writer) n h = some_is_none _ _ h
name_due (Constant width value signed) n h = refl
name_due (Turn width value signed) n h = refl
name_due Genvar n h = refl
name_due Unknown n h = refl

pub due_constant : (scope : Scope) (x : Expression) → faults scope ConstantOnly x ≡ [] → is_constant scope x ≡ true
due_constant scope (e.Literal at x) h = refl
due_constant scope (e.Whole n) h = name_due (scope n.name.0) n h
due_constant scope (e.BitSelect n x) h = absurd (no_bits (scope n.name.0) (is_constant scope x) (integer scope x) 1 0 n (faults scope ConstantOnly x) h)
due_constant scope (e.PartSelect n x y) h = absurd (no_range (scope n.name.0) (integer scope y) (bits_between (integer scope x) (integer scope y)) n (faults scope ConstantOnly x) (faults scope ConstantOnly y) h)
due_constant scope (e.UpwardSelect n x y) h = absurd (no_run (scope n.name.0) (is_constant scope x) (integer scope x) (count_of (integer scope y)) 0 n (faults scope ConstantOnly x) (faults scope ConstantOnly y) (width_faults n y (count_of (integer scope y))) h)
due_constant scope (e.DownwardSelect n x y) h = absurd (no_run (scope n.name.0) (is_constant scope x) (integer scope x) (count_of (integer scope y)) (count_of (integer scope y) - 1) n (faults scope ConstantOnly x) (faults scope ConstantOnly y) (width_faults n y (count_of (integer scope y))) h)
due_constant scope (e.Unary at op x) h = due_constant scope x h
due_constant scope (e.Binary op x y) h =
    and_from (is_constant scope x) (is_constant scope y) (due_constant scope x (left_none (faults scope ConstantOnly x) (faults scope ConstantOnly y) h)) (due_constant scope y (right_none (faults scope ConstantOnly x) (faults scope ConstantOnly y) h))
due_constant scope (e.Conditional c x y) h =
    let both : faults scope ConstantOnly x ++ faults scope ConstantOnly y ≡ [] = right_none (faults scope ConstantOnly c) (faults scope ConstantOnly x ++ faults scope ConstantOnly y) h in
    and_from (is_constant scope c) (is_constant scope x && is_constant scope y) (due_constant scope c (left_none (faults scope ConstantOnly c) (faults scope ConstantOnly x ++ faults scope ConstantOnly y) h))
    (and_from (is_constant scope x) (is_constant scope y) (due_constant scope x (left_none (faults scope ConstantOnly x) (faults scope ConstantOnly y) both)) (due_constant scope y (right_none (faults scope ConstantOnly x) (faults scope ConstantOnly y) both)))
due_constant scope (e.Concatenation at xs) h = due_constant scope xs (left_none (faults scope ConstantOnly xs) (total_faults at (length scope xs)) h)
due_constant scope (e.Replication at c xs) h =
    let total : List Fault = total_faults at (count_of (integer scope c) * length scope xs) in
    let none : List Fault = fault_if (count_of (integer scope c) == 0) (fault_of 26 c) in
    and_from (is_constant scope c) (is_constant scope xs)
    (due_constant scope c (left_none (faults scope ConstantOnly c) (none ++ (faults scope ConstantOnly xs ++ total)) h))
    (due_constant scope xs (left_none (faults scope ConstantOnly xs) total (right_none none (faults scope ConstantOnly xs ++ total) (right_none (faults scope ConstantOnly c) (none ++ (faults scope ConstantOnly xs ++ total)) h))))
due_constant scope (e.Bracketed at x) h = due_constant scope x h
due_constant scope e.NoPart h = refl
due_constant scope (e.Parts x xs) h =
    and_from (is_constant scope x) (is_constant scope xs) (due_constant scope x (left_none (faults scope ConstantOnly x) (faults scope ConstantOnly xs) h)) (due_constant scope xs (right_none (faults scope ConstantOnly x) (faults scope ConstantOnly xs) h))

-- a constant reads no signal
pub number_reads : (scope : Scope) (x : Expression) (z : Sized) → faults scope ConstantOnly x ≡ [] → z ≡ push scope x (length scope x) (is_signed scope x) → IsTrue (fits_signals z [])
number_reads scope x z h is = own_reads scope x z (due_constant scope x h) is
