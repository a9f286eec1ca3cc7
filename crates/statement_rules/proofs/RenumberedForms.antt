-- Expressions in a scope whose signals have other numbers: the same signs, lengths and values, and the sized form under these numbers.
use Rattle.std.proofs.Common.{◌≡◌, ℕ, ◌+◌, ◌-◌, ◌*◌, ◌/◌, ◌%◌, ◌^◌, ◌==◌, ◌&&◌, max, not, Bool, true, false, cond, if◌then◌else◌, ℤ, refl, sym, ◌∙◌, ap, ap₂}
use Rattle.std.proofs.Math.Path.{fun_ext}
use Rattle.bits.specs.Values.{resized}
use Rattle.bits.specs.Runs.{selected}
use Rattle.typed_ir.specs.declared.unary_operator.UnaryOperator.TheVariants.{Inverse}
use Rattle.typed_ir.specs.declared.binary_operator.BinaryOperator.{BinaryOperator as Operator}
use Rattle.typed_ir.specs.declared.binary_operator.BinaryOperator.TheVariants.{Arithmetic, Compare, Logical, Shift}
use Rattle.typed_ir.specs.Sized as s
use Rattle.typed_ir.specs.Sized.{Sized, width_of, value_of, unary_width, binary_width, apply_unary, apply_binary, place_of, copies}
use Rattle.typed_ir.specs.Valuations.{Valuation}
use Rattle.verilog_ast.specs.Expressions.{Expression, Literal, Whole, BitSelect, PartSelect, UpwardSelect, DownwardSelect, Unary, Binary, Conditional, Concatenation, Replication, Bracketed, NoPart, Parts}
use Rattle.width_rules.specs.declared.kinds.UnaryKind.{UnaryKind}
use Rattle.width_rules.specs.declared.kinds.UnaryKind.TheVariants.{Kept, Negated, Inverted, OneBit, Complement}
use Rattle.width_rules.specs.Constants.{constant, integer}
use Rattle.width_rules.specs.Opened.{own}
use Rattle.width_rules.specs.Operators.{unary_kind, operator_of, comparison_with}
use Rattle.width_rules.specs.Scopes.{Meaning, Signal, Constant, Turn, Genvar, Unknown, Scope, is_signal}
use Rattle.width_rules.specs.Signs.{is_signed, name_signed, unary_signed, binary_signed}
use Rattle.width_rules.specs.Sizes.{Operand, self_determined, length, push, joined, beside, is_constant, read_as, count_of, bits_between, bits_at, bits_from, extended, name_length, name_at, unary_length, binary_length, unary_at, binary_at, no_signals}
use Rattle.width_rules.proofs.RenamedSizes.{and_so, seen, seen_so, worth}
use Rattle.statement_rules.specs.Renumbering.{meaning_as, renumbered, numbered_as}

-- ---- widths and values

pub width_as : (g : ℕ → ℕ) (x : Sized) → width_of (numbered_as g x) ≡ width_of x
width_as g (s.Constant width value) = refl
width_as g (s.Name signal width) = refl
width_as g (s.Part span) = refl
width_as g (s.Pick signal width below signed index) = refl
width_as g (s.Unary op a) = ap (unary_width op) (width_as g a)
width_as g (s.Binary op a b) = ap (binary_width op) (width_as g a)
width_as g (s.Choice c a b) = width_as g a
width_as g (s.Concat width a b) = refl
width_as g (s.Repeat width count a) = refl
width_as g (s.Resized a width signed) = refl

-- where each signal has the same value under both numbers
value_as : (g : ℕ → ℕ) (env : Valuation) → ((signal : ℕ) → env (g signal) ≡ env signal) → (x : Sized) → value_of (numbered_as g x) env ≡ value_of x env
value_as g env same (s.Constant width value) = refl
value_as g env same (s.Name signal width) = same signal
value_as g env same (s.Part span) = ap (λ (n : ℕ). n / 2 ^ span.low % 2 ^ span.width) (same span.signal)
value_as g env same (s.Pick signal width below signed index) =
    ap (λ (n : ℕ). selected n (place_of below signed (width_of (numbered_as g index)) (value_of (numbered_as g index) env)) width) (same signal)
    ∙ ap₂ (λ (w v : ℕ). selected (env signal) (place_of below signed w v) width) (width_as g index) (value_as g env same index)
value_as g env same (s.Unary op a) = ap₂ (apply_unary op) (width_as g a) (value_as g env same a)
value_as g env same (s.Binary op a b) =
    ap (λ (w : ℕ). apply_binary op w (value_of (numbered_as g a) env) (value_of (numbered_as g b) env)) (width_as g a)
    ∙ ap₂ (apply_binary op (width_of a)) (value_as g env same a) (value_as g env same b)
value_as g env same (s.Choice c a b) =
    ap (λ (n : ℕ). if n == 0 then value_of (numbered_as g b) env else value_of (numbered_as g a) env) (value_as g env same c)
    ∙ ap₂ (λ (p q : ℕ). if value_of c env == 0 then p else q) (value_as g env same b) (value_as g env same a)
value_as g env same (s.Concat width a b) =
    ap (λ (w : ℕ). value_of (numbered_as g a) env * 2 ^ w + value_of (numbered_as g b) env) (width_as g b)
    ∙ ap₂ (λ (p q : ℕ). p * 2 ^ width_of b + q) (value_as g env same a) (value_as g env same b)
value_as g env same (s.Repeat width count a) = ap₂ (copies count) (width_as g a) (value_as g env same a)
value_as g env same (s.Resized a width signed) = ap₂ (λ (w v : ℕ). resized w v width signed) (width_as g a) (value_as g env same a)

nothing_there : (signal : ℕ) → no_signals signal ≡ 0
nothing_there signal = refl

pub known_as : (g : ℕ → ℕ) (x : Sized) → value_of (numbered_as g x) no_signals ≡ value_of x no_signals
known_as g x = value_as g no_signals (λ n. nothing_there (g n) ∙ sym (nothing_there n)) x

-- ---- names

name_sign_as : (g : ℕ → ℕ) (m : Meaning) → name_signed (meaning_as g m) ≡ name_signed m
name_sign_as g (Signal signal width lsb signed writer) = refl
name_sign_as g (Constant width value signed) = refl
name_sign_as g (Turn width value signed) = refl
name_sign_as g Genvar = refl
name_sign_as g Unknown = refl

pub signal_as : (g : ℕ → ℕ) (m : Meaning) → is_signal (meaning_as g m) ≡ is_signal m
signal_as g (Signal signal width lsb signed writer) = refl
signal_as g (Constant width value signed) = refl
signal_as g (Turn width value signed) = refl
signal_as g Genvar = refl
signal_as g Unknown = refl

name_long_as : (g : ℕ → ℕ) (m : Meaning) → name_length (meaning_as g m) ≡ name_length m
name_long_as g (Signal signal width lsb signed writer) = refl
name_long_as g (Constant width value signed) = refl
name_long_as g (Turn width value signed) = refl
name_long_as g Genvar = refl
name_long_as g Unknown = refl

choice_as : (g : ℕ → ℕ) (b : Bool) (x y : Sized) → cond b (numbered_as g x) (numbered_as g y) ≡ numbered_as g (cond b x y)
choice_as g true x y = refl
choice_as g false x y = refl

pub extended_as : (g : ℕ → ℕ) (x : Sized) (l : ℕ) (t : Bool) → extended (numbered_as g x) l t ≡ numbered_as g (extended x l t)
extended_as g x l t =
    ap (λ (w : ℕ). cond (w == l) (numbered_as g x) (s.Resized (numbered_as g x) l t)) (width_as g x)
    ∙ choice_as g (width_of x == l) x (s.Resized x l t)

name_as : (g : ℕ → ℕ) (m : Meaning) (l : ℕ) (t : Bool) → name_at (meaning_as g m) l t ≡ numbered_as g (name_at m l t)
name_as g (Signal signal width lsb signed writer) l t = extended_as g (s.Name signal width) l t
name_as g (Constant width value signed) l t = refl
name_as g (Turn width value signed) l t = refl
name_as g Genvar l t = refl
name_as g Unknown l t = refl

-- ---- selects

bits_as : (g : ℕ → ℕ) (m : Meaning) (width down : ℕ) (known : Bool) (at : ℤ) (signed : Bool) (index : Sized)
    → bits_at (meaning_as g m) width down known at signed (numbered_as g index) ≡ numbered_as g (bits_at m width down known at signed index)
bits_as g (Signal signal total lsb sign writer) width down true at signed index = refl
bits_as g (Signal signal total lsb sign writer) width down false at signed index = refl
bits_as g (Constant own value sign) width down known at signed index = refl
bits_as g (Turn own value sign) width down known at signed index = refl
bits_as g Genvar width down known at signed index = refl
bits_as g Unknown width down known at signed index = refl

range_as : (g : ℕ → ℕ) (m : Meaning) (low : ℤ) (width : ℕ) → bits_from (meaning_as g m) low width ≡ numbered_as g (bits_from m low width)
range_as g (Signal signal total lsb sign writer) low width = refl
range_as g (Constant own value sign) low width = refl
range_as g (Turn own value sign) low width = refl
range_as g Genvar low width = refl
range_as g Unknown low width = refl

run_so : (g : ℕ → ℕ) (m : Meaning) (v w d e : ℕ) (b c : Bool) (i j : ℤ) (p q : Bool) (x y : Sized) (l : ℕ) (t : Bool)
    → v ≡ w → d ≡ e → b ≡ c → i ≡ j → p ≡ q → x ≡ numbered_as g y
    → extended (bits_at (meaning_as g m) v d b i p x) l t ≡ numbered_as g (extended (bits_at m w e c j q y) l t)
run_so g m v w d e b c i j p q x y l t vs ds bs is ps xs =
    ap₂ (λ (n k : ℕ). extended (bits_at (meaning_as g m) n k b i p x) l t) vs ds
    ∙ ap₂ (λ (n : Bool) (k : ℤ). extended (bits_at (meaning_as g m) w e n k p x) l t) bs is
    ∙ ap₂ (λ (n : Bool) (k : Sized). extended (bits_at (meaning_as g m) w e c j n k) l t) ps xs
    ∙ ap (λ (k : Sized). extended k l t) (bits_as g m w e c j q y)
    ∙ extended_as g (bits_at m w e c j q y) l t

range_so : (g : ℕ → ℕ) (m : Meaning) (v w : ℕ) (i j : ℤ) (l : ℕ) (t : Bool) → v ≡ w → i ≡ j
    → extended (bits_from (meaning_as g m) i v) l t ≡ numbered_as g (extended (bits_from m j w) l t)
range_so g m v w i j l t vs is =
    ap₂ (λ (n : ℕ) (k : ℤ). extended (bits_from (meaning_as g m) k n) l t) vs is
    ∙ ap (λ (k : Sized). extended k l t) (range_as g m j w)
    ∙ extended_as g (bits_from m j w) l t

-- ---- operators

abbrev moved : (ℕ → ℕ) → Operand → Operand
moved g x = record { own = x.own; sign = x.sign; at = λ l t. numbered_as g (x.at l t) }

unary_as : (g : ℕ → ℕ) (k : UnaryKind) (x : Operand) (l : ℕ) (t : Bool) → unary_at k (moved g x) l t ≡ numbered_as g (unary_at k x l t)
unary_as g Kept x l t = refl
unary_as g Negated x l t = refl
unary_as g Inverted x l t = refl
unary_as g (OneBit op) x l t = extended_as g (s.Unary op (self_determined x)) l t
unary_as g (Complement op) x l t = extended_as g (s.Unary Inverse (s.Unary op (self_determined x))) l t

binary_as : (g : ℕ → ℕ) (o : Operator) (x y : Operand) (l : ℕ) (t : Bool) → binary_at o (moved g x) (moved g y) l t ≡ numbered_as g (binary_at o x y l t)
binary_as g (Arithmetic op) x y l t = refl
binary_as g (Shift op) x y l t = refl
binary_as g (Compare op) x y l t =
    let both : ℕ = max x.own y.own in
    let sign : Bool = x.sign && y.sign in
    extended_as g (s.Binary (Compare (comparison_with op sign)) (x.at both sign) (y.at both sign)) l t
binary_as g (Logical op) x y l t = extended_as g (s.Binary (Logical op) (self_determined x) (self_determined y)) l t

-- ---- expressions

pub sign_as : (g : ℕ → ℕ) (scope : Scope) (e : Expression) → is_signed (renumbered g scope) e ≡ is_signed scope e
sign_as g scope (Literal at x) = refl
sign_as g scope (Whole n) = name_sign_as g (scope n.name.0)
sign_as g scope (BitSelect n x) = refl
sign_as g scope (PartSelect n x y) = refl
sign_as g scope (UpwardSelect n x y) = refl
sign_as g scope (DownwardSelect n x y) = refl
sign_as g scope (Unary at op x) = ap (unary_signed (unary_kind op)) (sign_as g scope x)
sign_as g scope (Binary op x y) = ap₂ (binary_signed (operator_of op)) (sign_as g scope x) (sign_as g scope y)
sign_as g scope (Conditional c x y) = ap₂ (λ (a b : Bool). a && b) (sign_as g scope x) (sign_as g scope y)
sign_as g scope (Concatenation at xs) = refl
sign_as g scope (Replication at c xs) = refl
sign_as g scope (Bracketed at x) = sign_as g scope x
sign_as g scope NoPart = refl
sign_as g scope (Parts x xs) = refl

no_signal : (g : ℕ → ℕ) (m : Meaning) → not (is_signal (meaning_as g m)) ≡ not (is_signal m)
no_signal g m = ap not (signal_as g m)

pub fixed_as : (g : ℕ → ℕ) (scope : Scope) (e : Expression) → is_constant (renumbered g scope) e ≡ is_constant scope e
fixed_as g scope (Literal at x) = refl
fixed_as g scope (Whole n) = no_signal g (scope n.name.0)
fixed_as g scope (BitSelect n x) = and_so _ _ _ _ (no_signal g (scope n.name.0)) (fixed_as g scope x)
fixed_as g scope (PartSelect n x y) = and_so _ _ _ _ (no_signal g (scope n.name.0)) (and_so _ _ _ _ (fixed_as g scope x) (fixed_as g scope y))
fixed_as g scope (UpwardSelect n x y) = and_so _ _ _ _ (no_signal g (scope n.name.0)) (and_so _ _ _ _ (fixed_as g scope x) (fixed_as g scope y))
fixed_as g scope (DownwardSelect n x y) = and_so _ _ _ _ (no_signal g (scope n.name.0)) (and_so _ _ _ _ (fixed_as g scope x) (fixed_as g scope y))
fixed_as g scope (Unary at op x) = fixed_as g scope x
fixed_as g scope (Binary op x y) = and_so _ _ _ _ (fixed_as g scope x) (fixed_as g scope y)
fixed_as g scope (Conditional c x y) = and_so _ _ _ _ (fixed_as g scope c) (and_so _ _ _ _ (fixed_as g scope x) (fixed_as g scope y))
fixed_as g scope (Concatenation at xs) = fixed_as g scope xs
fixed_as g scope (Replication at c xs) = and_so _ _ _ _ (fixed_as g scope c) (fixed_as g scope xs)
fixed_as g scope (Bracketed at x) = fixed_as g scope x
fixed_as g scope NoPart = refl
fixed_as g scope (Parts x xs) = and_so _ _ _ _ (fixed_as g scope x) (fixed_as g scope xs)

-- its length, and its form at each length and sign
pub record IsSame (g : ℕ → ℕ) (scope : Scope) (e : Expression) : Type 0 where
  pub long : length (renumbered g scope) e ≡ length scope e
  pub form : (l : ℕ) (t : Bool) → push (renumbered g scope) e l t ≡ numbered_as g (push scope e l t)

operand_as : (g : ℕ → ℕ) (scope : Scope) (e : Expression) → IsSame g scope e → seen (renumbered g scope) e ≡ moved g (seen scope e)
operand_as g scope e same = seen_so _ _ _ _ _ _ (sign_as g scope e) same.long (fun_ext (λ l. fun_ext (λ t. same.form l t)))

worth_as : (g : ℕ → ℕ) (x : Operand) → worth (moved g x) ≡ worth x
worth_as g x = ap (read_as x.sign x.own) (known_as g (x.at x.own x.sign))

integer_so : (g : ℕ → ℕ) (scope : Scope) (e : Expression) → IsSame g scope e → integer (renumbered g scope) e ≡ integer scope e
integer_so g scope e same = ap worth (operand_as g scope e same) ∙ worth_as g (seen scope e)

own_so : (g : ℕ → ℕ) (scope : Scope) (e : Expression) → IsSame g scope e → own (renumbered g scope) e ≡ numbered_as g (own scope e)
own_so g scope e same = ap self_determined (operand_as g scope e same)

mutual
  unfolding length push joined beside

  pub same_as : (g : ℕ → ℕ) (scope : Scope) (e : Expression) → IsSame g scope e
  same_as g scope (Literal at x) = record { long = refl; form = λ l t. refl }
  same_as g scope (Whole n) = record { long = name_long_as g (scope n.name.0); form = λ l t. name_as g (scope n.name.0) l t }
  same_as g scope (BitSelect n x) =
      let p = same_as g scope x in
      record {
        long = refl;
        form = λ l t. run_so g (scope n.name.0) 1 1 0 0 _ _ _ _ _ _ _ _ l t refl refl (fixed_as g scope x) (integer_so g scope x p) (sign_as g scope x) (own_so g scope x p);
      }
  same_as g scope (PartSelect n x y) =
      let p = integer_so g scope x (same_as g scope x) in
      let q = integer_so g scope y (same_as g scope y) in
      record { long = ap₂ bits_between p q; form = λ l t. range_so g (scope n.name.0) _ _ _ _ l t (ap₂ bits_between p q) q }
  same_as g scope (UpwardSelect n x y) =
      let p = same_as g scope x in
      let q = ap count_of (integer_so g scope y (same_as g scope y)) in
      record {
        long = q;
        form = λ l t. run_so g (scope n.name.0) _ _ 0 0 _ _ _ _ _ _ _ _ l t q refl (fixed_as g scope x) (integer_so g scope x p) (sign_as g scope x) (own_so g scope x p);
      }
  same_as g scope (DownwardSelect n x y) =
      let p = same_as g scope x in
      let q = ap count_of (integer_so g scope y (same_as g scope y)) in
      record {
        long = q;
        form = λ l t. run_so g (scope n.name.0) _ _ _ _ _ _ _ _ _ _ _ _ l t q (ap (λ (w : ℕ). w - 1) q) (fixed_as g scope x) (integer_so g scope x p) (sign_as g scope x) (own_so g scope x p);
      }
  same_as g scope (Unary at op x) =
      let p = same_as g scope x in
      record {
        long = ap (unary_length (unary_kind op)) p.long;
        form = λ l t. ap (λ (a : Operand). unary_at (unary_kind op) a l t) (operand_as g scope x p) ∙ unary_as g (unary_kind op) (seen scope x) l t;
      }
  same_as g scope (Binary op x y) =
      let p = same_as g scope x in
      let q = same_as g scope y in
      record {
        long = ap₂ (binary_length (operator_of op)) p.long q.long;
        form = λ l t. ap₂ (λ (a b : Operand). binary_at (operator_of op) a b l t) (operand_as g scope x p) (operand_as g scope y q)
            ∙ binary_as g (operator_of op) (seen scope x) (seen scope y) l t;
      }
  same_as g scope (Conditional c x y) =
      let p = same_as g scope x in
      let q = same_as g scope y in
      record {
        long = ap₂ max p.long q.long;
        form = λ l t. ap (λ (z : Sized). s.Choice z (push (renumbered g scope) x l t) (push (renumbered g scope) y l t)) (own_so g scope c (same_as g scope c))
            ∙ ap₂ (s.Choice (numbered_as g (own scope c))) (p.form l t) (q.form l t);
      }
  same_as g scope (Concatenation at xs) = record {
    long = (same_as g scope xs).long;
    form = λ l t. ap (λ (z : Sized). extended z l t) (joined_as g scope xs) ∙ extended_as g (joined scope xs) l t;
  }
  same_as g scope (Replication at c xs) =
      let many = ap count_of (integer_so g scope c (same_as g scope c)) in
      let wide = (same_as g scope xs).long in
      record {
        long = ap₂ (λ (n w : ℕ). n * w) many wide;
        form = λ l t. ap₂ (λ (n w : ℕ). extended (s.Repeat (n * w) n (joined (renumbered g scope) xs)) l t) many wide
            ∙ ap (λ (z : Sized). extended (s.Repeat (count_of (integer scope c) * length scope xs) (count_of (integer scope c)) z) l t) (joined_as g scope xs)
            ∙ extended_as g (s.Repeat (count_of (integer scope c) * length scope xs) (count_of (integer scope c)) (joined scope xs)) l t;
      }
  same_as g scope (Bracketed at x) = let p = same_as g scope x in record { long = p.long; form = p.form }
  same_as g scope NoPart = record { long = refl; form = λ l t. extended_as g (s.Constant 0 0) l t }
  same_as g scope (Parts x xs) =
      let p = same_as g scope x in
      record {
        long = ap₂ (λ (m n : ℕ). m + n) p.long (same_as g scope xs).long;
        form = λ l t. ap (λ (a : Operand). extended (beside (renumbered g scope) a.own (self_determined a) xs) l t) (operand_as g scope x p)
            ∙ ap (λ (z : Sized). extended z l t) (beside_as g scope (length scope x) (own scope x) xs)
            ∙ extended_as g (beside scope (length scope x) (own scope x) xs) l t;
      }

  joined_as : (g : ℕ → ℕ) (scope : Scope) (e : Expression) → joined (renumbered g scope) e ≡ numbered_as g (joined scope e)
  joined_as g scope (Parts x xs) =
      ap (λ (a : Operand). beside (renumbered g scope) a.own (self_determined a) xs) (operand_as g scope x (same_as g scope x))
      ∙ beside_as g scope (length scope x) (own scope x) xs
  joined_as g scope other = refl

  beside_as : (g : ℕ → ℕ) (scope : Scope) (width : ℕ) (before : Sized) (e : Expression) → beside (renumbered g scope) width (numbered_as g before) e ≡ numbered_as g (beside scope width before e)
  beside_as g scope width before (Parts x xs) =
      ap (λ (a : Operand). beside (renumbered g scope) (width + a.own) (s.Concat (width + a.own) (numbered_as g before) (self_determined a)) xs) (operand_as g scope x (same_as g scope x))
      ∙ beside_as g scope (width + length scope x) (s.Concat (width + length scope x) before (own scope x)) xs
  beside_as g scope width before other = refl

pub long_as : (g : ℕ → ℕ) (scope : Scope) (e : Expression) → length (renumbered g scope) e ≡ length scope e
long_as g scope e = (same_as g scope e).long

pub form_as : (g : ℕ → ℕ) (scope : Scope) (e : Expression) (l : ℕ) (t : Bool) → push (renumbered g scope) e l t ≡ numbered_as g (push scope e l t)
form_as g scope e l t = (same_as g scope e).form l t

pub own_as : (g : ℕ → ℕ) (scope : Scope) (e : Expression) → own (renumbered g scope) e ≡ numbered_as g (own scope e)
own_as g scope e = own_so g scope e (same_as g scope e)

pub integer_as : (g : ℕ → ℕ) (scope : Scope) (e : Expression) → integer (renumbered g scope) e ≡ integer scope e
integer_as g scope e = integer_so g scope e (same_as g scope e)

pub constant_as : (g : ℕ → ℕ) (scope : Scope) (e : Expression) → constant (renumbered g scope) e ≡ constant scope e
constant_as g scope e = ap (λ (x : Sized). value_of x no_signals) (own_as g scope e) ∙ known_as g (own scope e)
