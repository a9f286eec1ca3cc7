-- Expressions and targets in a scope whose signals have other numbers: the same faults.
use Rattle.std.proofs.Common.{◌≡◌, ℕ, ◌+◌, ◌-◌, ◌*◌, ◌==◌, not, Bool, List, ◌++◌, ℤ, refl, ◌∙◌, ap, ap₂}
use Rattle.ls_text.specs.declared.fault.Fault.{Fault}
use Rattle.ls_text.proofs.Lists.{joined_so}
use Rattle.verilog_ast.specs.declared.identifier.Identifier.{Identifier}
use Rattle.verilog_ast.specs.Expressions.{Expression, Literal, Whole, BitSelect, PartSelect, UpwardSelect, DownwardSelect, Unary, Binary, Conditional, Concatenation, Replication, Bracketed, NoPart, Parts, Target, Reference, Joined, NoTarget, Targets}
use Rattle.width_rules.specs.declared.due.Due.{Due}
use Rattle.width_rules.specs.declared.due.Due.TheVariants.{AnyValue, ConstantOnly}
use Rattle.width_rules.specs.declared.writer.Writer.{Writer}
use Rattle.width_rules.specs.Constants.{integer}
use Rattle.width_rules.specs.Faults.{faults, fault_at, fault_if, fault_of, name_faults, run_faults, part_faults, width_faults, total_faults}
use Rattle.width_rules.specs.References.{target_name_faults, reference_faults}
use Rattle.width_rules.specs.Scopes.{Meaning, Signal, Constant, Turn, Genvar, Unknown, Scope}
use Rattle.width_rules.specs.Sizes.{is_constant, count_of, bits_between}
use Rattle.statement_rules.specs.Targets.{target_length, target_faults, may_write, kind_fault, reference_kind, kind_faults}
use Rattle.statement_rules.specs.Renumbering.{meaning_as, renumbered}
use Rattle.statement_rules.proofs.RenumberedForms.{long_as, fixed_as, integer_as}

-- ---- names and selects

name_faults_as : (g : ℕ → ℕ) (m : Meaning) (due : Due) (n : Identifier) → name_faults (meaning_as g m) due n ≡ name_faults m due n
name_faults_as g (Signal signal width lsb signed writer) AnyValue n = refl
name_faults_as g (Signal signal width lsb signed writer) ConstantOnly n = refl
name_faults_as g (Constant width value signed) due n = refl
name_faults_as g (Turn width value signed) due n = refl
name_faults_as g Genvar due n = refl
name_faults_as g Unknown due n = refl

written_as : (g : ℕ → ℕ) (m : Meaning) (n : Identifier) → target_name_faults (meaning_as g m) n ≡ target_name_faults m n
written_as g (Signal signal width lsb signed writer) n = refl
written_as g (Constant width value signed) n = refl
written_as g (Turn width value signed) n = refl
written_as g Genvar n = refl
written_as g Unknown n = refl

run_faults_as : (g : ℕ → ℕ) (m : Meaning) (known : Bool) (at : ℤ) (width down : ℕ) (n : Identifier)
    → run_faults (meaning_as g m) known at width down n ≡ run_faults m known at width down n
run_faults_as g (Signal signal total lsb signed writer) known at width down n = refl
run_faults_as g (Constant own value signed) known at width down n = refl
run_faults_as g (Turn own value signed) known at width down n = refl
run_faults_as g Genvar known at width down n = refl
run_faults_as g Unknown known at width down n = refl

part_faults_as : (g : ℕ → ℕ) (m : Meaning) (low : ℤ) (width : ℕ) (n : Identifier) → part_faults (meaning_as g m) low width n ≡ part_faults m low width n
part_faults_as g (Signal signal total lsb signed writer) low width n = refl
part_faults_as g (Constant own value signed) low width n = refl
part_faults_as g (Turn own value signed) low width n = refl
part_faults_as g Genvar low width n = refl
part_faults_as g Unknown low width n = refl

run_faults_so : (g : ℕ → ℕ) (m : Meaning) (b c : Bool) (i j : ℤ) (v w d e : ℕ) (n : Identifier) → b ≡ c → i ≡ j → v ≡ w → d ≡ e
    → run_faults (meaning_as g m) b i v d n ≡ run_faults m c j w e n
run_faults_so g m b c i j v w d e n bs is vs ds =
    ap₂ (λ (x : Bool) (y : ℤ). run_faults (meaning_as g m) x y v d n) bs is
    ∙ ap₂ (λ (x y : ℕ). run_faults (meaning_as g m) c j x y n) vs ds
    ∙ run_faults_as g m c j w e n

part_faults_so : (g : ℕ → ℕ) (m : Meaning) (i j : ℤ) (v w : ℕ) (n : Identifier) → i ≡ j → v ≡ w → part_faults (meaning_as g m) i v n ≡ part_faults m j w n
part_faults_so g m i j v w n is vs = ap₂ (λ (x : ℤ) (y : ℕ). part_faults (meaning_as g m) x y n) is vs ∙ part_faults_as g m j w n

-- of one bit, of a range and of a run, behind what is said of the name
bit_so : (g : ℕ → ℕ) (scope : Scope) (n : Identifier) (x : Expression) (names others qs xs : List Fault) → names ≡ others → qs ≡ xs
    → names ++ (qs ++ run_faults (meaning_as g (scope n.name.0)) (is_constant (renumbered g scope) x) (integer (renumbered g scope) x) 1 0 n)
    ≡ others ++ (xs ++ run_faults (scope n.name.0) (is_constant scope x) (integer scope x) 1 0 n)
bit_so g scope n x names others qs xs first second =
    joined_so first (joined_so second
    (run_faults_so g (scope n.name.0) _ _ _ _ 1 1 0 0 n (fixed_as g scope x) (integer_as g scope x) refl refl))

range_so : (g : ℕ → ℕ) (scope : Scope) (n : Identifier) (x y : Expression) (names others ps qs xs ys : List Fault) → names ≡ others → ps ≡ xs → qs ≡ ys
    → names ++ (ps ++ (qs ++ part_faults (meaning_as g (scope n.name.0)) (integer (renumbered g scope) y) (bits_between (integer (renumbered g scope) x) (integer (renumbered g scope) y)) n))
    ≡ others ++ (xs ++ (ys ++ part_faults (scope n.name.0) (integer scope y) (bits_between (integer scope x) (integer scope y)) n))
range_so g scope n x y names others ps qs xs ys first second third =
    joined_so first (joined_so second (joined_so third
    (part_faults_so g (scope n.name.0) _ _ _ _ n (integer_as g scope y) (ap₂ bits_between (integer_as g scope x) (integer_as g scope y)))))

run_so : (g : ℕ → ℕ) (scope : Scope) (n : Identifier) (x y : Expression) (d e : ℕ) (names others ps qs xs ys : List Fault) → names ≡ others → ps ≡ xs → qs ≡ ys → d ≡ e
    → names ++ (ps ++ (qs ++ (width_faults n y (count_of (integer (renumbered g scope) y))
    ++ run_faults (meaning_as g (scope n.name.0)) (is_constant (renumbered g scope) x) (integer (renumbered g scope) x) (count_of (integer (renumbered g scope) y)) d n)))
    ≡ others ++ (xs ++ (ys ++ (width_faults n y (count_of (integer scope y)) ++ run_faults (scope n.name.0) (is_constant scope x) (integer scope x) (count_of (integer scope y)) e n)))
run_so g scope n x y d e names others ps qs xs ys first second third ds =
    let wide = ap count_of (integer_as g scope y) in
    joined_so first (joined_so second (joined_so third (joined_so (ap (width_faults n y) wide)
    (run_faults_so g (scope n.name.0) _ _ _ _ _ _ d e n (fixed_as g scope x) (integer_as g scope x) wide ds))))

down_so : (g : ℕ → ℕ) (scope : Scope) (y : Expression) → count_of (integer (renumbered g scope) y) - 1 ≡ count_of (integer scope y) - 1
down_so g scope y = ap (λ (z : ℤ). count_of z - 1) (integer_as g scope y)

-- ---- expressions

pub faults_as : (g : ℕ → ℕ) (scope : Scope) (due : Due) (e : Expression) → faults (renumbered g scope) due e ≡ faults scope due e
faults_as g scope due (Literal at x) = refl
faults_as g scope due (Whole n) = name_faults_as g (scope n.name.0) due n
faults_as g scope due (BitSelect n x) = bit_so g scope n x _ _ _ _ (name_faults_as g (scope n.name.0) due n) (faults_as g scope due x)
faults_as g scope due (PartSelect n x y) =
    range_so g scope n x y _ _ _ _ _ _ (name_faults_as g (scope n.name.0) due n) (faults_as g scope ConstantOnly x) (faults_as g scope ConstantOnly y)
faults_as g scope due (UpwardSelect n x y) =
    run_so g scope n x y 0 0 _ _ _ _ _ _ (name_faults_as g (scope n.name.0) due n) (faults_as g scope due x) (faults_as g scope ConstantOnly y) refl
faults_as g scope due (DownwardSelect n x y) =
    run_so g scope n x y _ _ _ _ _ _ _ _ (name_faults_as g (scope n.name.0) due n) (faults_as g scope due x) (faults_as g scope ConstantOnly y) (down_so g scope y)
faults_as g scope due (Unary at op x) = faults_as g scope due x
faults_as g scope due (Binary op x y) = joined_so (faults_as g scope due x) (faults_as g scope due y)
faults_as g scope due (Conditional c x y) = joined_so (faults_as g scope due c) (joined_so (faults_as g scope due x) (faults_as g scope due y))
faults_as g scope due (Concatenation at xs) = joined_so (faults_as g scope due xs) (ap (total_faults at) (long_as g scope xs))
faults_as g scope due (Replication at c xs) =
    let many = ap count_of (integer_as g scope c) in
    joined_so (faults_as g scope ConstantOnly c) (joined_so (ap (λ (n : ℕ). fault_if (n == 0) (fault_of 26 c)) many)
    (joined_so (faults_as g scope due xs) (ap₂ (λ (n w : ℕ). total_faults at (n * w)) many (long_as g scope xs))))
faults_as g scope due (Bracketed at x) = faults_as g scope due x
faults_as g scope due NoPart = refl
faults_as g scope due (Parts x xs) = joined_so (faults_as g scope due x) (faults_as g scope due xs)

-- ---- targets

reference_faults_as : (g : ℕ → ℕ) (scope : Scope) (due : Due) (x : Expression) → reference_faults (renumbered g scope) due x ≡ reference_faults scope due x
reference_faults_as g scope due (Whole n) = written_as g (scope n.name.0) n
reference_faults_as g scope due (BitSelect n x) = bit_so g scope n x _ _ _ _ (written_as g (scope n.name.0) n) (faults_as g scope due x)
reference_faults_as g scope due (PartSelect n x y) =
    range_so g scope n x y _ _ _ _ _ _ (written_as g (scope n.name.0) n) (faults_as g scope ConstantOnly x) (faults_as g scope ConstantOnly y)
reference_faults_as g scope due (UpwardSelect n x y) =
    run_so g scope n x y 0 0 _ _ _ _ _ _ (written_as g (scope n.name.0) n) (faults_as g scope due x) (faults_as g scope ConstantOnly y) refl
reference_faults_as g scope due (DownwardSelect n x y) =
    run_so g scope n x y _ _ _ _ _ _ _ _ (written_as g (scope n.name.0) n) (faults_as g scope due x) (faults_as g scope ConstantOnly y) (down_so g scope y)
reference_faults_as g scope due other = refl

pub target_long_as : (g : ℕ → ℕ) (scope : Scope) (t : Target) → target_length (renumbered g scope) t ≡ target_length scope t
target_long_as g scope (Reference x) = long_as g scope x
target_long_as g scope (Joined at ts) = target_long_as g scope ts
target_long_as g scope NoTarget = refl
target_long_as g scope (Targets t ts) = ap₂ (λ (m n : ℕ). m + n) (target_long_as g scope t) (target_long_as g scope ts)

pub target_faults_as : (g : ℕ → ℕ) (scope : Scope) (due : Due) (t : Target) → target_faults (renumbered g scope) due t ≡ target_faults scope due t
target_faults_as g scope due (Reference x) = reference_faults_as g scope due x
target_faults_as g scope due (Joined at ts) = joined_so (target_faults_as g scope due ts) (ap (total_faults at) (target_long_as g scope ts))
target_faults_as g scope due NoTarget = refl
target_faults_as g scope due (Targets t ts) = joined_so (target_faults_as g scope due t) (target_faults_as g scope due ts)

may_write_as : (g : ℕ → ℕ) (by : Writer) (m : Meaning) → may_write by (meaning_as g m) ≡ may_write by m
may_write_as g by (Signal signal width lsb signed writer) = refl
may_write_as g by (Constant width value signed) = refl
may_write_as g by (Turn width value signed) = refl
may_write_as g by Genvar = refl
may_write_as g by Unknown = refl

kind_as : (g : ℕ → ℕ) (scope : Scope) (by : Writer) (n : Identifier) → kind_fault (renumbered g scope) by n ≡ kind_fault scope by n
kind_as g scope by n = ap (λ (b : Bool). fault_if (not b) (fault_at 33 n)) (may_write_as g by (scope n.name.0))

reference_kind_as : (g : ℕ → ℕ) (scope : Scope) (by : Writer) (x : Expression) → reference_kind (renumbered g scope) by x ≡ reference_kind scope by x
reference_kind_as g scope by (Whole n) = kind_as g scope by n
reference_kind_as g scope by (BitSelect n x) = kind_as g scope by n
reference_kind_as g scope by (PartSelect n x y) = kind_as g scope by n
reference_kind_as g scope by (UpwardSelect n x y) = kind_as g scope by n
reference_kind_as g scope by (DownwardSelect n x y) = kind_as g scope by n
reference_kind_as g scope by other = refl

pub kinds_as : (g : ℕ → ℕ) (scope : Scope) (by : Writer) (t : Target) → kind_faults (renumbered g scope) by t ≡ kind_faults scope by t
kinds_as g scope by (Reference x) = reference_kind_as g scope by x
kinds_as g scope by (Joined at ts) = kinds_as g scope by ts
kinds_as g scope by NoTarget = refl
kinds_as g scope by (Targets t ts) = joined_so (kinds_as g scope by t) (kinds_as g scope by ts)
