-- Faults without places: the same, in the same order.
use Rattle.std.proofs.Common.{◌≡◌, ℕ, ◌+◌, ◌-◌, ◌*◌, ◌==◌, nat_lt, Bool, true, false, ◌&&◌, not, List, [], ◌++◌, map, ℤ, refl, ◌∙◌, ap, ap₂}
use Rattle.ls_text.specs.declared.place.Place.{Place}
use Rattle.ls_text.specs.declared.fault.Fault.{Fault}
use Rattle.verilog_ast.specs.declared.identifier.Identifier.{Identifier}
use Rattle.verilog_ast.specs.Expressions.{Expression, Literal, Whole, BitSelect, PartSelect, UpwardSelect, DownwardSelect, Unary, Binary, Conditional, Concatenation, Replication, Bracketed, NoPart, Parts}
use Rattle.verilog_ast.specs.Places.{no_place, expression_place}
use Rattle.width_rules.specs.declared.due.Due.{Due}
use Rattle.width_rules.specs.declared.due.Due.TheVariants.{AnyValue, ConstantOnly}
use Rattle.width_rules.specs.Constants.{integer}
use Rattle.width_rules.specs.Scopes.{Meaning, Signal, Constant, Turn, Genvar, Unknown, Scope}
use Rattle.width_rules.specs.Sizes.{literal_length, count_of, bits_between}
use Rattle.width_rules.specs.Faults.{faults, fault, fault_of, fault_at, fault_if, first_name, name_faults, run_faults, range_faults, part_faults, width_faults, total_faults, lies}
use Rattle.version_swap.specs.Unplaced.{unplaced_expression, unplaced_name}
use Rattle.version_swap.specs.UnplacedFindings.{fault_unplaced}
use Rattle.gen_unroll.proofs.MovedLists.{append_so}
use Rattle.version_swap.proofs.UnplacedSizes.{same_length, same_fixed, same_worth}

-- ---- lists of faults

pub both_so : (ps qs xs ys : List Fault) → ps ≡ map fault_unplaced xs → qs ≡ map fault_unplaced ys → (ps ++ qs) ≡ map fault_unplaced (xs ++ ys)
both_so ps qs xs ys = append_so fault_unplaced ps qs xs ys

one_so : (b : Bool) (x : Fault) → fault_if b (fault_unplaced x) ≡ map fault_unplaced (fault_if b x)
one_so true x = refl
one_so false x = refl

pub if_so : (b c : Bool) (x y : Fault) → b ≡ c → x ≡ fault_unplaced y → fault_if b x ≡ map fault_unplaced (fault_if c y)
if_so b c x y bs xs = ap₂ fault_if bs xs ∙ one_so c y

-- ---- places and names

pub same_place : (e : Expression) → expression_place (unplaced_expression e) ≡ no_place
same_place (Binary op x y) = same_place x
same_place (Conditional c x y) = same_place c
same_place (Parts x xs) = same_place x
same_place other = refl

same_names : (e : Expression) → first_name (unplaced_expression e) ≡ first_name e
same_names (Binary op x y) = same_names x
same_names (Conditional c x y) = same_names c
same_names (Parts x xs) = same_names x
same_names other = refl

pub fault_of_so : (code : ℕ) (e : Expression) → fault_of code (unplaced_expression e) ≡ fault_unplaced (fault_of code e)
fault_of_so code e = ap₂ (fault code) (same_place e) (same_names e)

-- ---- names

name_moves : (m : Meaning) (due : Due) (n : Identifier) → name_faults m due (unplaced_name n) ≡ map fault_unplaced (name_faults m due n)
name_moves (Signal signal width lsb signed writer) AnyValue n = refl
name_moves (Signal signal width lsb signed writer) ConstantOnly n = refl
name_moves (Constant width value signed) due n = refl
name_moves (Turn width value signed) due n = refl
name_moves Genvar due n = refl
name_moves Unknown due n = refl

-- ---- selects

run_moves : (m : Meaning) (b : Bool) (at : ℤ) (width down : ℕ) (n : Identifier)
    → run_faults m b at width down (unplaced_name n) ≡ map fault_unplaced (run_faults m b at width down n)
run_moves (Signal signal total lsb signed writer) b at width down n = one_so (b && not (lies at (lsb + down) width total)) (fault_at 32 n)
run_moves other b at width down n = refl

pub run_so : (m : Meaning) (b c : Bool) (i j : ℤ) (v w d e : ℕ) (n : Identifier) → b ≡ c → i ≡ j → v ≡ w → d ≡ e
    → run_faults m b i v d (unplaced_name n) ≡ map fault_unplaced (run_faults m c j w e n)
run_so m b c i j v w d e n bs is vs ds =
    ap (λ (a : Bool). run_faults m a i v d (unplaced_name n)) bs
    ∙ ap₂ (λ (z : ℤ) (a : ℕ). run_faults m c z a d (unplaced_name n)) is vs
    ∙ ap (λ (a : ℕ). run_faults m c j w a (unplaced_name n)) ds
    ∙ run_moves m c j w e n

range_moves : (m : Meaning) (low : ℤ) (width : ℕ) (n : Identifier)
    → range_faults m low width (unplaced_name n) ≡ map fault_unplaced (range_faults m low width n)
range_moves (Signal signal total lsb signed writer) low width n = one_so (not (lies low lsb width total)) (fault_at 32 n)
range_moves other low width n = refl

part_moves : (m : Meaning) (low : ℤ) (width : ℕ) (n : Identifier)
    → part_faults m low width (unplaced_name n) ≡ map fault_unplaced (part_faults m low width n)
part_moves m low width n =
    both_so _ _ _ _ (one_so (nat_lt 128 width) (fault_at 31 n))
    (both_so _ _ _ _ (one_so (width == 0) (fault_at 32 n)) (range_moves m low width n))

pub part_so : (m : Meaning) (i j : ℤ) (v w : ℕ) (n : Identifier) → i ≡ j → v ≡ w
    → part_faults m i v (unplaced_name n) ≡ map fault_unplaced (part_faults m j w n)
part_so m i j v w n is vs =
    ap₂ (λ (z : ℤ) (a : ℕ). part_faults m z a (unplaced_name n)) is vs
    ∙ part_moves m j w n

pub width_so : (n : Identifier) (y : Expression) (v w : ℕ) → v ≡ w
    → width_faults (unplaced_name n) (unplaced_expression y) v ≡ map fault_unplaced (width_faults n y w)
width_so n y v w is =
    ap (width_faults (unplaced_name n) (unplaced_expression y)) is
    ∙ both_so _ _ _ _ (if_so (w == 0) (w == 0) _ (fault_of 26 y) refl (fault_of_so 26 y)) (one_so (nat_lt 128 w) (fault_at 31 n))

pub total_so : (at : Place) (v w : ℕ) → v ≡ w → total_faults no_place v ≡ map fault_unplaced (total_faults at w)
total_so at v w is =
    ap (total_faults no_place) is
    ∙ both_so _ _ _ _ (one_so (w == 0) (fault 26 at [])) (one_so (nat_lt 128 w) (fault 31 at []))

-- ---- expressions

pub same_count : (scope : Scope) (e : Expression)
    → count_of (integer scope (unplaced_expression e)) ≡ count_of (integer scope e)
same_count scope e = ap count_of (same_worth scope e)

pub same_between : (scope : Scope) (x y : Expression)
    → bits_between (integer scope (unplaced_expression x)) (integer scope (unplaced_expression y)) ≡ bits_between (integer scope x) (integer scope y)
same_between scope x y = ap₂ bits_between (same_worth scope x) (same_worth scope y)

pub same_faults : (scope : Scope) (due : Due) (e : Expression)
    → faults scope due (unplaced_expression e) ≡ map fault_unplaced (faults scope due e)
same_faults scope due (Literal at x) = one_so (nat_lt 128 (literal_length x.size)) (fault 31 at [])
same_faults scope due (Whole n) = name_moves (scope n.name.0) due n
same_faults scope due (BitSelect n x) =
    both_so _ _ _ _ (name_moves (scope n.name.0) due n) (both_so _ _ _ _ (same_faults scope due x)
    (run_so _ _ _ _ _ 1 1 0 0 n (same_fixed scope x) (same_worth scope x) refl refl))
same_faults scope due (PartSelect n x y) =
    both_so _ _ _ _ (name_moves (scope n.name.0) due n) (both_so _ _ _ _ (same_faults scope ConstantOnly x)
    (both_so _ _ _ _ (same_faults scope ConstantOnly y)
    (part_so _ _ _ _ _ n (same_worth scope y) (same_between scope x y))))
same_faults scope due (UpwardSelect n x y) =
    both_so _ _ _ _ (name_moves (scope n.name.0) due n) (both_so _ _ _ _ (same_faults scope due x)
    (both_so _ _ _ _ (same_faults scope ConstantOnly y) (both_so _ _ _ _ (width_so n y _ _ (same_count scope y))
    (run_so _ _ _ _ _ _ _ 0 0 n (same_fixed scope x) (same_worth scope x) (same_count scope y) refl))))
same_faults scope due (DownwardSelect n x y) =
    both_so _ _ _ _ (name_moves (scope n.name.0) due n) (both_so _ _ _ _ (same_faults scope due x)
    (both_so _ _ _ _ (same_faults scope ConstantOnly y) (both_so _ _ _ _ (width_so n y _ _ (same_count scope y))
    (run_so _ _ _ _ _ _ _ _ _ n (same_fixed scope x) (same_worth scope x) (same_count scope y)
    (ap (λ (w : ℕ). w - 1) (same_count scope y))))))
same_faults scope due (Unary at op x) = same_faults scope due x
same_faults scope due (Binary op x y) =
    both_so _ _ _ _ (same_faults scope due x) (same_faults scope due y)
same_faults scope due (Conditional c x y) =
    both_so _ _ _ _ (same_faults scope due c) (both_so _ _ _ _ (same_faults scope due x) (same_faults scope due y))
same_faults scope due (Concatenation at xs) =
    both_so _ _ _ _ (same_faults scope due xs) (total_so at _ _ (same_length scope xs))
same_faults scope due (Replication at c xs) =
    both_so _ _ _ _ (same_faults scope ConstantOnly c)
    (both_so _ _ _ _ (if_so _ _ _ (fault_of 26 c) (ap (λ (w : ℕ). w == 0) (same_count scope c)) (fault_of_so 26 c))
    (both_so _ _ _ _ (same_faults scope due xs)
    (total_so at _ _ (ap₂ (λ (m n : ℕ). m * n) (same_count scope c) (same_length scope xs)))))
same_faults scope due (Bracketed at x) = same_faults scope due x
same_faults scope due (Parts x xs) =
    both_so _ _ _ _ (same_faults scope due x) (same_faults scope due xs)
same_faults scope due NoPart = refl
