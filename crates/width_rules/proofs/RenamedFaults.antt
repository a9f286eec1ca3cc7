-- Faults under other names: the same, in the same order, and each shows its other names.
use Rattle.std.proofs.Common.{◌≡◌, ℕ, ◌+◌, ◌-◌, ◌*◌, ◌==◌, nat_lt, Bool, true, false, ◌&&◌, not, List, [], ◌++◌, map, Option, ℤ, refl, sym, ◌∙◌, ap, ap₂}
use Rattle.std.proofs.lemmas.List.{map-append}
use Rattle.ls_text.specs.declared.place.Place.{Place}
use Rattle.ls_text.specs.declared.name_id.NameId.{NameId}
use Rattle.ls_text.specs.declared.fault.Fault.{Fault}
use Rattle.verilog_ast.specs.declared.identifier.Identifier.{Identifier}
use Rattle.verilog_ast.specs.Expressions.{Expression, Literal, Whole, BitSelect, PartSelect, UpwardSelect, DownwardSelect, Unary, Binary, Conditional, Concatenation, Replication, Bracketed, NoPart, Parts}
use Rattle.verilog_ast.specs.Places.{expression_place}
use Rattle.verilog_ast.specs.Renamed.{renamed_identifier}
use Rattle.verilog_ast.specs.Renaming.{expression_as}
use Rattle.width_rules.specs.declared.due.Due.{Due}
use Rattle.width_rules.specs.declared.due.Due.TheVariants.{AnyValue, ConstantOnly}
use Rattle.width_rules.specs.Constants.{integer}
use Rattle.width_rules.specs.Renaming.{MeansSame, fault_as}
use Rattle.width_rules.specs.Scopes.{Meaning, Signal, Constant, Turn, Genvar, Unknown, Scope}
use Rattle.width_rules.specs.Sizes.{literal_length, count_of, bits_between}
use Rattle.width_rules.specs.Faults.{faults, sizing_faults, pushed_length, fault, fault_of, fault_at, fault_if, first_name, name_faults, run_faults, range_faults, part_faults, width_faults, total_faults, lies}
use Rattle.width_rules.proofs.RenamedSizes.{same_length, same_fixed, same_worth}

-- ---- lists of faults

pub both_so : (f : NameId → NameId) (ps qs xs ys : List Fault) → ps ≡ map (fault_as f) xs → qs ≡ map (fault_as f) ys → (ps ++ qs) ≡ map (fault_as f) (xs ++ ys)
both_so f ps qs xs ys first rest = ap₂ (λ (a b : List Fault). a ++ b) first rest ∙ sym (map-append (fault_as f) xs ys)

one_so : (f : NameId → NameId) (b : Bool) (x : Fault) → fault_if b (fault_as f x) ≡ map (fault_as f) (fault_if b x)
one_so f true x = refl
one_so f false x = refl

pub if_so : (f : NameId → NameId) (b c : Bool) (x y : Fault) → b ≡ c → x ≡ fault_as f y → fault_if b x ≡ map (fault_as f) (fault_if c y)
if_so f b c x y bs xs = ap₂ fault_if bs xs ∙ one_so f c y

-- ---- places and names

pub same_place : (f : NameId → NameId) (e : Expression) → expression_place (expression_as f e) ≡ expression_place e
same_place f (Literal at x) = refl
same_place f (Whole n) = refl
same_place f (BitSelect n x) = refl
same_place f (PartSelect n x y) = refl
same_place f (UpwardSelect n x y) = refl
same_place f (DownwardSelect n x y) = refl
same_place f (Unary at op x) = refl
same_place f (Binary op x y) = same_place f x
same_place f (Conditional c x y) = same_place f c
same_place f (Concatenation at xs) = refl
same_place f (Replication at c xs) = refl
same_place f (Bracketed at x) = refl
same_place f NoPart = refl
same_place f (Parts x xs) = same_place f x

same_names : (f : NameId → NameId) (e : Expression) → first_name (expression_as f e) ≡ map f (first_name e)
same_names f (Literal at x) = refl
same_names f (Whole n) = refl
same_names f (BitSelect n x) = refl
same_names f (PartSelect n x y) = refl
same_names f (UpwardSelect n x y) = refl
same_names f (DownwardSelect n x y) = refl
same_names f (Unary at op x) = refl
same_names f (Binary op x y) = same_names f x
same_names f (Conditional c x y) = same_names f c
same_names f (Concatenation at xs) = refl
same_names f (Replication at c xs) = refl
same_names f (Bracketed at x) = refl
same_names f NoPart = refl
same_names f (Parts x xs) = same_names f x

pub fault_of_so : (f : NameId → NameId) (code : ℕ) (e : Expression) → fault_of code (expression_as f e) ≡ fault_as f (fault_of code e)
fault_of_so f code e = ap₂ (fault code) (same_place f e) (same_names f e)

-- ---- names

name_moves : (f : NameId → NameId) (m : Meaning) (due : Due) (n : Identifier) → name_faults m due (renamed_identifier f n) ≡ map (fault_as f) (name_faults m due n)
name_moves f (Signal signal width lsb signed writer) AnyValue n = refl
name_moves f (Signal signal width lsb signed writer) ConstantOnly n = refl
name_moves f (Constant width value signed) due n = refl
name_moves f (Turn width value signed) due n = refl
name_moves f Genvar due n = refl
name_moves f Unknown due n = refl

pub name_so : (f : NameId → NameId) (scope other : Scope) (due : Due) (n : Identifier) → MeansSame f scope other
    → name_faults (other (f n.name).0) due (renamed_identifier f n) ≡ map (fault_as f) (name_faults (scope n.name.0) due n)
name_so f scope other due n same =
    ap (λ (m : Meaning). name_faults m due (renamed_identifier f n)) (same n.name) ∙ name_moves f (scope n.name.0) due n

-- ---- selects

run_moves : (f : NameId → NameId) (m : Meaning) (b : Bool) (at : ℤ) (width down : ℕ) (n : Identifier)
    → run_faults m b at width down (renamed_identifier f n) ≡ map (fault_as f) (run_faults m b at width down n)
run_moves f (Signal signal total lsb signed writer) b at width down n = one_so f (b && not (lies at (lsb + down) width total)) (fault_at 32 n)
run_moves f (Constant own value signed) b at width down n = refl
run_moves f (Turn own value signed) b at width down n = refl
run_moves f Genvar b at width down n = refl
run_moves f Unknown b at width down n = refl

pub run_so : (f : NameId → NameId) (p m : Meaning) (b c : Bool) (i j : ℤ) (v w d e : ℕ) (n : Identifier) → p ≡ m → b ≡ c → i ≡ j → v ≡ w → d ≡ e
    → run_faults p b i v d (renamed_identifier f n) ≡ map (fault_as f) (run_faults m c j w e n)
run_so f p m b c i j v w d e n ms bs is vs ds =
    ap₂ (λ (z : Meaning) (a : Bool). run_faults z a i v d (renamed_identifier f n)) ms bs
    ∙ ap₂ (λ (z : ℤ) (a : ℕ). run_faults m c z a d (renamed_identifier f n)) is vs
    ∙ ap (λ (a : ℕ). run_faults m c j w a (renamed_identifier f n)) ds
    ∙ run_moves f m c j w e n

range_moves : (f : NameId → NameId) (m : Meaning) (low : ℤ) (width : ℕ) (n : Identifier)
    → range_faults m low width (renamed_identifier f n) ≡ map (fault_as f) (range_faults m low width n)
range_moves f (Signal signal total lsb signed writer) low width n = one_so f (not (lies low lsb width total)) (fault_at 32 n)
range_moves f (Constant own value signed) low width n = refl
range_moves f (Turn own value signed) low width n = refl
range_moves f Genvar low width n = refl
range_moves f Unknown low width n = refl

part_moves : (f : NameId → NameId) (m : Meaning) (low : ℤ) (width : ℕ) (n : Identifier)
    → part_faults m low width (renamed_identifier f n) ≡ map (fault_as f) (part_faults m low width n)
part_moves f m low width n =
    both_so f _ _ _ _ (one_so f (nat_lt 128 width) (fault_at 31 n))
    (both_so f _ _ _ _ (one_so f (width == 0) (fault_at 32 n)) (range_moves f m low width n))

pub part_so : (f : NameId → NameId) (p m : Meaning) (i j : ℤ) (v w : ℕ) (n : Identifier) → p ≡ m → i ≡ j → v ≡ w
    → part_faults p i v (renamed_identifier f n) ≡ map (fault_as f) (part_faults m j w n)
part_so f p m i j v w n ms is vs =
    ap (λ (z : Meaning). part_faults z i v (renamed_identifier f n)) ms
    ∙ ap₂ (λ (z : ℤ) (a : ℕ). part_faults m z a (renamed_identifier f n)) is vs
    ∙ part_moves f m j w n

pub width_so : (f : NameId → NameId) (n : Identifier) (y : Expression) (v w : ℕ) → v ≡ w
    → width_faults (renamed_identifier f n) (expression_as f y) v ≡ map (fault_as f) (width_faults n y w)
width_so f n y v w is =
    ap (width_faults (renamed_identifier f n) (expression_as f y)) is
    ∙ both_so f _ _ _ _ (if_so f (w == 0) (w == 0) _ (fault_of 26 y) refl (fault_of_so f 26 y)) (one_so f (nat_lt 128 w) (fault_at 31 n))

pub total_so : (f : NameId → NameId) (at : Place) (v w : ℕ) → v ≡ w → total_faults at v ≡ map (fault_as f) (total_faults at w)
total_so f at v w is =
    ap (total_faults at) is
    ∙ both_so f _ _ _ _ (one_so f (w == 0) (fault 26 at [])) (one_so f (nat_lt 128 w) (fault 31 at []))

-- ---- expressions

pub same_count : (f : NameId → NameId) (scope other : Scope) (e : Expression) → MeansSame f scope other
    → count_of (integer other (expression_as f e)) ≡ count_of (integer scope e)
same_count f scope other e same = ap count_of (same_worth f scope other e same)

pub same_between : (f : NameId → NameId) (scope other : Scope) (x y : Expression) → MeansSame f scope other
    → bits_between (integer other (expression_as f x)) (integer other (expression_as f y)) ≡ bits_between (integer scope x) (integer scope y)
same_between f scope other x y same = ap₂ bits_between (same_worth f scope other x same) (same_worth f scope other y same)

pub same_faults : (f : NameId → NameId) (scope other : Scope) (due : Due) (e : Expression) → MeansSame f scope other
    → faults other due (expression_as f e) ≡ map (fault_as f) (faults scope due e)
same_faults f scope other due (Literal at x) same = one_so f (nat_lt 128 (literal_length x.size)) (fault 31 at [])
same_faults f scope other due (Whole n) same = name_so f scope other due n same
same_faults f scope other due (BitSelect n x) same =
    both_so f _ _ _ _ (name_so f scope other due n same) (both_so f _ _ _ _ (same_faults f scope other due x same)
    (run_so f _ _ _ _ _ _ 1 1 0 0 n (same n.name) (same_fixed f scope other x same) (same_worth f scope other x same) refl refl))
same_faults f scope other due (PartSelect n x y) same =
    both_so f _ _ _ _ (name_so f scope other due n same) (both_so f _ _ _ _ (same_faults f scope other ConstantOnly x same)
    (both_so f _ _ _ _ (same_faults f scope other ConstantOnly y same)
    (part_so f _ _ _ _ _ _ n (same n.name) (same_worth f scope other y same) (same_between f scope other x y same))))
same_faults f scope other due (UpwardSelect n x y) same =
    both_so f _ _ _ _ (name_so f scope other due n same) (both_so f _ _ _ _ (same_faults f scope other due x same)
    (both_so f _ _ _ _ (same_faults f scope other ConstantOnly y same) (both_so f _ _ _ _ (width_so f n y _ _ (same_count f scope other y same))
    (run_so f _ _ _ _ _ _ _ _ 0 0 n (same n.name) (same_fixed f scope other x same) (same_worth f scope other x same) (same_count f scope other y same) refl))))
same_faults f scope other due (DownwardSelect n x y) same =
    both_so f _ _ _ _ (name_so f scope other due n same) (both_so f _ _ _ _ (same_faults f scope other due x same)
    (both_so f _ _ _ _ (same_faults f scope other ConstantOnly y same) (both_so f _ _ _ _ (width_so f n y _ _ (same_count f scope other y same))
    (run_so f _ _ _ _ _ _ _ _ _ _ n (same n.name) (same_fixed f scope other x same) (same_worth f scope other x same) (same_count f scope other y same)
    (ap (λ (w : ℕ). w - 1) (same_count f scope other y same))))))
same_faults f scope other due (Unary at op x) same = same_faults f scope other due x same
same_faults f scope other due (Binary op x y) same =
    both_so f _ _ _ _ (same_faults f scope other due x same) (same_faults f scope other due y same)
same_faults f scope other due (Conditional c x y) same =
    both_so f _ _ _ _ (same_faults f scope other due c same) (both_so f _ _ _ _ (same_faults f scope other due x same) (same_faults f scope other due y same))
same_faults f scope other due (Concatenation at xs) same =
    both_so f _ _ _ _ (same_faults f scope other due xs same) (total_so f at _ _ (same_length f scope other xs same))
same_faults f scope other due (Replication at c xs) same =
    both_so f _ _ _ _ (same_faults f scope other ConstantOnly c same)
    (both_so f _ _ _ _ (if_so f _ _ _ (fault_of 26 c) (ap (λ (w : ℕ). w == 0) (same_count f scope other c same)) (fault_of_so f 26 c))
    (both_so f _ _ _ _ (same_faults f scope other due xs same)
    (total_so f at _ _ (ap₂ (λ (m n : ℕ). m * n) (same_count f scope other c same) (same_length f scope other xs same)))))
same_faults f scope other due (Bracketed at x) same = same_faults f scope other due x same
same_faults f scope other due NoPart same = refl
same_faults f scope other due (Parts x xs) same =
    both_so f _ _ _ _ (same_faults f scope other due x same) (same_faults f scope other due xs same)

-- ---- in a context

same_pushed : (context : Option ℕ) (m n : ℕ) → m ≡ n → nat_lt 128 (pushed_length context m) ≡ nat_lt 128 (pushed_length context n)
same_pushed context m n = ap (λ (k : ℕ). nat_lt 128 (pushed_length context k))

pub same_sizing : (f : NameId → NameId) (scope other : Scope) (context : Option ℕ) (e : Expression) → MeansSame f scope other
    → sizing_faults other (expression_as f e) context ≡ map (fault_as f) (sizing_faults scope e context)
same_sizing f scope other context e same =
    both_so f _ _ _ _ (same_faults f scope other AnyValue e same)
    (if_so f _ _ _ (fault_of 31 e) (same_pushed context _ _ (same_length f scope other e same)) (fault_of_so f 31 e))
