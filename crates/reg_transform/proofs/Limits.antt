-- The greatest values of names, and what they say of operations.
use Rattle.std.proofs.Common.{◌≡◌, ℕ, ◌+◌, ◌-◌, ◌^◌, ◌<◌, nat_lt, nat_le, Bool, true, false, ◌&&◌, ◌||◌, not, cond, List, [], ◌∷◌, drop, refl, sym, ◌∙◌, ap, ap₂, arith}
use Rattle.std.specs.Prelude.{slice_get, Option, Some, None}
use Rattle.std.specs.Option.{is_some, option_or}
use Rattle.std.proofs.Math.Path.{fun_ext}
use Rattle.std.proofs.lemmas.Nat.{pow_pos}
use Rattle.std.proofs.lemmas.Bool.{cond-true, cond-false}
use Rattle.std.proofs.Math.Bool.{or-false}
use Rattle.typed_ir.proofs.Cases.{by_cases}
use Rattle.reg_ops.specs.declared.reg_op.RegOp.{RegOp}
use Rattle.reg_ops.specs.declared.reg_op.RegOp.TheVariants.{Rename, Create, Delete}
use Rattle.reg_transform.specs.Registers.{RegisterName, Register, called, is_same}
use Rattle.reg_transform.specs.OperationFaults.{has, is_too_wide, misses, fault_if, old_of, new_of}
use Rattle.reg_transform.specs.Greatest.{greatest, lesser, is_passed, misses_by}
use Rattle.reg_transform.proofs.Elements.{dropped}
use Rattle.reg_transform.proofs.Finding.{names_decide}

-- one more register before the others
pub greatest_step : (rs : List Register) (i : ℕ) (r : Register) (v : ℕ) (known : RegisterName → Option ℕ) → slice_get rs i ≡ Some r
    → ((n : RegisterName) → known n ≡ greatest (drop (i + 1) rs) n) → v ≡ lesser (2 ^ r.width - 1) (known (called r))
    → (name : RegisterName) → cond (is_same (called r) name) (Some v) (known name) ≡ greatest (drop i rs) name
greatest_step rs i r v known at held is name =
    by_cases (is_same (called r) name)
    (λ t. cond-true (is_same (called r) name) (Some v) (known name) t
    ∙ ap Some (is ∙ ap (lesser (2 ^ r.width - 1)) (held (called r) ∙ ap (greatest (drop (i + 1) rs)) (names_decide.is (called r) name t)))
    ∙ sym (cond-true (is_same (called r) name) (Some (lesser (2 ^ r.width - 1) rest)) rest t))
    (λ f. cond-false (is_same (called r) name) (Some v) (known name) f ∙ held name
    ∙ sym (cond-false (is_same (called r) name) (Some (lesser (2 ^ r.width - 1) rest)) rest f))
    ∙ sym (ap (λ zs. greatest zs name) (dropped rs i r at))
  where
    rest : Option ℕ
    rest = greatest (drop (i + 1) rs) name

-- a register has the name just where there is a greatest value
pub has_greatest : (rs : List Register) (name : RegisterName) → is_some (greatest rs name) ≡ has rs name
has_greatest [] name = refl
has_greatest (r ∷ rs) name = by (is_same (called r) name) (has_greatest rs name)
  where
    by : (b : Bool) → is_some (greatest rs name) ≡ has rs name → is_some (cond b (Some (lesser (2 ^ r.width - 1) (greatest rs name))) (greatest rs name)) ≡ (b || has rs name)
    by true rest = refl
    by false rest = rest

over : (w v : ℕ) → nat_lt (2 ^ w - 1) v ≡ nat_le (2 ^ w) v
over w v = let positive : 0 < 2 ^ w = pow_pos w in by_size (2 ^ w) v positive
  where
    by_size : (p v : ℕ) → 0 < p → nat_lt (p - 1) v ≡ nat_le p v
    by_size p v h = grind arith

either_passed : (g v : ℕ) (rest : Option ℕ) → is_passed (Some (lesser g rest)) v ≡ (nat_lt g v || is_passed rest v)
either_passed g v None = sym (or-false (nat_lt g v))
either_passed g v (Some h) = grind arith

-- a value is too large for one of the registers just where it passes the greatest one
pub passed_greatest : (rs : List Register) (value : ℕ) (name : RegisterName) → is_passed (greatest rs name) value ≡ is_too_wide rs value name
passed_greatest [] value name = refl
passed_greatest (r ∷ rs) value name = by (is_same (called r) name) (passed_greatest rs value name)
  where
    by : (b : Bool) → is_passed (greatest rs name) value ≡ is_too_wide rs value name → is_passed (cond b (Some (lesser (2 ^ r.width - 1) (greatest rs name))) (greatest rs name)) value
        ≡ ((b && nat_le (2 ^ r.width) value) || is_too_wide rs value name)
    by true rest = either_passed (2 ^ r.width - 1) value (greatest rs name) ∙ ap₂ (λ (a b : Bool). a || b) (over r.width value) rest
    by false rest = rest

-- the faults by greatest values are those by the registers
pub misses_greatest : (old new : List Register) (op : RegOp) → misses_by (greatest old) (greatest new) op ≡ misses old new op
misses_greatest old new (Rename in_module from to) =
    ap₂ (λ (p q : RegisterName → Bool). option_or (fault_if 50 p (old_of (Rename in_module from to))) (fault_if 51 q (new_of (Rename in_module from to))))
    (fun_ext (λ (n : RegisterName). ap not (has_greatest old n))) (fun_ext (λ (n : RegisterName). ap not (has_greatest new n)))
misses_greatest old new (Create in_module reg value) =
    ap₂ (λ (p q : RegisterName → Bool). option_or (fault_if 53 p (new_of (Create in_module reg value))) (fault_if 55 q (new_of (Create in_module reg value))))
    (fun_ext (λ (n : RegisterName). ap not (has_greatest new n))) (fun_ext (λ (n : RegisterName). passed_greatest new value n))
misses_greatest old new (Delete in_module reg) =
    ap₂ (λ (p q : RegisterName → Bool). option_or (fault_if 50 p (old_of (Delete in_module reg))) (fault_if 54 q (old_of (Delete in_module reg))))
    (fun_ext (λ (n : RegisterName). ap not (has_greatest old n))) (fun_ext (λ (n : RegisterName). has_greatest new n))
