-- Registers by the numbers of their instances' paths.
use Rattle.std.specs.Prelude.{ℕ, ◌%◌, ◌^◌, ◌&&◌, ◌==◌, if◌then◌else◌, List, [], ◌∷◌, map, slice_index, Option, Some, None}
use Rattle.typed_ir.specs.declared.signal.Signal.{Signal}
use Rattle.typed_ir.specs.Orders.{at_or}
use Rattle.reg_ops.specs.declared.reg_op.RegOp.{RegOp}
use Rattle.reg_transform.specs.Registers.{Register, called, is_same}
use Rattle.reg_transform.specs.Carrying.{taken}
use Rattle.reg_transform.specs.Found.{Key}
use Rattle.reg_transform.specs.declared.regs.Regs.{Regs}

-- the numbers of the registers' instances, where these are those of all instances
abbrev pub number_at : List ℕ → List Signal → ℕ → ℕ
number_at numbers signals s = at_or (λ (x : Signal). slice_index numbers x.instance) 0 signals s

abbrev pub numbers_in : List ℕ → Regs → List ℕ
numbers_in numbers regs = map (number_at numbers regs.signals.now) regs.registers.now

-- the value of the first of these registers with the key
abbrev pub value_by : (numbers : List ℕ) → List Register → (values : List ℕ) → Key → Option ℕ
value_by [] rs xs key = None
value_by (n ∷ ns) [] xs key = None
value_by (n ∷ ns) (r ∷ rs) [] key = None
value_by (n ∷ ns) (r ∷ rs) (x ∷ xs) key = if (n == key.number) && is_same (called r) key.called then Some x else value_by ns rs xs key

-- what the registers take from old values by keys
abbrev pub carried_by : List RegOp → (old : Key → Option ℕ) → (numbers : List ℕ) → List Register → (initial : List ℕ) → List (ℕ × ℕ)
carried_by ops old [] rs is = []
carried_by ops old (n ∷ ns) [] is = []
carried_by ops old (n ∷ ns) (r ∷ rs) [] = []
carried_by ops old (n ∷ ns) (r ∷ rs) (i ∷ is) =
    (r.width, taken ops (λ name. old (record { number = n; called = name })) (called r) i % 2 ^ r.width) ∷ carried_by ops old ns rs is
