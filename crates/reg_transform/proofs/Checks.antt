-- The first fault of a list of operations.
use Rattle.std.proofs.Common.{◌≡◌, ℕ, zero, suc, ◌+◌, ◌<◌, Bool, ◌||◌, List, [], ◌∷◌, ◌++◌, length, get_or, take, drop, refl, sym, ◌∙◌, ap, ap₂, arith}
use Rattle.std.specs.Prelude.{Option, Some, None}
use Rattle.std.specs.List.{list_any}
use Rattle.std.specs.Option.{option_or}
use Rattle.std.proofs.Math.Bool.{or_comm, or-false}
use Rattle.std.proofs.Math.Path.{fun_ext}
use Rattle.std.proofs.lemmas.List.{get_or_default}
use Rattle.std.proofs.lemmas.List.Folds.{list_any-append}
use Rattle.typed_ir.proofs.Lists.{drop_read, take_next}
use Rattle.reg_ops.specs.declared.reg_op.RegOp.{RegOp}
use Rattle.reg_transform.specs.Greatest.{greatest, misses_by, twice_by}
use Rattle.reg_transform.specs.OperationFaults.{OperationFault, RefusedOperation, are_one, first_refused, new_of, old_of, operation_fault, operations_fault}
use Rattle.reg_transform.specs.Registers.{RegisterName, Register}
use Rattle.reg_transform.proofs.Limits.{misses_greatest}

-- one more operation done
pub noted : (test : RegOp → Bool) (ops : List RegOp) (i : ℕ) (op : RegOp) → i < length ops → op ≡ get_or ops i op
    → list_any test (take (i + 1) ops) ≡ (test op || list_any test (take i ops))
noted test ops i op h is =
    ap (list_any test) (take_next ops i op h is)
    ∙ list_any-append test (take i ops) (op ∷ [])
    ∙ ap (λ b. list_any test (take i ops) || b) (or-false (test op))
    ∙ or_comm (list_any test (take i ops)) (test op)

pub goes_on : (old new : List Register) (ops : List RegOp) (i : ℕ) (op : RegOp) → i < length ops → op ≡ get_or ops i op
    → operation_fault old new (take i ops) op ≡ None
    → operations_fault old new (take (i + 1) ops) (drop (i + 1) ops) ≡ operations_fault old new (take i ops) (drop i ops)
goes_on old new ops i op h is none =
    ap (λ zs. operations_fault old new zs (drop (i + 1) ops)) (take_next ops i op h is)
    ∙ sym (ap (operations_fault old new (take i ops)) (drop_read ops i op h is)
    ∙ ap (λ f. first_refused (length (take i ops)) f (operations_fault old new (take i ops ++ op ∷ []) (drop (i + 1) ops))) none)

pub stops : (old new : List Register) (ops : List RegOp) (i : ℕ) (op : RegOp) (fault : OperationFault) → i < length ops → op ≡ get_or ops i op
    → operation_fault old new (take i ops) op ≡ Some fault
    → operations_fault old new (take i ops) (drop i ops) ≡ Some (record { index = i; fault = fault })
stops old new ops i op fault h is some =
    ap (operations_fault old new (take i ops)) (drop_read ops i op h is)
    ∙ ap (λ f. first_refused (length (take i ops)) f (operations_fault old new (take i ops ++ op ∷ []) (drop (i + 1) ops))) some
    ∙ ap (λ n. Some (at n)) (taken i ops h)
  where
    at : ℕ → RefusedOperation
    at n = record { index = n; fault = fault }

    taken : (i : ℕ) (ops : List RegOp) → i < length ops → length (take i ops) ≡ i
    taken zero ops h = refl
    taken (suc i) [] h = absurd (omega (arith, h))
    taken (suc i) (o ∷ os) h = ap suc (taken i os (omega (arith, h)))

-- the same of an element that is read at its place
pub goes_on_at : (old new : List Register) (ops : List RegOp) (i : ℕ) (d : RegOp) → i < length ops
    → operation_fault old new (take i ops) (get_or ops i d) ≡ None
    → operations_fault old new (take (i + 1) ops) (drop (i + 1) ops) ≡ operations_fault old new (take i ops) (drop i ops)
goes_on_at old new ops i d h none = goes_on old new ops i (get_or ops i d) h (get_or_default ops i d (get_or ops i d) h) none

pub stops_at : (old new : List Register) (ops : List RegOp) (i : ℕ) (d : RegOp) (fault : OperationFault) → i < length ops
    → operation_fault old new (take i ops) (get_or ops i d) ≡ Some fault
    → operations_fault old new (take i ops) (drop i ops) ≡ Some (record { index = i; fault = fault })
stops_at old new ops i d fault h some = stops old new ops i (get_or ops i d) fault h (get_or_default ops i d (get_or ops i d) h) some

pub noted_at : (test : RegOp → Bool) (ops : List RegOp) (i : ℕ) (d : RegOp) → i < length ops
    → list_any test (take (i + 1) ops) ≡ (test (get_or ops i d) || list_any test (take i ops))
noted_at test ops i d h = noted test ops i (get_or ops i d) h (get_or_default ops i d (get_or ops i d) h)

pub noted_by : (test : RegOp → Bool) (ops : List RegOp) (i : ℕ) (d : RegOp) (was now : Bool) → i < length ops
    → now ≡ (test (get_or ops i d) || was) → was ≡ list_any test (take i ops) → now ≡ list_any test (take (i + 1) ops)
noted_by test ops i d was now h e known = e ∙ ap (λ b. test (get_or ops i d) || b) known ∙ sym (noted_at test ops i d h)

-- at the end nothing is left
pub ended : (old new : List Register) (ops : List RegOp) (i : ℕ) → drop i ops ≡ [] → operations_fault old new (take i ops) (drop i ops) ≡ None
ended old new ops i e = ap (operations_fault old new (take i ops)) e

-- an operation's fault, by what the code keeps
pub fault_is : (old new : List Register) (earlier : List RegOp) (olds news : RegisterName → Bool) (before after : RegisterName → Option ℕ) (op : RegOp)
    → ((n : RegisterName) → olds n ≡ list_any (λ (e : RegOp). are_one (old_of e) (Some n)) earlier)
    → ((n : RegisterName) → news n ≡ list_any (λ (e : RegOp). are_one (new_of e) (Some n)) earlier)
    → ((n : RegisterName) → before n ≡ greatest old n) → ((n : RegisterName) → after n ≡ greatest new n)
    → option_or (twice_by olds news op) (misses_by before after op) ≡ operation_fault old new earlier op
fault_is old new earlier olds news before after op olds_are news_are before_is after_is =
    ap₂ (λ (p q : RegisterName → Bool). option_or (twice_by p q op) (misses_by before after op))
    (fun_ext (λ (n : RegisterName). olds_are n)) (fun_ext (λ (n : RegisterName). news_are n))
    ∙ ap₂ (λ (p q : RegisterName → Option ℕ). option_or (twice_by (λ n. list_any (λ (e : RegOp). are_one (old_of e) (Some n)) earlier)
    (λ n. list_any (λ (e : RegOp). are_one (new_of e) (Some n)) earlier) op) (misses_by p q op))
    (fun_ext (λ (n : RegisterName). before_is n)) (fun_ext (λ (n : RegisterName). after_is n))
    ∙ ap (option_or (twice_by (λ n. list_any (λ (e : RegOp). are_one (old_of e) (Some n)) earlier)
    (λ n. list_any (λ (e : RegOp). are_one (new_of e) (Some n)) earlier) op)) (misses_greatest old new op)
