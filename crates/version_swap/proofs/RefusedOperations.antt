-- The first operation that is refused: its place, and the names of its register.
use Rattle.std.proofs.Common.{◌≡◌, ◌∙◌, ◌<◌, ◌+◌, ℕ, Bool, true, false, not, List, [], ◌∷◌, ◌++◌, All, length, map, cond}
use Rattle.std.proofs.Common.{sym, ap, ap₂, subst, arith}
use Rattle.std.specs.Prelude.{Option, Some, None, IfSome, slice_index_or, codes}
use Rattle.std.specs.List.{list_any}
use Rattle.std.specs.Option.{option_or}
use Rattle.std.proofs.lemmas.List.{length-append, length-map}
use Rattle.std.proofs.lemmas.List.Elements.{All-head, All-tail, All-map}
use Rattle.ls_text.specs.declared.at.At.TheVariants.{Line}
use Rattle.ls_text.specs.Readings.{TextFault}
use Rattle.ls_text.specs.Texts.{Grows}
use Rattle.ls_text.proofs.Growth.{grown_text}
use Rattle.reg_ops.specs.declared.reg_op.RegOp.{RegOp}
use Rattle.reg_ops.specs.declared.reg_op.RegOp.TheVariants.{Rename, Create, Delete}
use Rattle.reg_ops.specs.Operations.{HasNames}
use Rattle.reg_transform.specs.declared.op_fault.OpFault.{OpFault}
use Rattle.reg_transform.specs.declared.op_refusal.OpRefusal.{OpRefusal}
use Rattle.reg_transform.specs.declared.op_refusal.OpRefusal.TheVariants.{Breaks}
use Rattle.reg_transform.specs.OperationFaults.{OperationFault, RefusedOperation, are_one, old_of, new_of, fault_if, twice, has, is_too_wide}
use Rattle.reg_transform.specs.OperationFaults.{misses, operation_fault, operations_fault, first_refused}
use Rattle.reg_transform.specs.Refusals.{Refuses, refused_of}
use Rattle.reg_transform.specs.Registers.{Register, RegisterName}
use Rattle.command_read.specs.declared.op_line.OpLine.{OpLine}
use Rattle.command_read.specs.Spoken.{AreOpsWithin}
use Rattle.version_swap.specs.Operations.{operation_fault as shown_fault, ops_of, qualified_text}

-- ---- the register that is shown is one that the operation names

module _ (count : ℕ) where
  pub record IsNameIn (name : RegisterName) : Type 0 where
    pub in_module : name.in_module < count
    pub register : name.name < count

  abbrev IsShown : Option OperationFault → Type 0
  IsShown fault = IfSome fault (λ (f : OperationFault). IsNameIn f.shown)

  abbrev IsNamed : Option RegisterName → Type 0
  IsNamed name = IfSome name IsNameIn

  either_shown : (one other : Option OperationFault) → IsShown one → IsShown other → IsShown (option_or one other)
  either_shown None other here there = there
  either_shown (Some f) other here there = here

  tested : (b : Bool) (code : ℕ) (name : RegisterName) → IsNameIn name
      → IsShown (cond b (Some (record { code = code; shown = name })) None)
  tested true code name within = within
  tested false code name within = tt

  if_shown : (code : ℕ) (test : RegisterName → Bool) (name : Option RegisterName) → IsNamed name → IsShown (fault_if code test name)
  if_shown code test None within = tt
  if_shown code test (Some name) within = tested (test name) code name within

  old_named : (op : RegOp) → HasNames count op → IsNamed (old_of op)
  old_named (Rename in_module from to) within = record { in_module = within.0; register = within.1 }
  old_named (Create in_module reg value) within = tt
  old_named (Delete in_module reg) within = record { in_module = within.0; register = within.1 }

  new_named : (op : RegOp) → HasNames count op → IsNamed (new_of op)
  new_named (Rename in_module from to) within = record { in_module = within.0; register = within.2 }
  new_named (Create in_module reg value) within = record { in_module = within.0; register = within.1 }
  new_named (Delete in_module reg) within = tt

  -- its place is below this one
  pub record IsRefusedIn (most : ℕ) (refused : RefusedOperation) : Type 0 where
    pub index : refused.index < most
    pub shown : IsNameIn refused.fault.shown

  abbrev IsFirst : ℕ → Option RefusedOperation → Type 0
  IsFirst most refused = IfSome refused (IsRefusedIn most)

  first_in : (index most : ℕ) (fault : Option OperationFault) (rest : Option RefusedOperation) → index < most → IsShown fault
      → IsFirst most rest → IsFirst most (first_refused index fault rest)
  first_in index most None rest below here there = there
  first_in index most (Some f) rest below here there = record { index = below; shown = here }

  module _ (old new : List Register) where
    misses_shown : (op : RegOp) → HasNames count op → IsShown (misses old new op)
    misses_shown (Rename in_module from to) within =
        let op = Rename in_module from to in
        either_shown (fault_if 50 (λ name. not (has old name)) (old_of op)) (fault_if 51 (λ name. not (has new name)) (new_of op))
        (if_shown 50 (λ name. not (has old name)) (old_of op) (old_named op within))
        (if_shown 51 (λ name. not (has new name)) (new_of op) (new_named op within))
    misses_shown (Create in_module reg value) within =
        let op = Create in_module reg value in
        either_shown (fault_if 53 (λ name. not (has new name)) (new_of op)) (fault_if 55 (is_too_wide new value) (new_of op))
        (if_shown 53 (λ name. not (has new name)) (new_of op) (new_named op within))
        (if_shown 55 (is_too_wide new value) (new_of op) (new_named op within))
    misses_shown (Delete in_module reg) within =
        let op = Delete in_module reg in
        either_shown (fault_if 50 (λ name. not (has old name)) (old_of op)) (fault_if 54 (has new) (old_of op))
        (if_shown 50 (λ name. not (has old name)) (old_of op) (old_named op within))
        (if_shown 54 (has new) (old_of op) (old_named op within))

    twice_shown : (earlier : List RegOp) (op : RegOp) → HasNames count op → IsShown (twice earlier op)
    twice_shown earlier op within =
        let old_twice = λ (name : RegisterName). list_any (λ (e : RegOp). are_one (old_of e) (Some name)) earlier in
        let new_twice = λ (name : RegisterName). list_any (λ (e : RegOp). are_one (new_of e) (Some name)) earlier in
        either_shown (fault_if 52 old_twice (old_of op)) (fault_if 52 new_twice (new_of op))
        (if_shown 52 old_twice (old_of op) (old_named op within)) (if_shown 52 new_twice (new_of op) (new_named op within))

    fault_shown : (earlier : List RegOp) (op : RegOp) → HasNames count op → IsShown (operation_fault old new earlier op)
    fault_shown earlier op within =
        either_shown (twice earlier op) (misses old new op) (twice_shown earlier op within) (misses_shown op within)

    all_shown : (earlier ops : List RegOp) (most : ℕ) → length earlier + length ops ≡ most → All (HasNames count) ops
        → IsFirst most (operations_fault old new earlier ops)
    all_shown earlier [] most many within = tt
    all_shown earlier (o ∷ os) most many within =
        first_in (length earlier) most (operation_fault old new earlier o) (operations_fault old new (earlier ++ o ∷ []) os)
        (omega (arith, many)) (fault_shown earlier o (All-head (HasNames count) o os within))
        (all_shown (earlier ++ o ∷ []) os most (omega (arith, many, length-append earlier (o ∷ []))) (All-tail (HasNames count) o os within))

-- of operations with their lines, and within a table of so many names
pub record IsRefusedOf (count : ℕ) (old new : List Register) (lines : List OpLine) (f : OpFault) : Type 0 where
  pub first : operations_fault old new [] (ops_of lines) ≡ Some (refused_of f)
  pub within : IsRefusedIn count (length lines) (refused_of f)

pub refused_lines : (count : ℕ) (old new : List Register) (lines : List OpLine) (slice ops : List RegOp) (refusal : OpRefusal) (f : OpFault)
    → slice ≡ ops → ops ≡ ops_of lines → AreOpsWithin count lines → refusal ≡ Breaks f
    → Refuses refusal (operations_fault old new [] slice) → IsRefusedOf count old new lines f
refused_lines count old new lines slice ops refusal f same are within breaks says =
    let broken : operations_fault old new [] slice ≡ Some (refused_of f) =
    subst (λ (r : OpRefusal). Refuses r (operations_fault old new [] slice)) breaks says in
    let first : operations_fault old new [] (ops_of lines) ≡ Some (refused_of f) =
    sym (ap (operations_fault old new []) (same ∙ are)) ∙ broken in
    record {
      first = first;
      within = subst (λ (refused : Option RefusedOperation). IsFirst count (length lines) refused) first
          (all_shown count old new [] (ops_of lines) (length lines) (omega (arith, length-map lines (λ (o : OpLine). o.op)))
          (All-map (HasNames count) (λ (o : OpLine). o.op) lines within));
    }

-- ---- how it is shown

abbrev viewed : ℕ → ℕ → List (List ℕ) → TextFault
viewed code line words = record { code = code; at = Line line; words = words }

-- a table that has grown shows the same
pub grown_qualified : (old new : List (List ℕ)) (r : RegisterName) → Grows old new → IsNameIn (length old) r
    → qualified_text new r ≡ qualified_text old r
grown_qualified old new r grows within =
    ap₂ (λ (a b : List ℕ). a ++ codes "." ++ b) (grown_text old new r.in_module grows within.in_module)
    (grown_text old new r.name grows within.register)

-- by the table as it has grown
pub operation_shown : (old new : List (List ℕ)) (lines : List OpLine) (refused : RefusedOperation) (f : TextFault) → Grows old new
    → IsNameIn (length old) refused.fault.shown → f ≡ shown_fault old lines refused → f ≡ shown_fault new lines refused
operation_shown old new lines refused f grows within is =
    is ∙ ap (λ (t : List ℕ). viewed refused.fault.code (slice_index_or (map (λ (o : OpLine). o.line) lines) refused.index 0) (t ∷ []))
    (sym (grown_qualified old new refused.fault.shown grows within))
