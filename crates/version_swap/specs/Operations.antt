-- The faults of an edit: those of its files, and behind these those of its operations on registers.
use Rattle.std.specs.Prelude.{◌≡◌, ℕ, ⊤, List, [], ◌∷◌, ◌++◌, map, codes, slice_index_or, Option, Some, None, Ok, Err}
use Rattle.ls_text.specs.Readings.{TextFault, fault_view}
use Rattle.ls_text.specs.Texts.{text_at}
use Rattle.ls_text.specs.declared.at.At.TheVariants.{Line}
use Rattle.ls_text.specs.declared.name_id.NameId.{NameId}
use Rattle.ls_text.specs.declared.refusal.Refusal.{Refusal}
use Rattle.ls_text.specs.declared.refusal.Refusal.TheVariants as refusal
use Rattle.ls_text.specs.declared.source_file.SourceFile.{SourceFile}
use Rattle.module_registry.specs.Keys.{KeyData}
use Rattle.reg_ops.specs.declared.reg_op.RegOp.{RegOp}
use Rattle.reg_transform.specs.OperationFaults.{AreValid, RefusedOperation, operations_fault}
use Rattle.reg_transform.specs.Registers.{Register, RegisterName}
use Rattle.cycle_eval.specs.Designs.{design_flat}
use Rattle.cycle_eval.specs.Kits.{regs_of}
use Rattle.cycle_eval.specs.declared.design.Design.{Design}
use Rattle.command_read.specs.declared.op_line.OpLine.{OpLine}
use Rattle.version_swap.specs.Behind.{design_of}
use Rattle.version_swap.specs.Plans.{Plans}

-- before the first edit there are no registers
abbrev pub registers_of : Option Design → List Register
registers_of None = []
registers_of (Some design) = regs_of (design_flat design)

-- operations without their lines
abbrev pub ops_of : List OpLine → List RegOp
ops_of lines = map (λ (o : OpLine). o.op) lines

-- no operation of these breaks a condition between a design and the next one
abbrev pub AreValidBetween : Option Design → Design → List OpLine → Type 0
AreValidBetween old new lines = AreValid (registers_of old) (regs_of (design_flat new)) (ops_of lines)

-- the first that breaks one
abbrev pub first_refused : Option Design → Design → List OpLine → Option RefusedOperation
first_refused old new lines = operations_fault (registers_of old) (regs_of (design_flat new)) [] (ops_of lines)

-- `module.register`
abbrev pub qualified_text : (names : List (List ℕ)) → RegisterName → List ℕ
qualified_text names r = text_at names r.in_module ++ codes "." ++ text_at names r.name

-- at the operation's line, with its register
abbrev pub operation_fault : (names : List (List ℕ)) → List OpLine → RefusedOperation → TextFault
operation_fault names lines r = record {
  code = r.fault.code;
  at = Line (slice_index_or (map (λ (o : OpLine). o.line) lines) r.index 0);
  words = qualified_text names r.fault.shown ∷ [];
}

pub data IsEditFault (names : List (List ℕ)) (files : List SourceFile) (top : Option NameId) (clock : NameId) (old : Option Design)
    (lines : List OpLine) : TextFault → Type 0 where
  -- a fault of the files
  in_files : {f : TextFault} → Plans names files top clock (Err f) → IsEditFault names files top clock old lines f
  -- 50 to 55, where the files have a design
  at_operation : (design : Design) (keys : List KeyData) {refused : RefusedOperation} → Plans names files top clock (Ok (design_of design keys))
      → first_refused old design lines ≡ Some refused → IsEditFault names files top clock old lines (operation_fault names lines refused)

-- the first fault of the edit, or want of memory
abbrev pub IsEditRefusal : (names : List (List ℕ)) → List SourceFile → Option NameId → (clock : NameId) → Option Design → List OpLine → Refusal
    → Type 0
IsEditRefusal names files top clock old lines (refusal.Fault f) = IsEditFault names files top clock old lines (fault_view names f)
IsEditRefusal names files top clock old lines refusal.NoMemory = ⊤

-- one operation that breaks a condition, by the table of names
abbrev pub IsOperationRefusal : (names : List (List ℕ)) → Option Design → Design → List OpLine → Refusal → Type 0
IsOperationRefusal names old new lines (refusal.Fault f) =
    (refused : RefusedOperation) × (first_refused old new lines ≡ Some refused) × (fault_view names f ≡ operation_fault names lines refused)
IsOperationRefusal names old new lines refusal.NoMemory = ⊤
