-- An edit whose operations are checked behind its files: what is known of these by a table of names that has grown.
use Rattle.std.proofs.Common.{◌≡◌, ℕ, List, length, sym, subst}
use Rattle.std.specs.Prelude.{Option, Result, Ok, Err}
use Rattle.std.proofs.lemmas.List.Elements.{All-weaker}
use Rattle.ls_text.specs.declared.name_id.NameId.{NameId}
use Rattle.ls_text.specs.declared.refusal.Refusal.{Refusal}
use Rattle.ls_text.specs.declared.refusal.Refusal.TheVariants as refusal
use Rattle.ls_text.specs.declared.source_file.SourceFile.{SourceFile}
use Rattle.ls_text.specs.Readings.{TextFault, fault_view}
use Rattle.ls_text.specs.Texts.{Grows}
use Rattle.ls_text.proofs.Growth.{grown_id, grows_on}
use Rattle.module_registry.specs.declared.build_job.BuildJob.{BuildJob}
use Rattle.module_registry.specs.Keys.{KeyData}
use Rattle.reg_ops.specs.declared.reg_op.RegOp.{RegOp}
use Rattle.reg_ops.specs.declared.reg_op.RegOp.TheVariants.{Rename, Create, Delete}
use Rattle.reg_ops.specs.Operations.{HasNames}
use Rattle.cycle_eval.specs.declared.design.Design.{Design}
use Rattle.command_read.specs.declared.op_line.OpLine.{OpLine}
use Rattle.command_read.specs.Spoken.{AreOpsWithin}
use Rattle.version_swap.specs.Behind.{design_of}
use Rattle.version_swap.specs.Made.{MadeBehind}
use Rattle.version_swap.specs.Operations.{IsEditFault, IsEditRefusal, IsOperationRefusal, at_operation, in_files}
use Rattle.version_swap.specs.Plans as plans
use Rattle.version_swap.specs.Plans.{DesignOfTexts, IsPlanRefusal, Plans}

-- ---- names of operations are of the table that has grown

op_grown : (old new : List (List ℕ)) (op : RegOp) → Grows old new → HasNames (length old) op → HasNames (length new) op
op_grown old new (Rename in_module from to) grows within =
    (grown_id old new in_module.0 grows within.0, grown_id old new from.0 grows within.1, grown_id old new to.0 grows within.2)
op_grown old new (Create in_module reg value) grows within =
    (grown_id old new in_module.0 grows within.0, grown_id old new reg.0 grows within.1)
op_grown old new (Delete in_module reg) grows within =
    (grown_id old new in_module.0 grows within.0, grown_id old new reg.0 grows within.1)

pub ops_grown : (old new : List (List ℕ)) (slice lines : List OpLine) → Grows old new → slice ≡ lines → AreOpsWithin (length old) lines
    → AreOpsWithin (length new) slice
ops_grown old new slice lines grows same within =
    subst (AreOpsWithin (length new)) (sym same)
    (All-weaker (λ (o : OpLine). HasNames (length old) o.op) (λ (o : OpLine). HasNames (length new) o.op)
    (λ (o : OpLine) (is : HasNames (length old) o.op). op_grown old new o.op grows is) lines within)

-- ---- the design of the files

-- by the table that has grown too
pub grown_plan : (old new : List (List ℕ)) (files : List SourceFile) (top : Option NameId) (clock : NameId) (d : DesignOfTexts)
    → Grows old new → Plans old files top clock (Ok d) → Plans new files top clock (Ok d)
grown_plan old new files top clock d more (plans.made {words = words} h grows linked small) =
    plans.made h (grows_on words old new grows more) linked small

-- with keys and files that are the same
pub plan_behind : (old new : List (List ℕ)) (all slice files : List SourceFile) (top : Option NameId) (clock : NameId) (design : Design)
    (keys others : List KeyData) → Grows old new → slice ≡ all → files ≡ all → others ≡ keys → Plans old slice top clock (Ok (design_of design keys))
    → Plans new files top clock (Ok (design_of design others))
plan_behind old new all slice files top clock design keys others grows same are is planned =
    subst (λ (ks : List KeyData). Plans new files top clock (Ok (design_of design ks))) (sym is)
    (subst (λ (fs : List SourceFile). Plans new fs top clock (Ok (design_of design keys))) (sym are)
    (subst (λ (fs : List SourceFile). Plans new fs top clock (Ok (design_of design keys))) same
    (grown_plan old new slice top clock (design_of design keys) grows planned)))

-- ---- refusals, with files, top and clock that are the same

module _ (names : List (List ℕ)) (all files : List SourceFile) (name top : Option NameId) (tick clock : NameId) (are : all ≡ files)
    (named : name ≡ top) (clocked : tick ≡ clock) where
  plans_here : (r : Result DesignOfTexts TextFault) → Plans names all name tick r → Plans names files top clock r
  plans_here r is =
      subst (λ (c : NameId). Plans names files top c r) clocked
      (subst (λ (n : Option NameId). Plans names files n tick r) named
      (subst (λ (fs : List SourceFile). Plans names fs name tick r) are is))

  pub made_here : (held : List KeyData) (before after : List BuildJob) (e : Refusal) → MadeBehind all name tick held before after e
      → MadeBehind files top clock held before after e
  made_here held before after e is =
      subst (λ (c : NameId). MadeBehind files top c held before after e) clocked
      (subst (λ (n : Option NameId). MadeBehind files n tick held before after e) named
      (subst (λ (fs : List SourceFile). MadeBehind fs name tick held before after e) are is))

  module _ (old : Option Design) (lines : List OpLine) where
    -- a fault of the files
    pub files_refused : (e : Refusal) → IsPlanRefusal names all name tick e → IsEditRefusal names files top clock old lines e
    files_refused (refusal.Fault f) is = in_files (plans_here (Err (fault_view names f)) is)
    files_refused refusal.NoMemory is = tt

    -- a fault of an operation
    pub operation_refused : (table : List (List ℕ)) (design : Design) (keys : List KeyData) (slice : List OpLine) (e : Refusal) → Grows table names
        → slice ≡ lines → Plans table all name tick (Ok (design_of design keys)) → IsOperationRefusal names old design slice e
        → IsEditRefusal names files top clock old lines e
    operation_refused table design keys slice (refusal.Fault f) grows same planned is =
        let told = subst (λ (ls : List OpLine). IsOperationRefusal names old design ls (refusal.Fault f)) same is in
        subst (IsEditFault names files top clock old lines) (sym told.2)
        (at_operation design keys (plans_here (Ok (design_of design keys))
        (grown_plan table names all name tick (design_of design keys) grows planned)) told.1)
    operation_refused table design keys slice refusal.NoMemory grows same planned is = tt
