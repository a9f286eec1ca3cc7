-- What the files of a version come to: its flat design with the texts of its keys, or the first fault. Names are those of a table that each of the
-- tables before it begins.
use Rattle.std.specs.Prelude.{◌≡◌, ◌<◌, ◌≤◌, ⊤, ℕ, List, [], map, length, Option, Result, Ok, Err}
use Rattle.ls_text.specs.declared.at.At.TheVariants.{Edit}
use Rattle.ls_text.specs.declared.fault.Fault.{Fault}
use Rattle.ls_text.specs.declared.name_id.NameId.{NameId}
use Rattle.ls_text.specs.declared.refusal.Refusal.{Refusal}
use Rattle.ls_text.specs.declared.refusal.Refusal.TheVariants as refusal
use Rattle.ls_text.specs.declared.source_file.SourceFile.{SourceFile}
use Rattle.ls_text.specs.Readings.{TextFault, fault_view}
use Rattle.ls_text.specs.Texts.{Grows}
use Rattle.typed_ir.specs.Cycles.{Flat}
use Rattle.verilog_ast.specs.declared.module.Module.{Module}
use Rattle.verilog_ast.specs.Views.{declarations_of}
use Rattle.typed_ir.specs.declared.instance.Instance.{Instance}
use Rattle.elaborate.specs.Elaborated.{elaborated}
use Rattle.elaborate.specs.TreeViews.{language_limits}
use Rattle.module_registry.specs.declared.build_job.BuildJob.{BuildJob}
use Rattle.module_registry.specs.Building.{Built, built_all}
use Rattle.module_registry.specs.Jobs.{job_text}
use Rattle.unit_build.specs.Building.{built}
use Rattle.version_swap.specs.Copies.{Copies}
use Rattle.version_swap.specs.DesignCopies.{AreCopiesIn}
use Rattle.version_swap.specs.Flat.{flat}
use Rattle.version_swap.specs.TreeJobs.{one_table}
use Rattle.link.specs.Faults.{IsLinkFault, HasNoLinkFault}
use Rattle.state_layout.specs.Words.{register_widths, words_of}
use Rattle.version_swap.specs.FirstKeys.{first_jobs}
use Rattle.version_swap.specs.Founds.{IsReadFault, HasModules, AreFound}

-- the design, and the key texts of the modules as they are used, each once, in the order of the first instance that has it
pub record DesignOfTexts : Type 0 where
  pub design : Flat
  pub keys : List (List ℕ)

-- 40, at the edit
abbrev pub too_many_fault : TextFault
too_many_fault = record { code = 40; at = Edit; words = [] }

-- copies of the modules of a version, each at its instance, all of whose modules are built without a fault
pub record AreCopies (words : List (List ℕ)) (files : List SourceFile) (name : Option NameId) (clock : NameId) (keys : List (List ℕ))
    (copies : Copies) : Type 0 where
  pub xs : List Instance
  pub js : List BuildJob
  pub found : AreFound words files name clock xs js
  pub units : List Built
  pub made : built_all built (first_jobs words [] js) ≡ Ok units
  pub texts : keys ≡ map (job_text words) (first_jobs words [] js)
  pub are_copies : AreCopiesIn language_limits.turns (declarations_of found.ms) (one_table words) xs found.all copies

-- each step with its first fault, and at last the design
pub data Plans (names : List (List ℕ)) (files : List SourceFile) (name : Option NameId) (clock : NameId) : Result DesignOfTexts TextFault
    → Type 0 where
  too_many : 256 < length files → Plans names files name clock (Err too_many_fault)
  at_text : {f : TextFault} → length files ≤ 256 → IsReadFault names files f → Plans names files name clock (Err f)
  -- 20 to 24, 27, 28, 30, 33, 37, 40, 41 and the faults of constants
  at_tree : {texts : List (List ℕ)} {ms : List Module} {top : ℕ} {f : Fault} → HasModules texts files name ms top → Grows texts names
      → elaborated language_limits (declarations_of ms) top clock.0 ≡ Err f → Plans names files name clock (Err (fault_view names f))
  -- 25, 26, 29 to 36
  at_unit : {words : List (List ℕ)} {xs : List Instance} {js : List BuildJob} {f : Fault} → AreFound words files name clock xs js → Grows words names
      → built_all built (first_jobs words [] js) ≡ Err f → Plans names files name clock (Err (fault_view names f))
  -- 39, 40
  at_link : {words keys : List (List ℕ)} {copies : Copies} {f : Fault} → AreCopies words files name clock keys copies → Grows words names
      → IsLinkFault 1048576 words names (flat copies) (refusal.Fault f) → Plans names files name clock (Err (fault_view names f))
  too_wide : {words keys : List (List ℕ)} {copies : Copies} → AreCopies words files name clock keys copies → Grows words names
      → HasNoLinkFault 1048576 (flat copies) → 65536 < words_of (register_widths (flat copies))
      → Plans names files name clock (Err too_many_fault)
  made : {words keys : List (List ℕ)} {copies : Copies} → AreCopies words files name clock keys copies → Grows words names
      → HasNoLinkFault 1048576 (flat copies) → words_of (register_widths (flat copies)) ≤ 65536
      → Plans names files name clock (Ok (record { design = flat copies; keys = keys }))

-- the first fault of the files, or want of memory
abbrev pub IsPlanRefusal : (names : List (List ℕ)) → List SourceFile → Option NameId → (clock : NameId) → Refusal → Type 0
IsPlanRefusal names files name clock (refusal.Fault f) = Plans names files name clock (Err (fault_view names f))
IsPlanRefusal names files name clock refusal.NoMemory = ⊤
