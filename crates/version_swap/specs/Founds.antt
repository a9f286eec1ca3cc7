-- What is found of files before units are built: their modules, the instances of their design, and the jobs of these.
use Rattle.std.specs.Prelude.{◌≡◌, ◌≤◌, ⊤, ℕ, List, length, map, Option, Some, None, Ok, Err}
use Rattle.ls_text.specs.declared.fault.Fault.{Fault}
use Rattle.ls_text.specs.declared.name_id.NameId.{NameId}
use Rattle.ls_text.specs.declared.refusal.Refusal.{Refusal}
use Rattle.ls_text.specs.declared.refusal.Refusal.TheVariants as refusal
use Rattle.ls_text.specs.declared.source_file.SourceFile.{SourceFile}
use Rattle.ls_text.specs.Readings.{TextFault, fault_view}
use Rattle.ls_text.specs.Texts.{Grows}
use Rattle.verilog_lex.specs.declared.token.Token.{Token}
use Rattle.verilog_lex.specs.Views.{said}
use Rattle.verilog_ast.specs.declared.module.Module.{Module}
use Rattle.verilog_ast.specs.Items.{ModuleDeclaration}
use Rattle.verilog_ast.specs.Views.{declarations_of}
use Rattle.verilog_expr.specs.Shown.{Refuses}
use Rattle.verilog_parse.specs.Files.{Stands, file}
use Rattle.module_names.specs.Modules.{module_named}
use Rattle.typed_ir.specs.declared.instance.Instance.{Instance}
use Rattle.elaborate.specs.Elaborated.{Standing, elaborated}
use Rattle.elaborate.specs.Trees.{all_seen}
use Rattle.elaborate.specs.TreeViews.{instance_view, language_limits}
use Rattle.module_registry.specs.declared.build_job.BuildJob.{BuildJob}
use Rattle.unit_jobs.specs.Jobs.{tree_jobs}
use Rattle.unit_jobs.specs.JobViews.{job_view}
use Rattle.version_swap.specs.Texts.{file_tokens}

-- the modules that files stand for, whose names are those of a table
pub record AreModules (names : List (List ℕ)) (files : List SourceFile) (ms : List Module) : Type 0 where
  pub tokens : List Token
  pub read : file_tokens files ≡ Ok (map (said names) tokens)
  pub stands : Stands names ms tokens

-- the first fault of files by themselves
pub data IsReadFault (names : List (List ℕ)) (files : List SourceFile) : TextFault → Type 0 where
  -- 10, 12, 13, 14
  at_text : {f : TextFault} → file_tokens files ≡ Err f → IsReadFault names files f
  -- 15, 16, 38
  at_grammar : {tokens : List Token} {f : Fault} → file_tokens files ≡ Ok (map (said names) tokens) → Refuses file tokens (refusal.Fault f)
      → IsReadFault names files (fault_view names f)

-- such a fault, or want of memory
abbrev pub IsReadRefusal : (names : List (List ℕ)) → List SourceFile → Refusal → Type 0
IsReadRefusal names files (refusal.Fault f) = IsReadFault names files (fault_view names f)
IsReadRefusal names files refusal.NoMemory = ⊤

-- the number of the top's name; where none is given, one that no module has
abbrev pub IsTop : Option NameId → List ModuleDeclaration → ℕ → Type 0
IsTop (Some name) ms top = top ≡ name.0
IsTop None ms top = module_named top ms ≡ None

-- modules with the number of their top; `texts` is the table of their names
pub record HasModules (texts : List (List ℕ)) (files : List SourceFile) (name : Option NameId) (ms : List Module) (top : ℕ) : Type 0 where
  pub few : length files ≤ 256
  pub modules : AreModules texts files ms
  pub is_top : IsTop name (declarations_of ms) top

-- the instances that elaboration finds, as they are listed, and their jobs, with names of one table. That of the modules, `texts`, begins
-- `known`, where the jobs are made, and this begins the whole
pub record AreFound (names : List (List ℕ)) (files : List SourceFile) (name : Option NameId) (clock : NameId) (xs : List Instance)
    (js : List BuildJob)
    : Type 0 where
  pub texts : List (List ℕ)
  pub known : List (List ℕ)
  pub ms : List Module
  pub top : ℕ
  pub all : List Standing
  pub has : HasModules texts files name ms top
  pub found : elaborated language_limits (declarations_of ms) top clock.0 ≡ Ok all
  pub listed : map (instance_view names) xs ≡ all_seen names all
  pub jobs : tree_jobs known ms xs ≡ Ok (map (job_view names) js)
  pub grown : Grows texts known
  pub grows : Grows known names
