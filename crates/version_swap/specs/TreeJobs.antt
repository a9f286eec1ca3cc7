-- What is known of a design from its parsed modules to the jobs of its tree, and of the flat design that is linked of these.
use Rattle.std.specs.Prelude.{◌≡◌, ℕ, List, map, Ok}
use Rattle.std.specs.List.{All}
use Rattle.ls_text.specs.Texts.{Grows, HasEachOnce}
use Rattle.typed_ir.specs.Cycles.{Flat}
use Rattle.verilog_ast.specs.declared.module.Module.{Module}
use Rattle.verilog_ast.specs.Views.{declarations_of}
use Rattle.typed_ir.specs.declared.instance.Instance.{Instance}
use Rattle.elaborate.specs.Elaborated.{Standing, elaborated}
use Rattle.elaborate.specs.Trees.{all_seen, tree}
use Rattle.elaborate.specs.TreeViews.{instance_view, language_limits}
use Rattle.module_registry.specs.declared.build_job.BuildJob.{BuildJob}
use Rattle.unit_jobs.specs.Jobs.{tree_jobs}
use Rattle.unit_jobs.specs.JobViews.{job_view}
use Rattle.version_swap.specs.Copies.{Copies}
use Rattle.version_swap.specs.DesignCopies.{NameTables, AreCopiesIn}
use Rattle.version_swap.specs.Flat.{flat}
use Rattle.version_swap.specs.InstancesTold.{HasNamesIn}
use Rattle.version_swap.specs.Spelled.{IsSpelledUnder}

-- the jobs of the instances of a design. `texts` is the table of names where its modules were parsed, `known` the one behind elaboration, and
-- `names` the one behind the jobs
pub record AreJobsIn (texts known names : List (List ℕ)) (ms : List Module) (top clock : ℕ) (xs : List Instance) (js : List BuildJob)
    : Type 0 where
  pub spelled : All (IsSpelledUnder texts) ms
  -- the instances are those of elaboration
  pub elaborated : tree language_limits texts (declarations_of ms) top clock ≡ Ok (map (instance_view known) xs)
  -- the jobs are those of the instances
  pub jobs : tree_jobs known ms xs ≡ Ok (map (job_view names) js)
  pub within : All (HasNamesIn names) js
  -- a table only grows, and has each text once
  pub grown : Grows texts known
  pub grows : Grows known names
  pub once : HasEachOnce names

-- one table in which all names are read
abbrev pub one_table : List (List ℕ) → NameTables
one_table names = record { texts = names; known = names; others = names; words = names }

-- the flat design is that of copies of the modules, one for each instance that elaboration finds (IEEE Std 1364-2005, 12.1.2)
pub record IsFlatIn (names : List (List ℕ)) (ms : List Module) (top clock : ℕ) (xs : List Instance) (design : Flat) : Type 0 where
  pub all : List Standing
  pub found : elaborated language_limits (declarations_of ms) top clock ≡ Ok all
  -- these are the instances
  pub seen : map (instance_view names) xs ≡ all_seen names all
  pub copies : Copies
  pub are_copies : AreCopiesIn language_limits.turns (declarations_of ms) (one_table names) xs all copies
  pub same : design ≡ flat copies
