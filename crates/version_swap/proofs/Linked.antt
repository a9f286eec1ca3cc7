-- The design that is linked of units which a registry holds under the keys of jobs, as copies of the modules.
use Rattle.std.proofs.Common.{Global, ◌≡◌, ℕ, true, List, [], ◌∷◌, All, map, refl, sym, ◌∙◌, ap, subst}
use Rattle.std.specs.Prelude.{Option}
use Rattle.std.specs.List.{AllZip}
use Rattle.std.specs.declared.sync.Arc.{Arc}
use Rattle.std.proofs.lemmas.List.Elements.{All-nil, All-cons}
use Rattle.ls_text.specs.declared.name_id.NameId.{NameId}
use Rattle.ls_text.specs.declared.source_file.SourceFile.{SourceFile}
use Rattle.verilog_ast.specs.Views.{declarations_of}
use Rattle.typed_ir.specs.declared.instance.Instance.{Instance}
use Rattle.typed_ir.specs.declared.unit.Unit.{Unit as ModuleUnit}
use Rattle.typed_ir.specs.Instances.{is_depth_first, parent_of}
use Rattle.typed_ir.specs.Shapes.{AreOf}
use Rattle.typed_ir.specs.Trees.{Instances, flat_of_tree}
use Rattle.elaborate.specs.TreeViews.{language_limits}
use Rattle.link.specs.Listings.{IsTreeOf, all_parts}
use Rattle.module_registry.specs.declared.build_job.BuildJob.{BuildJob}
use Rattle.module_registry.specs.Entries.{Entry}
use Rattle.module_registry.specs.Keys.{KeyData, jobs_of}
use Rattle.unit_jobs.specs.JobViews.{job_view}
use Rattle.version_swap.specs.JobUnits.{IsUnitOf}
use Rattle.version_swap.specs.Copies.{Copies}
use Rattle.version_swap.specs.DesignCopies.{NameTables, AreCopiesIn}
use Rattle.version_swap.specs.Flat.{flat}
use Rattle.version_swap.specs.Held.{AreHeldUnder, AreUnder, IsKeyUnder}
use Rattle.version_swap.specs.JobsUnder.{IsJobUnder}
use Rattle.version_swap.specs.FirstKeys.{key_of}
use Rattle.version_swap.specs.FoundUnder.{IsFoundUnder}
use Rattle.version_swap.proofs.Firsts.{jobs_behind}
use Rattle.link.proofs.Forests.{tree_of}
use Rattle.link.proofs.Sound.{same_long}
use Rattle.version_swap.proofs.TreeJobs.{language_turns}
use Rattle.version_swap.specs.TreeJobs.{one_table}
use Rattle.version_swap.proofs.DesignCopies.{design_is_linked}
use Rattle.version_swap.proofs.HeldDesign.{jobs_are_under, they_stand}
use Rattle.version_swap.proofs.HeldUnits.{units_of_jobs}
use Rattle.version_swap.proofs.OneTable.{by_one_table}

-- the keys of jobs are keys under the table
keys_under : (names : List (List ℕ)) (js : List BuildJob) → All (IsKeyUnder names) (map (key_of names) js)
keys_under names [] = All-nil (IsKeyUnder names)
keys_under names (j ∷ js) =
    All-cons (IsKeyUnder names) (key_of names j) (map (key_of names) js) (record { text = refl; digest = refl }) (keys_under names js)

module _ (words : List (List ℕ)) (files : List SourceFile) (name : Option NameId) (clock : NameId) (xs : List Instance) (js : List BuildJob)
    (x : IsFoundUnder words files name clock xs js) where
  abbrev tables : NameTables
  tables = record { texts = x.found.texts; known = x.found.known; others = x.found.known; words = words }

  pub jobs_under : All (IsJobUnder words) js
  jobs_under = jobs_are_under x.found.texts x.found.known words x.found.ms x.found.top clock.0 xs js x.known

  module _ (keys : List KeyData) (are : keys ≡ map (key_of words) js) where
    pub of_jobs : jobs_of keys ≡ js
    of_jobs = ap jobs_of are ∙ jobs_behind words js

    pub are_under : All (IsKeyUnder words) keys
    are_under = subst (All (IsKeyUnder words)) (sym are) (keys_under words js)

    pub key_jobs_under : All (IsJobUnder words) (jobs_of keys)
    key_jobs_under = subst (All (IsJobUnder words)) (sym of_jobs) jobs_under

    module _ (es : List Entry) (held : AreHeldUnder words es) where
      pub units_stand : (units : List (Arc ModuleUnit Global)) → AreUnder es keys units → AreOf xs 0 xs (all_parts units)
      units_stand units under =
          they_stand x.found.texts x.found.known words x.found.ms x.found.top clock.0 xs js x.known keys es units of_jobs are_under held under

      -- the tree of these units, and the copies whose flat design it has
      pub record HasDesign (units : List (Arc ModuleUnit Global)) : Type 0 where
        pub tree : Instances
        pub is : IsTreeOf xs (all_parts units) tree
        pub copies : Copies
        pub are_copies : AreCopiesIn language_limits.turns (declarations_of x.found.ms) (one_table words) xs x.found.all copies
        pub linked : flat_of_tree tree ≡ flat copies

      pub has_design : is_depth_first (map parent_of xs) ≡ true → (units : List (Arc ModuleUnit Global)) → AreUnder es keys units → HasDesign units
      has_design first units under =
          let built : AllZip IsUnitOf js (all_parts units) = subst (λ (jobs : List BuildJob). AllZip IsUnitOf jobs (all_parts units)) of_jobs
          (units_of_jobs words x.known.once es keys units held are_under key_jobs_under under) in
          let found = tree_of xs (all_parts units) first (same_long xs 0 xs (all_parts units) (units_stand units under)) in
          let d = design_is_linked language_limits tables x.found.ms x.found.top clock.0 x.found.all xs (map (job_view words) js) js
          (all_parts units) found.tree
          language_turns x.found.found x.seen x.found.jobs refl built found.is in
          record {
            tree = found.tree;
            is = found.is;
            copies = d.copies;
            are_copies = by_one_table language_limits x.found.texts x.found.known words x.found.ms x.known.grown x.known.grows x.known.spelled
                x.found.top clock.0 x.found.all xs x.found.found d.copies d.are_copies;
            linked = d.linked;
          }
