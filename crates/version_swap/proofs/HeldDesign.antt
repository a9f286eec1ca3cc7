-- The units that a registry gives under the keys of a design's jobs stand in its tree, and are linked to its flat design.
use Rattle.std.proofs.Common.{Global, ◌≡◌, ℕ, true, false, List, ◌∷◌, All, length, map, sym, ◌∙◌, refl, subst}
use Rattle.std.specs.List.{AllZip}
use Rattle.std.specs.declared.sync.Arc.{Arc}
use Rattle.std.proofs.lemmas.List.Elements.{All-weaker}
use Rattle.typed_ir.specs.Cycles.{Flat}
use Rattle.typed_ir.specs.Orders.{Member, at_or}
use Rattle.verilog_ast.specs.declared.module.Module.{Module}
use Rattle.typed_ir.specs.declared.instance.Instance.{Instance}
use Rattle.typed_ir.specs.declared.unit.Unit.{Unit as ModuleUnit}
use Rattle.typed_ir.specs.Instances.{is_depth_first, parent_of}
use Rattle.typed_ir.specs.Shapes.{AreOf}
use Rattle.typed_ir.specs.Trees.{Instances, flat_of_tree}
use Rattle.comb_order.specs.Loops.{IsLoop}
use Rattle.comb_order.specs.Refusals.{NodeBefore}
use Rattle.link.specs.Listings.{IsTreeOf, all_parts}
use Rattle.link.specs.Names.{has_target}
use Rattle.link.proofs.Forests.{tree_of}
use Rattle.link.proofs.Sound.{same_long}
use Rattle.elaborate.specs.TreeViews.{language_limits}
use Rattle.module_registry.specs.declared.build_job.BuildJob.{BuildJob}
use Rattle.module_registry.specs.Entries.{Entry}
use Rattle.module_registry.specs.Keys.{KeyData, jobs_of}
use Rattle.unit_jobs.specs.JobViews.{job_view}
use Rattle.version_swap.specs.JobUnits.{IsUnitOf}
use Rattle.version_swap.proofs.StandingUnits.{units_stand}
use Rattle.version_swap.proofs.TreeJobs.{language_turns, seen_of}
use Rattle.version_swap.specs.DesignCopies.{NameTables}
use Rattle.version_swap.specs.Held.{AreHeldUnder, AreUnder, IsKeyUnder}
use Rattle.version_swap.specs.JobsUnder.{IsJobUnder}
use Rattle.version_swap.specs.Spelled.{IsSpelledUnder}
use Rattle.version_swap.specs.TreeJobs.{AreJobsIn, IsFlatIn}
use Rattle.version_swap.proofs.DesignCopies.{design_is_linked}
use Rattle.version_swap.proofs.GrownSpelling.{grown_spelled}
use Rattle.version_swap.proofs.HeldUnits.{units_of_jobs}
use Rattle.version_swap.proofs.OneTable.{by_one_table, seen_by_one}
use Rattle.version_swap.proofs.ShownDesigns.{linked_named}
use Rattle.version_swap.proofs.TreeJobsUnder.{jobs_under}

module _ (texts known names : List (List ℕ)) (ms : List Module) (top clock : ℕ) (xs : List Instance) (js : List BuildJob)
    (h : AreJobsIn texts known names ms top clock xs js) where
  pub jobs_are_under : All (IsJobUnder names) js
  jobs_are_under =
      jobs_under language_limits texts known known names ms top clock xs (map (job_view names) js) js h.spelled h.grows
      (All-weaker (IsSpelledUnder texts) (IsSpelledUnder known) (λ m is. grown_spelled texts known h.grown m is) ms h.spelled) h.grows
      language_turns h.elaborated h.jobs refl h.within

  module _ (keys : List KeyData) (es : List Entry) (units : List (Arc ModuleUnit Global)) (of_jobs : jobs_of keys ≡ js)
      (made : All (IsKeyUnder names) keys) (held : AreHeldUnder names es) (are : AreUnder es keys units) where
    units_built : AllZip IsUnitOf js (all_parts units)
    units_built =
        subst (λ (jobs : List BuildJob). AllZip IsUnitOf jobs (all_parts units)) of_jobs
        (units_of_jobs names h.once es keys units held made (subst (All (IsJobUnder names)) (sym of_jobs) jobs_are_under) are)

    pub they_stand : AreOf xs 0 xs (all_parts units)
    they_stand =
        let s = seen_of language_limits texts known ms top clock xs h.elaborated in
        units_stand language_limits texts known known names ms top clock s.all xs (map (job_view names) js) js (all_parts units)
        language_turns s.elaborates s.same h.jobs refl units_built

    pub they_are_flat : (design : Flat) → is_depth_first (map parent_of xs) ≡ true
        → ((t : Instances) → IsTreeOf xs (all_parts units) t → design ≡ flat_of_tree t)
        → IsFlatIn names ms top clock xs design
    they_are_flat design first linked =
        let s = seen_of language_limits texts known ms top clock xs h.elaborated in
        let found = tree_of xs (all_parts units) first (same_long xs 0 xs (all_parts units) they_stand) in
        let tables : NameTables = record { texts = texts; known = known; others = known; words = names } in
        let d = design_is_linked language_limits tables ms top clock s.all xs (map (job_view names) js) js (all_parts units) found.tree
        language_turns s.elaborates s.same h.jobs refl units_built found.is in
        record {
          all = s.all;
          found = s.elaborates;
          seen = seen_by_one language_limits texts known names ms h.grown h.grows h.spelled top clock s.all xs s.elaborates s.same;
          copies = d.copies;
          are_copies = by_one_table language_limits texts known names ms h.grown h.grows h.spelled top clock s.all xs s.elaborates d.copies
              d.are_copies;
          same = linked found.tree found.is ∙ d.linked;
        }

    pub they_are_named : (design : Flat) (first : ℕ) (rest : List ℕ) → is_depth_first (map parent_of xs) ≡ true
        → ((t : Instances) → IsTreeOf xs (all_parts units) t → design ≡ flat_of_tree t)
        → IsLoop (NodeBefore design.nodes) (length design.nodes) first rest
        → (k : ℕ) → Member k (first ∷ rest) → at_or has_target false design.nodes k ≡ true
    they_are_named design first rest order linked loop =
        let found = tree_of xs (all_parts units) order (same_long xs 0 xs (all_parts units) they_stand) in
        linked_named xs js (all_parts units) found.tree design first rest units_built they_stand found.is (linked found.tree found.is) loop
