-- The copies that a table of instances has by its jobs are those of the design that was elaborated.
use Rattle.std.proofs.Common.{◌≡◌, ℕ, suc, true, List, [], ◌∷◌, map, Some, None, Ok, sym, ◌∙◌, ap, ap₂, subst}
use Rattle.std.specs.List.{All, AllZip}
use Rattle.std.specs.Option.{option_map}
use Rattle.std.proofs.lemmas.List.Elements.{All-head, All-tail}
use Rattle.std.proofs.lemmas.Option.{same_Some}
use Rattle.ls_text.specs.Texts.{text_at}
use Rattle.ls_text.proofs.Lists.{same_first, same_others}
use Rattle.typed_ir.specs.declared.constant.Const.{Const}
use Rattle.typed_ir.specs.Orders.{Each}
use Rattle.verilog_ast.specs.declared.module.Module.{Module}
use Rattle.verilog_ast.specs.Items.{ModuleDeclaration}
use Rattle.verilog_ast.specs.Views.{declaration_of, declarations_of}
use Rattle.typed_ir.specs.declared.instance.Instance.{Instance}
use Rattle.typed_ir.specs.declared.unit_parts.UnitParts.{UnitParts}
use Rattle.typed_ir.specs.Shapes.{children_of, shape_of}
use Rattle.typed_ir.specs.Trees.{Instances, flat_of_tree}
use Rattle.link.specs.Listings.{IsTreeOf}
use Rattle.link.proofs.Sound.{same_long}
use Rattle.gen_unroll.specs.Steps.{ModuleStep, blocks_in}
use Rattle.gen_unroll.specs.Unrolled.{unrolled_module, turn_limit}
use Rattle.gen_unroll.specs.Values.{constant_of}
use Rattle.gen_unroll.proofs.Answered.{ok_same}
use Rattle.clock_rules.specs.Views.{clock_view}
use Rattle.module_names.specs.Modules.{module_named}
use Rattle.elaborate.specs.declared.limits.Limits.{Limits}
use Rattle.elaborate.specs.Elaborated.{Standing, elaborated}
use Rattle.elaborate.specs.Trees.{TreeInstance, seen, all_seen}
use Rattle.elaborate.specs.TreeViews.{instance_view}
use Rattle.elaborate.specs.Visits.{visited}
use Rattle.gen_unroll.specs.Numbers.{module_table}
use Rattle.module_registry.specs.declared.build_job.BuildJob.{BuildJob}
use Rattle.unit_jobs.specs.BlockNames.{texts_within}
use Rattle.unit_jobs.specs.Jobs.{InstanceJob, steps_under, job_with, tree_jobs}
use Rattle.ls_text.specs.TextViews.{text_of}
use Rattle.unit_jobs.specs.JobViews.{job_view}
use Rattle.unit_build.specs.Building.{module_of, job_steps}
use Rattle.version_swap.specs.InstanceModules.{IsVisited}
use Rattle.version_swap.specs.JobUnits.{IsUnitOf}
use Rattle.version_swap.specs.Outer.{are_ports_outside}
use Rattle.version_swap.proofs.BlockNames.{same_names_within}
use Rattle.version_swap.proofs.CodeTrees.{code_stands}
use Rattle.version_swap.proofs.InstanceModules.{all_visited}
use Rattle.version_swap.proofs.KnownInstances.{IsKnown, side_by_side, same_module}
use Rattle.version_swap.proofs.Rerolled.{ports_stand_outside}
use Rattle.version_swap.proofs.StandingUnits.{units_stand}
use Rattle.version_swap.proofs.TreeJobs.{known_steps, steps_known, jobs_known, are_jobs_known, tree_known}
use Rattle.version_swap.proofs.VisitedAgain.{visited_again}
use Rattle.version_swap.specs.Copies.{ModuleCopy, Copies}
use Rattle.version_swap.specs.DesignCopies.{NameTables, IsCopyIn, AreEntriesIn, AreCopiesIn}
use Rattle.version_swap.specs.Flat.{flat}
use Rattle.version_swap.specs.TableCopies.{CopyEntry, copies_listed, IsCopyOf, AreCopiesOf, IsTableOf}
use Rattle.version_swap.proofs.TableTrees.{table_copies}
use Rattle.version_swap.proofs.TableUnits.{linked_is_flat}

-- ---- the steps of a job

-- they are those that the visit of its instance had
steps_visited : (ms : List ModuleDeclaration) (s : Standing) (v : IsVisited turn_limit ms s) (j : BuildJob) → v.declaration ≡ module_of j
    → map constant_of j.parameters ≡ s.visited.checks.parameters → job_steps j ≡ Ok (unrolled_module turn_limit s.overrides (module_of j)).said
unfolding job_steps
steps_visited ms s v j same parameters =
    visited_again turn_limit ms v.most (module_of j) s.overrides s.clock s.visited j.parameters (code_stands j.module.value.body)
    (ap (λ (m : ModuleDeclaration). visited turn_limit ms v.most m s.overrides s.clock) (sym same) ∙ v.found) parameters

-- and those under which its names are told
steps_named : (ms : List Module) (x : Instance) (known : IsKnown turn_limit ms x) (j : BuildJob) → j.module.value ≡ known.code
    → j.parameters ≡ x.parameters → job_steps j ≡ Ok (known_steps known)
unfolding job_steps
steps_named ms x known j code parameters =
    ap₂ (λ (m : Module) (cs : List Const). steps_under (declaration_of m.body) cs) code parameters
    ∙ steps_known ms x known

-- ---- an instance and its copy

abbrev IsSeenAs : NameTables → List Standing → Instance → Standing → Type 0
IsSeenAs t all x s = instance_view t.known x ≡ seen t.texts all s

-- the module of its job is the one that it names
module_found : (ms : List Module) (x : Instance) (name : ℕ) (known : IsKnown turn_limit ms x) (j : BuildJob) → x.of_module.0 ≡ name
    → j.module.value ≡ known.code → module_named name (declarations_of ms) ≡ Some (module_of j)
module_found ms x name known j is code =
    ap (λ (n : ℕ). module_named n (declarations_of ms)) (sym is) ∙ same_module x.of_module.0 ms
    ∙ ap (option_map (λ (m : Module). declaration_of m.body)) known.called
    ∙ ap (λ (m : Module). Some (declaration_of m.body)) (sym code)

copy_stands : (ms : List Module) (t : NameTables) (instances : List Instance) (all : List Standing) (k : ℕ) (x : Instance) (s : Standing)
    (e : CopyEntry) (j : BuildJob) (known : IsKnown turn_limit ms x) → IsVisited turn_limit (declarations_of ms) s → IsSeenAs t all x s
    → job_view t.words j ≡ job_with t.others x (map shape_of (children_of k instances)) known.code (known_steps known) → IsCopyOf e x j
    → IsCopyIn turn_limit (declarations_of ms) t instances all k e s
copy_stands ms t instances all k x s e j known v view same copy =
    let m = module_of j in
    let code : j.module.value ≡ known.code = ap (λ (i : InstanceJob). i.module) same in
    let parameters : j.parameters ≡ x.parameters = ap (λ (i : InstanceJob). i.parameters) same in
    let declared = module_found ms x s.instantiated known j (ap (λ (i : TreeInstance). i.instantiated) view) code in
    let is : e.copy.declaration ≡ m = ap (λ (c : ModuleCopy). c.declaration) copy.copied in
    let told = steps_visited (declarations_of ms) s v j (same_Some v.declaration m (sym v.named ∙ declared))
    (ap (map constant_of) parameters ∙ ap (λ (i : TreeInstance). i.parameters) view) in
    let steps : e.copy.steps ≡ (unrolled_module turn_limit s.overrides m).said = ok_same e.copy.steps _ (sym copy.steps ∙ told) in
    let outside = subst (λ (ss : List ModuleStep). are_ports_outside 0 ss ≡ true) (sym steps)
    (ports_stand_outside turn_limit s.overrides m (code_stands j.module.value.body)) in
    let named = ok_same (known_steps known) e.copy.steps (sym (steps_named ms x known j code parameters) ∙ copy.steps) in
    record {
      parent = copy.place ∙ ap (λ (i : TreeInstance). i.parent) view;
      name = ap (λ (c : ModuleCopy). text_at t.known c.name) copy.copied ∙ ap (λ (i : TreeInstance). i.name) view;
      declared = declared ∙ ap Some (sym is);
      unrolled = steps ∙ ap (λ (d : ModuleDeclaration). (unrolled_module turn_limit s.overrides d).said) (sym is);
      signals = ap (λ (d : ModuleDeclaration). module_table d e.copy.steps) is ∙ copy.signals;
      clock = ap (λ (c : ModuleCopy). clock_view c.clock) copy.copied ∙ ap (λ (i : InstanceJob). clock_view i.clock) same
          ∙ ap (λ (i : TreeInstance). i.clock) view;
      children = ap (λ (c : ModuleCopy). c.children) copy.copied ∙ ap (λ (i : InstanceJob). i.children) same;
      names = ap (λ (c : ModuleCopy). map (text_of t.words) c.names) copy.copied ∙ ap (λ (i : InstanceJob). i.names) same
          ∙ ap (λ (ss : List ModuleStep). texts_within t.others (blocks_in ss) [] ss) named
          ∙ same_names_within m e.copy.steps e.copy.table t.others outside copy.signals;
    }

-- ---- instances, one after another

copies_stand : (ms : List Module) (t : NameTables) (instances : List Instance) (all : List Standing) (k : ℕ) (xs : List Instance)
    (ss : List Standing) (es : List CopyEntry) (js : List BuildJob) (are : Each (IsKnown turn_limit ms) xs)
    → All (IsVisited turn_limit (declarations_of ms)) ss → AllZip (λ x s. instance_view t.known x ≡ seen t.texts all s) xs ss
    → map (job_view t.words) js ≡ jobs_known t.others ms instances k xs are → AreCopiesOf es xs js
    → AreEntriesIn turn_limit (declarations_of ms) t instances all k es ss
copies_stand ms t instances all k [] [] [] [] are v view same copies = tt
copies_stand ms t instances all k [] (s ∷ ss) es js are v view same copies = absurd view
copies_stand ms t instances all k [] [] [] (j ∷ js) are v view same copies = absurd copies
copies_stand ms t instances all k [] [] (e ∷ es) js are v view same copies = absurd copies
copies_stand ms t instances all k (x ∷ xs) [] es js are v view same copies = absurd view
copies_stand ms t instances all k (x ∷ xs) (s ∷ ss) [] js are v view same copies = absurd copies
copies_stand ms t instances all k (x ∷ xs) (s ∷ ss) (e ∷ es) [] are v view same copies = absurd copies
copies_stand ms t instances all k (x ∷ xs) (s ∷ ss) (e ∷ es) (j ∷ js) are v view same copies =
    let P = IsVisited turn_limit (declarations_of ms) in
    let first = job_with t.others x (map shape_of (children_of k instances)) are.0.code (known_steps are.0) in
    let others = jobs_known t.others ms instances (suc k) xs are.1 in (
      copy_stands ms t instances all k x s e j are.0 (All-head P s ss v) view.0
          (same_first (job_view t.words j) first (map (job_view t.words) js) others same) copies.0,
      copies_stand ms t instances all (suc k) xs ss es js are.1 (All-tail P s ss v) view.1
          (same_others (job_view t.words j) first (map (job_view t.words) js) others same) copies.1,
    )

-- the copies that a table has by its jobs
pub copies_are_of_design : (l : Limits) (t : NameTables) (ms : List Module) (top clock : ℕ) (all : List Standing) (xs : List Instance)
    (jobs : List InstanceJob) (js : List BuildJob) (copies : Copies)
    → l.turns ≡ turn_limit → elaborated l (declarations_of ms) top clock ≡ Ok all → map (instance_view t.known) xs ≡ all_seen t.texts all
    → tree_jobs t.others ms xs ≡ Ok jobs → map (job_view t.words) js ≡ jobs → IsTableOf xs js copies
    → AreCopiesIn l.turns (declarations_of ms) t xs all copies
unfolding tree_jobs
copies_are_of_design l t ms top clock all xs jobs js copies turns is view made told table =
    let are = tree_known l t.texts t.known ms top clock all xs turns is view in
    let known = jobs_known t.others ms xs 0 xs are in
    let same : jobs ≡ known = ok_same jobs known (sym made ∙ are_jobs_known t.others ms xs 0 xs are) in
    let visits = subst (λ (n : ℕ). All (IsVisited n (declarations_of ms)) all) turns (all_visited l (declarations_of ms) top clock all is) in
    subst (λ (n : ℕ). AreCopiesIn n (declarations_of ms) t xs all copies) (sym turns)
    (copies_stand ms t xs all 0 xs all (copies_listed None 0 copies) js are visits
    (side_by_side (instance_view t.known) (seen t.texts all) xs all view) (told ∙ same) table)

-- ---- what is linked

pub record IsLinkedDesign (turns : ℕ) (ms : List ModuleDeclaration) (t : NameTables) (instances : List Instance) (all : List Standing)
    (tree : Instances) : Type 0 where
  pub copies : Copies
  pub are_copies : AreCopiesIn turns ms t instances all copies
  pub linked : flat_of_tree tree ≡ flat copies

-- units that building gives for the jobs are linked to the flat design of these copies
pub design_is_linked : (l : Limits) (t : NameTables) (ms : List Module) (top clock : ℕ) (all : List Standing) (xs : List Instance)
    (jobs : List InstanceJob) (js : List BuildJob) (us : List UnitParts) (tree : Instances)
    → l.turns ≡ turn_limit → elaborated l (declarations_of ms) top clock ≡ Ok all → map (instance_view t.known) xs ≡ all_seen t.texts all
    → tree_jobs t.others ms xs ≡ Ok jobs → map (job_view t.words) js ≡ jobs → AllZip IsUnitOf js us → IsTreeOf xs us tree
    → IsLinkedDesign l.turns (declarations_of ms) t xs all tree
design_is_linked l t ms top clock all xs jobs js us tree turns is view made told built tabled =
    let are = units_stand l t.texts t.known t.others t.words ms top clock all xs jobs js us turns is view made told built in
    let found = table_copies xs js us tree (same_long xs 0 xs us are) tabled built in
    record {
      copies = found.copies;
      are_copies = copies_are_of_design l t ms top clock all xs jobs js found.copies turns is view made told found.table;
      linked = linked_is_flat xs js us found.copies tree found.table built are tabled;
    }
