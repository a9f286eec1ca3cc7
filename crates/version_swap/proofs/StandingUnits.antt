-- The units of the jobs of a tree stand in that tree.
use Rattle.std.proofs.Common.{◌≡◌, ℕ, Bool, suc, List, [], ◌∷◌, map, take, length, Ok, refl, sym, ◌∙◌, ap, subst}
use Rattle.std.specs.Prelude.{Option}
use Rattle.std.specs.List.{AllZip}
use Rattle.ls_text.specs.declared.fault.Fault.{Fault}
use Rattle.ls_text.specs.declared.name_id.NameId.{NameId}
use Rattle.typed_ir.specs.Cycles.{Signal}
use Rattle.typed_ir.specs.Orders.{Each}
use Rattle.verilog_ast.specs.declared.module.Module.{Module}
use Rattle.verilog_ast.specs.Items.{ModuleDeclaration}
use Rattle.verilog_ast.specs.Views.{declaration_of, declarations_of}
use Rattle.typed_ir.specs.declared.child_shape.ChildShape.{ChildShape}
use Rattle.typed_ir.specs.declared.instance.Instance.{Instance}
use Rattle.typed_ir.specs.declared.port_shape.PortShape.{PortShape}
use Rattle.typed_ir.specs.declared.unit_parts.UnitParts.{UnitParts}
use Rattle.typed_ir.specs.declared.unit_signal.UnitSignal.{UnitSignal}
use Rattle.typed_ir.specs.Shapes.{HasPorts, children_of, shape_of, AreOf, none, more}
use Rattle.typed_ir.specs.Items.{unit_of}
use Rattle.typed_ir.specs.Trees.{unit_widths}
use Rattle.typed_ir.specs.Units.{signal_within, sized_unit}
use Rattle.gen_unroll.specs.Steps.{ModuleStep}
use Rattle.gen_unroll.specs.Unrolled.{unrolled_module, turn_limit}
use Rattle.ls_text.specs.Answers.{◌>>=◌}
use Rattle.gen_unroll.specs.Values.{ConstantValue, constant_of, unless}
use Rattle.gen_unroll.proofs.Answered.{err_or_ok, ok_same, first_step}
use Rattle.elaborate.specs.declared.limits.Limits.{Limits}
use Rattle.elaborate.specs.Elaborated.{Standing, elaborated}
use Rattle.elaborate.specs.Trees.{all_seen, tree}
use Rattle.elaborate.specs.TreeViews.{instance_view}
use Rattle.elaborate.specs.Views.{port_of}
use Rattle.elaborate.specs.Visits.{Visited, visited}
use Rattle.gen_unroll.specs.Numbers.{SignalTable, module_table}
use Rattle.gen_unroll.specs.UnitLists.{unit_signals, data_inputs}
use Rattle.gen_unroll.proofs.Fitting.{unit_widths as signal_widths}
use Rattle.module_registry.specs.declared.build_job.BuildJob.{BuildJob}
use Rattle.module_registry.specs.Building.{Built}
use Rattle.unit_jobs.specs.Jobs.{InstanceJob, job_with, tree_jobs}
use Rattle.unit_jobs.specs.JobViews.{job_view}
use Rattle.unit_build.specs.Building.{module_of, job_steps, settled_signals, job_items, job_initials, placed_items, unit_with, unit_faults, built}
use Rattle.unit_build.proofs.Standing.{placed_widths}
use Rattle.version_swap.specs.JobUnits.{IsUnitOf}
use Rattle.version_swap.proofs.CodeTrees.{code_stands}
use Rattle.version_swap.proofs.KnownInstances.{IsKnown, side_by_side}
use Rattle.version_swap.proofs.Rerolled.{ports_stand_outside}
use Rattle.version_swap.proofs.Together.{shape_widths_lead, same_data_inputs, visit_has}
use Rattle.version_swap.proofs.TreeJobs.{known_steps, jobs_known, are_jobs_known, tree_known, seen_of}
use Rattle.version_swap.proofs.VisitedAgain.{visited_again}

-- ---- widths

abbrev widths : List Signal → List ℕ
widths xs = map (λ (x : Signal). x.width) xs

own_widths : (xs : List UnitSignal) → widths (map signal_within xs) ≡ map (λ (x : UnitSignal). x.width) xs
own_widths [] = refl
own_widths (x ∷ xs) = ap (λ (ws : List ℕ). x.width ∷ ws) (own_widths xs)

-- a unit of placed items has those of its table
placed_so : (j : BuildJob) (t : SignalTable) (settled : List Bool) (steps : List ModuleStep) (u : UnitParts)
    → unit_of (placed_items j t settled steps) ≡ sized_unit u
    → map (λ (x : UnitSignal). x.width) u.signals.items ≡ widths (unit_signals (module_of j).name.name.0 j.names t.signals)
placed_so j t settled steps u same =
    sym (own_widths u.signals.items) ∙ ap unit_widths (sym same)
    ∙ placed_widths j t (job_items j t settled steps) (job_initials j t settled steps)
    ∙ sym (signal_widths (module_of j).name.name.0 j.names t.signals)

-- ---- what a unit that was built has

-- what came of no fault
unless_is : {A : Type 0} (fs : List Fault) (x y : A) → unless fs x ≡ Ok y → x ≡ y
unless_is [] x y is = ok_same x y is
unless_is (f ∷ fs) x y is = err_or_ok f y is

abbrev built_as : UnitParts → Built
built_as u = record { unit = sized_unit u; shapes = u.shapes }

-- a unit of these steps has the signals and inputs of their table, and the shapes of its job
record IsBuilt (j : BuildJob) (u : UnitParts) (steps : List ModuleStep) : Type 0 where
  table : SignalTable
  there : module_table (module_of j) steps ≡ Ok table
  same_widths : map (λ (x : UnitSignal). x.width) u.signals.items ≡ widths (unit_signals (module_of j).name.name.0 j.names table.signals)
  same_inputs : u.inputs.items ≡ data_inputs j.clock table.signals
  same_shapes : u.shapes ≡ j.children

is_built : (j : BuildJob) (u : UnitParts) (steps : List ModuleStep) → job_steps j ≡ Ok steps → IsUnitOf j u → IsBuilt j u steps
unfolding built
is_built j u steps told is =
    let all = first_step (job_steps j)
    (λ steps. module_table (module_of j) steps >>= λ t. unit_with j t (settled_signals (module_of j) t steps) steps) (built_as u) is in
    let t = first_step (module_table (module_of j) all.value)
    (λ t. unit_with j t (settled_signals (module_of j) t all.value) all.value) (built_as u) all.second in
    let settled = settled_signals (module_of j) t.value all.value in
    let same = unless_is (unit_faults j t.value settled all.value) _ (built_as u) t.second in
    record {
      table = t.value;
      there = ap (module_table (module_of j)) (ok_same steps all.value (sym told ∙ all.first)) ∙ t.first;
      same_widths = placed_so j t.value settled all.value u (ap (λ (b : Built). b.unit) same);
      same_inputs = sym (ap (λ (b : Built). b.unit.inputs) same);
      same_shapes = sym (ap (λ (b : Built). b.shapes) same);
    }

-- ---- the unit of a job whose module was visited

has_ports : (ms : List ModuleDeclaration) (most : Option ℕ) (vs : List (Option ConstantValue)) (clock : Option ℕ) (v : Visited) (j : BuildJob)
    (u : UnitParts) (ports : List PortShape)
    → visited turn_limit ms most (module_of j) vs clock ≡ Ok v → map constant_of j.parameters ≡ v.checks.parameters
    → map port_of ports ≡ v.ports → IsUnitOf j u → HasPorts u j.clock ports × (u.shapes ≡ j.children)
unfolding job_steps
has_ports ms most vs clock v j u ports found parameters same is =
    let m = module_of j in
    let outer = code_stands j.module.value.body in
    let b = is_built j u (unrolled_module turn_limit vs m).said
    (visited_again turn_limit ms most m vs clock v j.parameters outer found parameters) is in
    let visit = visit_has turn_limit ms most m vs clock v found in
    let outside = ports_stand_outside turn_limit vs m outer in (
      record {
        widths = ap (take (length ports)) b.same_widths
            ∙ shape_widths_lead turn_limit ms m vs v.checks b.table m.name.name.0 j.names ports visit.0 outside b.there (same ∙ visit.1);
        inputs = b.same_inputs ∙ same_data_inputs turn_limit ms m vs v.checks b.table j.clock ports visit.0 outside b.there (same ∙ visit.1);
      },
      b.same_shapes,
    )

-- ---- the units of a tree

unit_stands : (ms : List Module) (texts words : List (List ℕ)) (x : Instance) (within : List ChildShape) (k : IsKnown turn_limit ms x) (j : BuildJob)
    (u : UnitParts) → job_view words j ≡ job_with texts x within k.code (known_steps k) → IsUnitOf j u
    → HasPorts u x.clock x.ports × (u.shapes ≡ within)
unit_stands ms texts words x within k j u same is =
    let code : j.module.value ≡ k.code = ap (λ (i : InstanceJob). i.module) same in
    let found = ap (λ (m : Module). visited turn_limit (declarations_of ms) k.most (declaration_of m.body) k.overrides k.clock) code ∙ k.found in
    let parameters = ap (λ (i : InstanceJob). map constant_of i.parameters) same ∙ k.parameters in
    let has = has_ports (declarations_of ms) k.most k.overrides k.clock k.visit j u x.ports found parameters k.ports is in (
      subst (λ (c : Option NameId). HasPorts u c x.ports) (ap (λ (i : InstanceJob). i.clock) same) has.0,
      has.1 ∙ ap (λ (i : InstanceJob). i.children) same,
    )

itself : {A : Type 0} (xs : List A) → xs ≡ map (λ (x : A). x) xs
itself [] = refl
itself (x ∷ xs) = ap (λ ys. x ∷ ys) (itself xs)

units_from : (ms : List Module) (texts words : List (List ℕ)) (all : List Instance) (n : ℕ) (xs : List Instance)
    (are : Each (IsKnown turn_limit ms) xs) (js : List BuildJob) (us : List UnitParts)
    → AllZip (λ j i. job_view words j ≡ i) js (jobs_known texts ms all n xs are) → AllZip IsUnitOf js us → AreOf all n xs us
units_from ms texts words all n [] are [] [] same is = none
units_from ms texts words all n [] are [] (u ∷ us) same is = absurd is
units_from ms texts words all n [] are (j ∷ js) us same is = absurd same
units_from ms texts words all n (x ∷ xs) are [] us same is = absurd same
units_from ms texts words all n (x ∷ xs) are (j ∷ js) [] same is = absurd is
units_from ms texts words all n (x ∷ xs) are (j ∷ js) (u ∷ us) same is =
    let one = unit_stands ms texts words x (map shape_of (children_of n all)) are.0 j u same.0 is.0 in
    more one.0 one.1 (units_from ms texts words all (suc n) xs are.1 js us same.1 is.1)

-- the units of its jobs stand in a tree
pub units_stand : (l : Limits) (texts known_texts others words : List (List ℕ)) (ms : List Module) (name clock : ℕ) (all : List Standing)
    (xs : List Instance) (jobs : List InstanceJob) (js : List BuildJob) (us : List UnitParts)
    → l.turns ≡ turn_limit → elaborated l (declarations_of ms) name clock ≡ Ok all → map (instance_view known_texts) xs ≡ all_seen texts all
    → tree_jobs others ms xs ≡ Ok jobs → map (job_view words) js ≡ jobs → AllZip IsUnitOf js us → AreOf xs 0 xs us
unfolding tree_jobs
units_stand l texts known_texts others words ms name clock all xs jobs js us turns is same made seen built =
    let are = tree_known l texts known_texts ms name clock all xs turns is same in
    let known = jobs_known others ms xs 0 xs are in
    let jobs_same : jobs ≡ known = ok_same jobs known (sym made ∙ are_jobs_known others ms xs 0 xs are) in
    units_from ms others words xs 0 xs are js us
    (side_by_side (job_view words) (λ (i : InstanceJob). i) js known (seen ∙ jobs_same ∙ itself known)) built

-- the same of what elaboration gives
pub tree_units_stand : (l : Limits) (texts known_texts others words : List (List ℕ)) (ms : List Module) (name clock : ℕ) (xs : List Instance)
    (jobs : List InstanceJob) (js : List BuildJob) (us : List UnitParts)
    → l.turns ≡ turn_limit → tree l texts (declarations_of ms) name clock ≡ Ok (map (instance_view known_texts) xs)
    → tree_jobs others ms xs ≡ Ok jobs → map (job_view words) js ≡ jobs → AllZip IsUnitOf js us → AreOf xs 0 xs us
tree_units_stand l texts known_texts others words ms name clock xs jobs js us turns is made seen built =
    let s = seen_of l texts known_texts ms name clock xs is in
    units_stand l texts known_texts others words ms name clock s.all xs jobs js us turns s.elaborates s.same made seen built
