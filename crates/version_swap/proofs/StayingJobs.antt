-- Jobs stay what they are where the names of their table do, so a fault of their units shows names of the table.
use Rattle.std.proofs.Common.{◌≡◌, ℕ, ◌<◌, List, [], ◌∷◌, All, length, map, refl, sym, ap, ap₂}
use Rattle.std.specs.Prelude.{Option, Some, None, Err}
use Rattle.std.specs.List.{AllZip}
use Rattle.std.specs.Option.{option_map}
use Rattle.std.proofs.lemmas.List.Elements.{All-nil, All-cons, All-head, All-tail}
use Rattle.ls_text.specs.declared.fault.Fault.{Fault}
use Rattle.ls_text.specs.declared.name_id.NameId.{NameId}
use Rattle.ls_text.proofs.Lists.{same_first, same_others}
use Rattle.verilog_ast.specs.declared.module.Module.{Module}
use Rattle.verilog_ast.specs.Renaming.{declaration_as}
use Rattle.verilog_ast.specs.Views.{declaration_of, declarations_of}
use Rattle.typed_ir.specs.declared.child_shape.ChildShape.{ChildShape}
use Rattle.typed_ir.specs.declared.instance.Instance.{Instance}
use Rattle.typed_ir.specs.declared.port_shape.PortShape.{PortShape}
use Rattle.elaborate.specs.Elaborated.{Standing}
use Rattle.module_registry.specs.declared.build_job.BuildJob.{BuildJob}
use Rattle.module_registry.specs.Building.{built_all}
use Rattle.unit_build.specs.Building.{built}
use Rattle.version_swap.specs.RenamedFindings.{port_shape_as, shape_as}
use Rattle.version_swap.specs.RenamedUnits.{built_as}
use Rattle.version_swap.specs.JobsUnder.{IsIn, IsJobUnder}
use Rattle.version_swap.specs.Told.{IsPortTold, IsClockTold, IsChildTold}
use Rattle.version_swap.specs.FirstKeys.{first_jobs}
use Rattle.version_swap.proofs.GrownFound.{FoundIn}
use Rattle.version_swap.proofs.JobModules.{modules_of_jobs}
use Rattle.version_swap.proofs.MovedNames.{moved, IsBelow, stay, moved_apart, moved_spells, shown_below}
use Rattle.version_swap.proofs.TwinJobs.{IsTwin, twins_first, twins_built}

module _ (names : List (List ℕ)) where
  abbrev f : NameId → NameId
  f n = moved (length names) n

  name_stays : (n : NameId) → n.0 < length names → n ≡ f n
  name_stays n below = sym (stay (length names) n below)

  names_stay : (ns : List NameId) → All (IsIn names) ns → ns ≡ map f ns
  names_stay [] all = refl
  names_stay (n ∷ ns) all =
      ap₂ (λ (m : NameId) (ms : List NameId). m ∷ ms) (name_stays n (All-head (IsIn names) n ns all))
      (names_stay ns (All-tail (IsIn names) n ns all))

  clock_stays : (clock : Option NameId) → IsClockTold names clock → clock ≡ option_map f clock
  clock_stays None told = refl
  clock_stays (Some n) told = ap Some (name_stays n told.0.within)

  port_stays : (p : PortShape) → IsPortTold names p → p ≡ port_shape_as f p
  port_stays p told = ap named (name_stays p.name told.within)
    where
      named : NameId → PortShape
      named n = record p { name = n }

  ports_stay : (ps : List PortShape) → All (IsPortTold names) ps → ps ≡ map (port_shape_as f) ps
  ports_stay [] all = refl
  ports_stay (p ∷ ps) all =
      ap₂ (λ (q : PortShape) (qs : List PortShape). q ∷ qs) (port_stays p (All-head (IsPortTold names) p ps all))
      (ports_stay ps (All-tail (IsPortTold names) p ps all))

  child_stays : (c : ChildShape) → IsChildTold names c → c ≡ shape_as f c
  child_stays c told =
      let instance = name_stays c.instance told.instance.within in
      let clock = clock_stays c.clock told.clock in
      let ports = ports_stay c.ports told.ports in
      λ i. record { instance = instance i; clock = clock i; ports = ports i }

  children_stay : (cs : List ChildShape) → All (IsChildTold names) cs → cs ≡ map (shape_as f) cs
  children_stay [] all = refl
  children_stay (c ∷ cs) all =
      ap₂ (λ (d : ChildShape) (ds : List ChildShape). d ∷ ds) (child_stays c (All-head (IsChildTold names) c cs all))
      (children_stay cs (All-tail (IsChildTold names) c cs all))

  abbrev HasFixed : Module → Type 0
  HasFixed m = declaration_as f (declaration_of m.body) ≡ declaration_of m.body

  all_fixed : (ms : List Module) → map (declaration_as f) (declarations_of ms) ≡ declarations_of ms → All HasFixed ms
  all_fixed [] same = All-nil HasFixed
  all_fixed (m ∷ ms) same =
      let d = declaration_of m.body in
      let ds = declarations_of ms in
      All-cons HasFixed m ms (same_first (declaration_as f d) d (map (declaration_as f) ds) ds same)
      (all_fixed ms (same_others (declaration_as f d) d (map (declaration_as f) ds) ds same))

  abbrev IsFixedJob : BuildJob → Type 0
  IsFixedJob j = HasFixed j.module.value

  jobs_stay : (js : List BuildJob) → All (IsJobUnder names) js → All IsFixedJob js → AllZip (IsTwin f) js js
  jobs_stay [] under fixed = tt
  jobs_stay (j ∷ js) under fixed =
      let is = All-head (IsJobUnder names) j js under in (
        record {
          tree = sym (All-head IsFixedJob j js fixed);
          spelling = refl;
          parameters = refl;
          clock = clock_stays j.clock is.clock;
          children = children_stay j.children is.children;
          names = names_stay j.names is.within;
        },
        jobs_stay js (All-tail (IsJobUnder names) j js under) (All-tail IsFixedJob j js fixed),
      )

  module _ {ms : List Module} {top clock : ℕ} {xs : List Instance} {js : List BuildJob} {all : List Standing}
      (h : FoundIn names ms top clock xs js all)
      (fixed : map (declaration_as f) (declarations_of ms) ≡ declarations_of ms) where
    pub unit_shows : (e : Fault) → built_all built (first_jobs names [] js) ≡ Err e → All (IsBelow (length names)) e.names
    unit_shows e is =
        let stay_jobs = jobs_stay js h.under (modules_of_jobs HasFixed names ms (all_fixed ms fixed) names xs js h.jobs) in
        let firsts = twins_first f names names (moved_spells names) [] [] js js tt stay_jobs in
        shown_below (length names) (map (built_as f)) (built_all built (first_jobs names [] js)) e
        (twins_built f (moved_apart (length names)) (first_jobs names [] js) (first_jobs names [] js) firsts) is
