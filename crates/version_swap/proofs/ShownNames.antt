-- A fault of elaboration or of a unit shows names of the table alone: where all other names change and those of the text stay, the fault is the same.
use Rattle.std.proofs.Common.{◌≡◌, ℕ, ◌+◌, ◌<◌, Bool, true, false, nat_lt, if◌then◌else◌, cond, List, [], ◌∷◌, ◌++◌, All, length, map, Result, Err, refl, sym, ap, ap₂, ◌∙◌, subst, arith}
use Rattle.std.specs.Prelude.{Option, Some, None, ⊤}
use Rattle.std.specs.Option.{option_map}
use Rattle.std.proofs.lemmas.Bool.{ltb-true, ltb-false, lt-ltb}
use Rattle.std.proofs.lemmas.List.Elements.{All-nil, All-cons, All-head, All-tail, All-weaker}
use Rattle.ls_text.specs.declared.fault.Fault.{Fault}
use Rattle.ls_text.specs.declared.name_id.NameId.{NameId}
use Rattle.ls_text.proofs.Tables.{same_id}
use Rattle.verilog_ast.specs.declared.module.Module.{Module}
use Rattle.verilog_ast.specs.Items.{ModuleDeclaration}
use Rattle.verilog_ast.specs.NamesWithin.{names_in_declaration, names_in_modules}
use Rattle.verilog_ast.specs.Renaming.{declaration_as}
use Rattle.verilog_ast.specs.Views.{declaration_of, declarations_of}
use Rattle.width_rules.specs.Renaming.{fault_as}
use Rattle.typed_ir.specs.declared.child_shape.ChildShape.{ChildShape}
use Rattle.typed_ir.specs.declared.port_shape.PortShape.{PortShape}
use Rattle.elaborate.specs.declared.limits.Limits.{Limits}
use Rattle.elaborate.specs.Elaborated.{elaborated}
use Rattle.module_registry.specs.declared.build_job.BuildJob.{BuildJob}
use Rattle.unit_build.specs.Building.{built}
use Rattle.elaborate.specs.Findings.{standing_as}
use Rattle.elaborate.specs.Renaming.{KeepsApart, number_as, found_as}
use Rattle.elaborate.proofs.RenamedDesigns.{same_elaborated}
use Rattle.version_swap.specs.RenamedFindings.{port_shape_as, shape_as}
use Rattle.version_swap.specs.RenamedUnits.{built_as}
use Rattle.version_swap.proofs.RenamedBuilt.{same_job}
use Rattle.version_swap.specs.JobsUnder.{IsJobUnder}
use Rattle.version_swap.specs.Told.{IsClockTold, IsChildTold, IsPortTold}
use Rattle.version_swap.proofs.FixedNames.{AreFixed, fixed_declaration}

module _ (count : ℕ) where
  -- names below the count stay, and the others make room for one more
  abbrev moved : NameId → NameId
  moved n = if nat_lt n.0 count then n else record { 0 = n.0 + 1 }

  abbrev IsBelow : NameId → Type 0
  IsBelow n = n.0 < count

  abbrev IsClockBelow : Option NameId → Type 0
  IsClockBelow None = ⊤
  IsClockBelow (Some n) = IsBelow n

  chosen : (b : Bool) (n : NameId) → b ≡ true → cond b n (record { 0 = n.0 + 1 }) ≡ n
  chosen b n is = ap (λ (c : Bool). cond c n (record { 0 = n.0 + 1 })) is

  stays : (n : NameId) → IsBelow n → moved n ≡ n
  stays n below = chosen (nat_lt n.0 count) n (lt-ltb n.0 count below)

  -- what stays is below
  below : (n : NameId) → moved n ≡ n → IsBelow n
  below n is = cases (nat_lt n.0 count) refl is
    where
      cases : (b : Bool) → nat_lt n.0 count ≡ b → cond b n (record { 0 = n.0 + 1 }) ≡ n → IsBelow n
      cases true lt same = ltb-true n.0 count lt
      cases false lt same = absurd (omega (arith, ap (λ (m : NameId). m.0) same))

  apart : KeepsApart moved
  apart m n is = cases (nat_lt m.0 count) (nat_lt n.0 count) refl refl is
    where
      cases : (b c : Bool) → nat_lt m.0 count ≡ b → nat_lt n.0 count ≡ c
          → cond b m (record { 0 = m.0 + 1 }) ≡ cond c n (record { 0 = n.0 + 1 }) → m ≡ n
      cases true true here there same = same
      cases true false here there same =
          absurd (omega (arith, ap (λ (k : NameId). k.0) same, ltb-true m.0 count here, ltb-false n.0 count there))
      cases false true here there same =
          absurd (omega (arith, ap (λ (k : NameId). k.0) same, ltb-false m.0 count here, ltb-true n.0 count there))
      cases false false here there same = same_id m n (omega (arith, ap (λ (k : NameId). k.0) same))

  -- ---- trees whose names are below stay

  fixed : (ns : List NameId) → All IsBelow ns → AreFixed moved ns
  fixed [] all = tt
  fixed (n ∷ ns) all = (stays n (All-head IsBelow n ns all), fixed ns (All-tail IsBelow n ns all))

  module_stays : (x : Module) → All IsBelow (names_in_declaration (declaration_of x.body)) → declaration_as moved (declaration_of x.body) ≡ declaration_of x.body
  module_stays x all =
      fixed_declaration moved (declaration_of x.body)
      (fixed (names_in_declaration (declaration_of x.body)) all)

  front : (ns ms : List NameId) → All IsBelow (ns ++ ms) → All IsBelow ns
  front [] ms all = All-nil IsBelow
  front (n ∷ ns) ms all = All-cons IsBelow n ns (All-head IsBelow n (ns ++ ms) all) (front ns ms (All-tail IsBelow n (ns ++ ms) all))

  back : (ns ms : List NameId) → All IsBelow (ns ++ ms) → All IsBelow ms
  back [] ms all = all
  back (n ∷ ns) ms all = back ns ms (All-tail IsBelow n (ns ++ ms) all)

  modules_stay : (ms : List Module) → All IsBelow (names_in_modules ms) → map (declaration_as moved) (declarations_of ms) ≡ declarations_of ms
  modules_stay [] all = refl
  modules_stay (m ∷ ms) all =
      ap₂ (λ (d : ModuleDeclaration) (ds : List ModuleDeclaration). d ∷ ds)
      (module_stays m (front (names_in_declaration (declaration_of m.body)) (names_in_modules ms) all))
      (modules_stay ms (back (names_in_declaration (declaration_of m.body)) (names_in_modules ms) all))

  -- ---- so their faults show names below

  all_below : (ns : List NameId) → map moved ns ≡ ns → All IsBelow ns
  all_below [] same = All-nil IsBelow
  all_below (n ∷ ns) same =
      let here : moved n ≡ n = cc in
      let rest : map moved ns ≡ ns = cc in
      All-cons IsBelow n ns (below n here) (all_below ns rest)

  shown_below : {A : Type 0} (g : A → A) (r : Result A Fault) (f : Fault) → r ≡ found_as moved g r → r ≡ Err f → All IsBelow f.names
  shown_below g r f same is =
      let both : Err f ≡ Err (fault_as moved f) = sym is ∙ same ∙ ap (found_as moved g) is in
      let fault : f ≡ fault_as moved f = cc in
      all_below f.names (sym (ap (λ (x : Fault). x.names) fault))

  pub tree_shows : (l : Limits) (ms : List Module) (top clock : ℕ) (f : Fault) → All IsBelow (names_in_modules ms) → top < count → clock < count
      → elaborated l (declarations_of ms) top clock ≡ Err f → All IsBelow f.names
  tree_shows l ms top clock f all top_in clock_in is =
      let ds = declarations_of ms in
      let top_stays : number_as moved top ≡ top = ap (λ (m : NameId). m.0) (stays (record { 0 = top }) top_in) in
      let clock_stays : number_as moved clock ≡ clock = ap (λ (m : NameId). m.0) (stays (record { 0 = clock }) clock_in) in
      let same : elaborated l ds top clock ≡ found_as moved (map (standing_as moved)) (elaborated l ds top clock) =
      sym (ap (λ (xs : List ModuleDeclaration). elaborated l xs (number_as moved top) (number_as moved clock)) (modules_stay ms all)
      ∙ ap₂ (elaborated l ds) top_stays clock_stays)
      ∙ same_elaborated moved l ds top clock apart in
      shown_below (map (standing_as moved)) (elaborated l ds top clock) f same is

  -- ---- units

  port_stays : (p : PortShape) → IsBelow p.name → p ≡ port_shape_as moved p
  port_stays p is = sym (ap (λ (n : NameId). named n) (stays p.name is))
    where
      named : NameId → PortShape
      named n = record p { name = n }

  ports_stay : (ps : List PortShape) → All (λ (p : PortShape). IsBelow p.name) ps → ps ≡ map (port_shape_as moved) ps
  ports_stay [] all = refl
  ports_stay (p ∷ ps) all =
      let P = λ (q : PortShape). IsBelow q.name in
      ap₂ (λ (q : PortShape) (qs : List PortShape). q ∷ qs) (port_stays p (All-head P p ps all)) (ports_stay ps (All-tail P p ps all))

  clock_stays : (n : Option NameId) → IsClockBelow n → n ≡ option_map moved n
  clock_stays None is = refl
  clock_stays (Some n) is = sym (ap Some (stays n is))

  abbrev IsChildBelow : ChildShape → Type 0
  IsChildBelow c = IsBelow c.instance × IsClockBelow c.clock × All (λ (p : PortShape). IsBelow p.name) c.ports

  child_stays : (c : ChildShape) → IsChildBelow c → c ≡ shape_as moved c
  child_stays c is =
      ap (λ (n : NameId). child n c.clock c.ports) (sym (stays c.instance is.0))
      ∙ ap₂ (child (moved c.instance)) (clock_stays c.clock is.1) (ports_stay c.ports is.2)
    where
      child : NameId → Option NameId → List PortShape → ChildShape
      child n k ps = record { instance = n; clock = k; ports = ps }

  children_stay : (cs : List ChildShape) → All IsChildBelow cs → cs ≡ map (shape_as moved) cs
  children_stay [] all = refl
  children_stay (c ∷ cs) all =
      ap₂ (λ (d : ChildShape) (ds : List ChildShape). d ∷ ds) (child_stays c (All-head IsChildBelow c cs all))
      (children_stay cs (All-tail IsChildBelow c cs all))

  names_stay : (ns : List NameId) → All IsBelow ns → ns ≡ map moved ns
  names_stay [] all = refl
  names_stay (n ∷ ns) all =
      ap₂ (λ (m : NameId) (ms : List NameId). m ∷ ms) (sym (stays n (All-head IsBelow n ns all))) (names_stay ns (All-tail IsBelow n ns all))

  job_shows : (job : BuildJob) (f : Fault) → All IsBelow (names_in_declaration (declaration_of job.module.value.body)) → IsClockBelow job.clock
      → All IsChildBelow job.children
      → All IsBelow job.names → built job ≡ Err f → All IsBelow f.names
  job_shows job f all clock children names is =
      shown_below (built_as moved) (built job) f
      (same_job moved job job apart (sym (module_stays job.module.value all)) refl (clock_stays job.clock clock) (children_stay job.children children)
      (names_stay job.names names)) is

module _ (names : List (List ℕ)) where
  abbrev IsInTable : NameId → Type 0
  IsInTable n = n.0 < length names

  clock_below : (n : Option NameId) → IsClockTold names n → IsClockBelow (length names) n
  clock_below None is = tt
  clock_below (Some n) is = is.0.within

  child_below : (c : ChildShape) → IsChildTold names c → IsChildBelow (length names) c
  child_below c is = (
    is.instance.within,
    clock_below c.clock is.clock,
    All-weaker (IsPortTold names) (λ (p : PortShape). p.name.0 < length names) (λ p told. told.within) c.ports is.ports,
  )

  pub unit_shows : (job : BuildJob) (f : Fault) → IsJobUnder names job → All IsInTable (names_in_declaration (declaration_of job.module.value.body)) → built job ≡ Err f
      → All IsInTable f.names
  unit_shows job f under all is =
      job_shows (length names) job f all (clock_below job.clock under.clock)
      (All-weaker (IsChildTold names) (IsChildBelow (length names)) child_below job.children under.children) under.within is
