-- What is declared among the steps of a module, its instances and the labels of its blocks stand in its text (IEEE Std 1364-2005, 12.4).
use Rattle.std.proofs.Common.{◌≡◌, ℕ, ◌-◌, Bool, true, false, if◌then◌else◌, List, [], ◌∷◌, All, length, map, Option, Some, None, Result, Ok, Err, subst}
use Rattle.std.proofs.lemmas.List.Elements.{All-nil, All-cons, All-append}
use Rattle.ls_text.specs.declared.fault.Fault.{Fault}
use Rattle.ls_text.specs.declared.place.Place.{Place}
use Rattle.verilog_ast.specs.declared.identifier.Identifier.{Identifier}
use Rattle.verilog_ast.specs.Declarations.{Kind, ParameterAssignment, HeaderParameterDeclaration, PortDeclaration, PortList, NoPorts, NamedPorts, DeclaredPorts}
use Rattle.verilog_ast.specs.Items as i
use Rattle.verilog_ast.specs.Items.{ModuleItem, LoopHead, ModuleDeclaration}
use Rattle.gen_unroll.specs.declared.parameter_sort.ParameterSort.{ParameterSort}
use Rattle.gen_unroll.specs.declared.parameter_sort.ParameterSort.TheVariants as sort
use Rattle.gen_unroll.specs.Declarations.{ParameterType, parameter_type, as_declared, instance_name}
use Rattle.gen_unroll.specs.Overriding.{constant_sorts, overrides_of}
use Rattle.gen_unroll.specs.Steps.{LoopTurn, ModuleStep, Listed, Port, Parameter, Item, Labelled, Opened, Closed}
use Rattle.gen_unroll.specs.Told.{Told, go_on, ◌>>=◌, say, say_all, quiet}
use Rattle.gen_unroll.specs.Unrolled.{State, each, override_of, given_or, known, parameter, parameters, next_type, header_parameters, port_steps, is_taken, loop_turns, labelled, inside, outside, block_with, turn_with, loop_with, taken_with, unrolled, chosen, branch, beginning, untyped, module_told, unrolled_module, turn_limit}
use Rattle.ls_text.specs.Answers.{◌>>=◌ as ◌>>>◌}
use Rattle.gen_unroll.specs.Values.{ConstantValue, evaluated}
use Rattle.module_registry.specs.declared.build_job.BuildJob.{BuildJob}
use Rattle.unit_jobs.specs.BlockNames.{declared_by}
use Rattle.unit_build.specs.Building.{module_of, job_steps}

-- the nets and variables of an item, or its instances
abbrev pub named_by : ModuleItem → List Identifier
named_by (i.Instances n overrides xs) = map instance_name xs
named_by other = declared_by other

-- what holds of the names of nets, variables and instances, and of the labels of blocks
abbrev pub AreNamed : (Identifier → Type 0) → ModuleItem → Type 0
AreNamed P (i.Items x xs) = AreNamed P x × AreNamed P xs
AreNamed P (i.Region at xs) = AreNamed P xs
AreNamed P (i.Loop at h label xs) = P label × AreNamed P xs
AreNamed P (i.Conditional xs) = AreNamed P xs
AreNamed P (i.Branch at c label xs) = P label × AreNamed P xs
AreNamed P other = All P (named_by other)

abbrev pub IsStepNamed : (Identifier → Type 0) → ModuleStep → Type 0
IsStepNamed P (Item x) = All P (named_by x)
IsStepNamed P (Opened b items) = P b.label
IsStepNamed P other = Unit {0}

module _ (P : Identifier → Type 0) where
  pub declared_named : (x : ModuleItem) → All P (named_by x) → All P (declared_by x)
  declared_named (i.Instances n overrides xs) all = All-nil P
  declared_named other all = all

  abbrev Tells : {A : Type 0} → Told A → Type 0
  Tells t = All (IsStepNamed P) t.said

  abbrev none : All (IsStepNamed P) []
  none = All-nil (IsStepNamed P)

  one : (step : ModuleStep) → IsStepNamed P step → All (IsStepNamed P) (step ∷ [])
  one step h = All-cons (IsStepNamed P) step [] h none

  go : {A B : Type 0} (said : List ModuleStep) (r : Result A Fault) (g : A → Told B) → All (IsStepNamed P) said → ((x : A) → Tells (g x))
      → Tells (go_on said r g)
  go said (Ok x) g first next = All-append (IsStepNamed P) said (g x).said first (next x)
  go said (Err e) g first next = first

  then_go : {A B : Type 0} (t : Told A) (g : A → Told B) → Tells t → ((x : A) → Tells (g x)) → Tells (t >>= g)
  then_go t g first next = go t.said t.ending g first next

  quiet_go : {A B : Type 0} (r : Result A Fault) (g : A → Told B) → ((x : A) → Tells (g x)) → Tells (quiet r >>= g)
  quiet_go r g next = go [] r g none next

  each_go : {A : Type 0} (step : A → State → Told State) → ((x : A) (st : State) → Tells (step x st)) → (xs : List A) (st : State)
      → Tells (each step xs st)
  each_go step is [] st = none
  each_go step is (x ∷ xs) st = then_go (step x st) (each step xs) (is x st) (each_go step is xs)

  -- ---- parameters and ports

  parameter_go : (s : ParameterSort) (t : ParameterType) (p : ParameterAssignment) (st : State) → Tells (parameter s t p st)
  unfolding parameter
  parameter_go s t p st =
      quiet_go (given_or (override_of s st) (evaluated st.scope p.value))
      (λ v. say (Parameter s p.name (as_declared t v)) (known s p.name (as_declared t v) st))
      (λ v. one (Parameter s p.name (as_declared t v)) tt)

  parameters_go : (s : ParameterSort) (k : Kind) (ps : List ParameterAssignment) (st : State) → Tells (parameters s k ps st)
  parameters_go s k ps st =
      quiet_go (parameter_type st.scope k) (λ t. each (parameter s t) ps st) (λ t. each_go (parameter s t) (parameter_go s t) ps st)

  header_go : (t : ParameterType) (ps : List HeaderParameterDeclaration) (st : State) → Tells (header_parameters t ps st)
  header_go t [] st = none
  header_go t (p ∷ ps) st =
      quiet_go (next_type st.scope t p.kind) (λ u. parameter sort.Overridable u p.parameter st >>= λ next. header_parameters u ps next)
      (λ u. then_go (parameter sort.Overridable u p.parameter st) (header_parameters u ps) (parameter_go sort.Overridable u p.parameter st)
      (header_go u ps))

  listed_go : (ns : List Identifier) → All (IsStepNamed P) (map Listed ns)
  listed_go [] = none
  listed_go (n ∷ ns) = All-cons (IsStepNamed P) (Listed n) (map Listed ns) tt (listed_go ns)

  declared_go : (ps : List PortDeclaration) → All (IsStepNamed P) (map Port ps)
  declared_go [] = none
  declared_go (p ∷ ps) = All-cons (IsStepNamed P) (Port p) (map Port ps) tt (declared_go ps)

  ports_go : (ps : PortList) → All (IsStepNamed P) (port_steps ps)
  ports_go NoPorts = none
  ports_go (NamedPorts ns) = listed_go ns
  ports_go (DeclaredPorts ps) = declared_go ps

  -- ---- blocks

  abbrev Runs : (Option ℕ → State → Told State) → Type 0
  Runs run = (here : Option ℕ) (st : State) → Tells (run here st)

  block_go : (run : Option ℕ → State → Told State) (items : ModuleItem) (here : Option ℕ) (label : Identifier) (turn : Option LoopTurn) (st : State)
      → Runs run → P label → Tells (block_with run items here label turn st)
  block_go run items here label turn st is named =
      then_go (say (Opened (record { number = st.opened; parent = here; label = label; turn = turn }) items) (inside turn items st))
      (λ within. run (Some st.opened) within >>= λ end. say Closed (outside st end))
      (one (Opened (record { number = st.opened; parent = here; label = label; turn = turn }) items) named)
      (λ within. then_go (run (Some st.opened) within) (λ end. say Closed (outside st end)) (is (Some st.opened) within) (λ end. one Closed tt))

  loop_go : (run : Option ℕ → State → Told State) (items : ModuleItem) (at : Place) (h : LoopHead) (label : Identifier) (here : Option ℕ) (st : State)
      → Runs run → P label → Tells (loop_with run items at h label here st)
  loop_go run items at h label here st is named =
      quiet_go (loop_turns at h st.scope st.left)
      (λ vs. say (Labelled label) (labelled label (record st { left = st.left - length vs }))
      >>= λ next. each (turn_with run items h.start.name label here) vs next)
      (λ vs. then_go (say (Labelled label) (labelled label (record st { left = st.left - length vs })))
      (each (turn_with run items h.start.name label here) vs) (one (Labelled label) tt)
      (each_go (turn_with run items h.start.name label here)
      (λ v. λ next. block_go run items here label (Some (record { genvar = h.start.name; value = v })) next is named) vs))

  taken_go : (run : Option ℕ → State → Told State) (items : ModuleItem) (label : Identifier) (here : Option ℕ) (st : State) → Runs run → P label
      → Tells (taken_with run items label here st)
  taken_go run items label here st is named =
      then_go (say (Labelled label) (labelled label st)) (block_with run items here label None) (one (Labelled label) tt)
      (λ next. block_go run items here label None next is named)

  if_go : (yes : Bool) (t u : Told State) → Tells t → Tells u → Tells (if yes then t else u)
  if_go true t u first second = first
  if_go false t u first second = second

  -- ---- items

  mutual
    unfolding unrolled chosen branch

    unrolled_go : (x : ModuleItem) (here : Option ℕ) (st : State) → AreNamed P x → Tells (unrolled x here st)
    unrolled_go i.NoItem here st named = none
    unrolled_go (i.Items x xs) here st named =
        then_go (unrolled x here st) (unrolled xs here) (unrolled_go x here st named.0) (λ next. unrolled_go xs here next named.1)
    unrolled_go (i.Region at xs) here st named = unrolled_go xs here st named
    unrolled_go (i.Loop at h label xs) here st named =
        loop_go (unrolled xs) xs at h label here st (λ within. λ next. unrolled_go xs within next named.1) named.0
    unrolled_go (i.Conditional xs) here st named = chosen_go xs here st named
    unrolled_go (i.Branch at c label xs) here st named = none
    unrolled_go (i.Parameters at k ps) here st named = parameters_go sort.Overridable k ps st
    unrolled_go (i.LocalParameters at k ps) here st named = parameters_go sort.Local k ps st
    unrolled_go other here st named = one (Item other) named

    chosen_go : (x : ModuleItem) (here : Option ℕ) (st : State) → AreNamed P x → Tells (chosen x here st)
    chosen_go (i.Items x xs) here st named = branch_go x (chosen xs here) here st named.0 (λ next. chosen_go xs here next named.1)
    chosen_go other here st named = none

    branch_go : (x : ModuleItem) (behind : State → Told State) (here : Option ℕ) (st : State) → AreNamed P x → ((next : State) → Tells (behind next))
        → Tells (branch x behind here st)
    branch_go (i.Branch at c label xs) behind here st named is =
        quiet_go (is_taken st.scope c) (λ yes. if yes then taken_with (unrolled xs) xs label here st else behind st)
        (λ yes. if_go yes (taken_with (unrolled xs) xs label here st) (behind st)
        (taken_go (unrolled xs) xs label here st (λ within. λ next. unrolled_go xs within next named.1) named.0) (is st))
    branch_go other behind here st named is = is st

  -- ---- modules

  module_go : (m : ModuleDeclaration) (st : State) → AreNamed P m.items → Tells (module_told m st)
  module_go m st named =
      then_go (header_parameters untyped m.parameters st) (λ next. say_all (port_steps m.ports) next >>= λ after. unrolled m.items None after)
      (header_go untyped m.parameters st)
      (λ next. then_go (say_all (port_steps m.ports) next) (unrolled m.items None) (ports_go m.ports)
      (λ after. unrolled_go m.items None after named))

  pub told_go : (limit : ℕ) (overrides : List (Option ConstantValue)) (m : ModuleDeclaration) → AreNamed P m.items
      → Tells (unrolled_module limit overrides m)
  unfolding unrolled_module
  told_go limit overrides m named = module_go m (beginning limit overrides m) named

  ends_go : (said steps : List ModuleStep) (r : Result State Fault) → All (IsStepNamed P) said → (r >>> λ st. Ok said) ≡ Ok steps
      → All (IsStepNamed P) steps
  ends_go said steps (Ok st) named is = let same : said ≡ steps = cc in subst (All (IsStepNamed P)) same named
  ends_go said steps (Err e) named is = absurd cc

  pub steps_named : (job : BuildJob) (steps : List ModuleStep) → AreNamed P (module_of job).items → job_steps job ≡ Ok steps
      → All (IsStepNamed P) steps
  unfolding job_steps
  steps_named job steps named is =
      ends_go (unrolled_module turn_limit (overrides_of (constant_sorts (module_of job)) job.parameters) (module_of job)).said steps
      (unrolled_module turn_limit (overrides_of (constant_sorts (module_of job)) job.parameters) (module_of job)).ending
      (told_go turn_limit (overrides_of (constant_sorts (module_of job)) job.parameters) (module_of job) named) is
