-- A module that is written as a parser writes it unrolls to steps that are.
use Rattle.std.proofs.Common.{ℕ, ◌-◌, Bool, true, false, if◌then◌else◌, List, [], ◌∷◌, length, map, Option, Some, None, Result, Ok, Err}
use Rattle.ls_text.specs.declared.fault.Fault.{Fault}
use Rattle.ls_text.specs.declared.place.Place.{Place}
use Rattle.typed_ir.specs.Orders.{Each}
use Rattle.typed_ir.proofs.Lists.{each_append}
use Rattle.verilog_ast.specs.declared.identifier.Identifier.{Identifier}
use Rattle.verilog_ast.specs.Declarations.{Kind, ParameterAssignment, HeaderParameterDeclaration, PortDeclaration, PortList, NoPorts, NamedPorts, DeclaredPorts}
use Rattle.verilog_ast.specs.Items as i
use Rattle.verilog_ast.specs.Items.{ModuleItem, LoopHead, ModuleDeclaration}
use Rattle.gen_unroll.specs.declared.parameter_sort.ParameterSort.{ParameterSort}
use Rattle.gen_unroll.specs.declared.parameter_sort.ParameterSort.TheVariants as sort
use Rattle.gen_unroll.specs.Declarations.{ParameterType, parameter_type, as_declared}
use Rattle.gen_unroll.specs.Steps.{LoopTurn, ModuleStep, Listed, Port, Parameter, Item, Labelled, Opened, Closed}
use Rattle.gen_unroll.specs.Told.{Told, go_on, ◌>>=◌, say, say_all, quiet}
use Rattle.gen_unroll.specs.Unrolled.{State, each, override_of, given_or, known, parameter, parameters, next_type, header_parameters, port_steps, is_taken, loop_turns, labelled, inside, outside, block_with, turn_with, loop_with, taken_with, unrolled, chosen, branch, untyped, beginning, unrolled_module}
use Rattle.gen_unroll.specs.Values.{ConstantValue, evaluated}
use Rattle.mention_laws.specs.Placed.{AreStatements}
use Rattle.statement_rules.specs.DeclaredValues.{port_values}
use Rattle.unit_build.specs.Walks.{instances_in}
use Rattle.unit_build.proofs.ConnectedTexts.{AreInstancesWritten, HasWrittenInstances}
use Rattle.unit_build.proofs.ItemLaws.{AreValuesWritten, IsItemWritten, IsStepWritten}

-- ---- what is written so

-- in a block, items of a case stand within a case alone
abbrev pub IsItemPlaced : ModuleItem → Type 0
IsItemPlaced (i.Combinational at body) = AreStatements body
IsItemPlaced (i.Clocked at n body) = AreStatements body
IsItemPlaced other = Unit {0}

abbrev pub IsStepPlaced : ModuleStep → Type 0
IsStepPlaced (Item x) = IsItemPlaced x
IsStepPlaced other = Unit {0}

-- an item without a generate construct
abbrev pub IsPlainWritten : ModuleItem → Type 0
IsPlainWritten x = IsItemWritten x × (AreInstancesWritten (instances_in x) × IsItemPlaced x)

abbrev pub AreItemsWritten : ModuleItem → Type 0
AreItemsWritten i.NoItem = Unit {0}
AreItemsWritten (i.Items x xs) = AreItemsWritten x × AreItemsWritten xs
AreItemsWritten (i.Region at xs) = AreItemsWritten xs
AreItemsWritten (i.Loop at h label xs) = AreItemsWritten xs
AreItemsWritten (i.Conditional xs) = AreItemsWritten xs
AreItemsWritten (i.Branch at c label xs) = AreItemsWritten xs
AreItemsWritten other = IsPlainWritten other

abbrev pub ArePortsWritten : PortList → Type 0
ArePortsWritten (DeclaredPorts ps) = Each (λ (p : PortDeclaration). AreValuesWritten (port_values p)) ps
ArePortsWritten other = Unit {0}

pub record IsModuleWritten (m : ModuleDeclaration) : Type 0 where
  pub ports : ArePortsWritten m.ports
  pub items : AreItemsWritten m.items

abbrev IsWhole : ModuleStep → Type 0
IsWhole s = IsStepWritten s × (HasWrittenInstances s × IsStepPlaced s)

abbrev pub AreWritten : List ModuleStep → Type 0
AreWritten steps = Each (λ (s : ModuleStep). IsStepWritten s × (HasWrittenInstances s × IsStepPlaced s)) steps

-- ---- what is told, and then what follows

then_so : {A B : Type 0} (t : Told A) (f : A → Told B) → AreWritten t.said → ((x : A) → AreWritten (f x).said) → AreWritten (t >>= f).said
then_so t f first next = by t.ending
  where
    by : (r : Result _ Fault) → AreWritten (go_on t.said r f).said
    by (Ok x) = each_append IsWhole t.said (f x).said first (next x)
    by (Err e) = first

each_so : {A : Type 0} (step : A → State → Told State) → ((x : A) (st : State) → AreWritten (step x st).said) → (xs : List A) (st : State)
    → AreWritten (each step xs st).said
each_so step one [] st = tt
each_so step one (x ∷ xs) st = then_so (step x st) (λ next. each step xs next) (one x st) (λ next. each_so step one xs next)

say_so : {A : Type 0} (s : ModuleStep) (x : A) → IsStepWritten s → HasWrittenInstances s × IsStepPlaced s → AreWritten (say s x).said
say_so s x w v = ((w, v), tt)

-- ---- parameters and ports

parameter_so : (s : ParameterSort) (t : ParameterType) (p : ParameterAssignment) (st : State) → AreWritten (parameter s t p st).said
unfolding parameter
parameter_so s t p st =
    then_so (quiet (given_or (override_of s st) (evaluated st.scope p.value)))
    (λ v. say (Parameter s p.name (as_declared t v)) (known s p.name (as_declared t v) st)) tt
    (λ v. say_so (Parameter s p.name (as_declared t v)) (known s p.name (as_declared t v) st) tt (tt, tt))

parameters_so : (s : ParameterSort) (k : Kind) (ps : List ParameterAssignment) (st : State) → AreWritten (parameters s k ps st).said
parameters_so s k ps st =
    then_so (quiet (parameter_type st.scope k)) (λ t. each (parameter s t) ps st) tt (λ t. each_so (parameter s t) (parameter_so s t) ps st)

header_so : (t : ParameterType) (ps : List HeaderParameterDeclaration) (st : State) → AreWritten (header_parameters t ps st).said
header_so t [] st = tt
header_so t (p ∷ ps) st =
    then_so (quiet (next_type st.scope t p.kind)) (λ u. parameter sort.Overridable u p.parameter st >>= λ next. header_parameters u ps next) tt
    (λ u. then_so (parameter sort.Overridable u p.parameter st) (λ next. header_parameters u ps next) (parameter_so sort.Overridable u p.parameter st)
    (λ next. header_so u ps next))

listed_so : (ns : List Identifier) → AreWritten (map Listed ns)
listed_so [] = tt
listed_so (n ∷ ns) = ((tt, (tt, tt)), listed_so ns)

declared_so : (ps : List PortDeclaration) → Each (λ (p : PortDeclaration). AreValuesWritten (port_values p)) ps → AreWritten (map Port ps)
declared_so [] w = tt
declared_so (p ∷ ps) w = ((w.0, (tt, tt)), declared_so ps w.1)

ports_so : (ps : PortList) → ArePortsWritten ps → AreWritten (port_steps ps)
ports_so NoPorts w = tt
ports_so (NamedPorts ns) w = listed_so ns
ports_so (DeclaredPorts ps) w = declared_so ps w

-- ---- blocks

abbrev Runs : (Option ℕ → State → Told State) → Type 0
Runs run = (here : Option ℕ) (st : State) → AreWritten (run here st).said

block_so : (run : Option ℕ → State → Told State) (items : ModuleItem) (here : Option ℕ) (label : Identifier) (turn : Option LoopTurn) → Runs run
    → (st : State) → AreWritten (block_with run items here label turn st).said
block_so run items here label turn so st =
    let opened = Opened (record { number = st.opened; parent = here; label = label; turn = turn }) items in
    then_so (say opened (inside turn items st)) (λ within. run (Some st.opened) within >>= λ end. say Closed (outside st end))
    (say_so opened (inside turn items st) tt (tt, tt))
    (λ within. then_so (run (Some st.opened) within) (λ end. say Closed (outside st end)) (so (Some st.opened) within)
    (λ end. say_so Closed (outside st end) tt (tt, tt)))

label_so : (label : Identifier) (st : State) → AreWritten (say (Labelled label) (labelled label st)).said
label_so label st = say_so (Labelled label) (labelled label st) tt (tt, tt)

loop_so : (run : Option ℕ → State → Told State) (items : ModuleItem) (at : Place) (h : LoopHead) (label : Identifier) (here : Option ℕ) → Runs run
    → (st : State) → AreWritten (loop_with run items at h label here st).said
loop_so run items at h label here so st =
    then_so (quiet (loop_turns at h st.scope st.left))
    (λ vs. say (Labelled label) (labelled label (record st { left = st.left - length vs }))
    >>= λ next. each (turn_with run items h.start.name label here) vs next)
    tt
    (λ vs. then_so (say (Labelled label) (labelled label (record st { left = st.left - length vs })))
    (λ next. each (turn_with run items h.start.name label here) vs next)
    (label_so label (record st { left = st.left - length vs }))
    (λ next. each_so (turn_with run items h.start.name label here)
    (λ v. block_so run items here label (Some (record { genvar = h.start.name; value = v })) so) vs next))

taken_so : (run : Option ℕ → State → Told State) (items : ModuleItem) (label : Identifier) (here : Option ℕ) → Runs run
    → (st : State) → AreWritten (taken_with run items label here st).said
taken_so run items label here so st =
    then_so (say (Labelled label) (labelled label st)) (λ next. block_with run items here label None next) (label_so label st)
    (λ next. block_so run items here label None so next)

-- ---- items

if_so : (b : Bool) (t u : Told State) → AreWritten t.said → AreWritten u.said → AreWritten (if b then t else u).said
if_so true t u first second = first
if_so false t u first second = second

mutual
  unfolding unrolled chosen branch

  items_so : (x : ModuleItem) (here : Option ℕ) → AreItemsWritten x → (st : State) → AreWritten (unrolled x here st).said
  items_so i.NoItem here w st = tt
  items_so (i.Items x xs) here w st =
      then_so (unrolled x here st) (λ next. unrolled xs here next) (items_so x here w.0 st) (λ next. items_so xs here w.1 next)
  items_so (i.Region at xs) here w st = items_so xs here w st
  items_so (i.Loop at h label xs) here w st = loop_so (unrolled xs) xs at h label here (λ inner st. items_so xs inner w st) st
  items_so (i.Conditional xs) here w st = chosen_so xs here w st
  items_so (i.Branch at c label xs) here w st = tt
  items_so (i.Parameters at k ps) here w st = parameters_so sort.Overridable k ps st
  items_so (i.LocalParameters at k ps) here w st = parameters_so sort.Local k ps st
  items_so (i.Inputs at net k ns) here w st = say_so (Item (i.Inputs at net k ns)) st w.0 w.1
  items_so (i.Outputs at net k xs) here w st = say_so (Item (i.Outputs at net k xs)) st w.0 w.1
  items_so (i.Wires at k xs) here w st = say_so (Item (i.Wires at k xs)) st w.0 w.1
  items_so (i.Regs at k xs) here w st = say_so (Item (i.Regs at k xs)) st w.0 w.1
  items_so (i.Genvars at ns) here w st = say_so (Item (i.Genvars at ns)) st w.0 w.1
  items_so (i.Assigns at xs) here w st = say_so (Item (i.Assigns at xs)) st w.0 w.1
  items_so (i.Combinational at x) here w st = say_so (Item (i.Combinational at x)) st w.0 w.1
  items_so (i.Clocked at n x) here w st = say_so (Item (i.Clocked at n x)) st w.0 w.1
  items_so (i.Instances n overrides xs) here w st = say_so (Item (i.Instances n overrides xs)) st w.0 w.1

  chosen_so : (x : ModuleItem) (here : Option ℕ) → AreItemsWritten x → (st : State) → AreWritten (chosen x here st).said
  chosen_so (i.Items x xs) here w st = branch_so x (chosen xs here) here w.0 (λ next. chosen_so xs here w.1 next) st
  chosen_so other here w st = tt

  branch_so : (x : ModuleItem) (behind : State → Told State) (here : Option ℕ) → AreItemsWritten x → ((st : State) → AreWritten (behind st).said)
      → (st : State) → AreWritten (branch x behind here st).said
  branch_so (i.Branch at c label xs) behind here w rest st =
      then_so (quiet (is_taken st.scope c)) (λ yes. if yes then taken_with (unrolled xs) xs label here st else behind st) tt
      (λ yes. if_so yes (taken_with (unrolled xs) xs label here st) (behind st)
      (taken_so (unrolled xs) xs label here (λ inner st. items_so xs inner w st) st) (rest st))
  branch_so other behind here w rest st = rest st

-- ---- modules

pub steps_so : (limit : ℕ) (overrides : List (Option ConstantValue)) (m : ModuleDeclaration) → IsModuleWritten m
    → AreWritten (unrolled_module limit overrides m).said
unfolding unrolled_module
steps_so limit overrides m w =
    then_so (header_parameters untyped m.parameters (beginning limit overrides m))
    (λ next. say_all (port_steps m.ports) next >>= λ after. unrolled m.items None after)
    (header_so untyped m.parameters (beginning limit overrides m))
    (λ next. then_so (say_all (port_steps m.ports) next) (λ after. unrolled m.items None after) (ports_so m.ports w.ports)
    (λ after. items_so m.items None w.items after))
