-- What an unrolled module tells: its blocks are closed, and its parameters outside of blocks are those of the text.
use Rattle.std.proofs.Common.{◌≡◌, ℕ, suc, ◌-◌, Bool, true, false, if◌then◌else◌, List, [], ◌∷◌, ◌++◌, length, map, Option, Some, None, Result, Ok}
use Rattle.std.proofs.Common.{Err, refl, ◌∙◌, ap, ap₂, arith}
use Rattle.std.specs.Result.{OnOk}
use Rattle.std.proofs.lemmas.Result.{on_ok_weaker}
use Rattle.ls_text.specs.declared.fault.Fault.{Fault}
use Rattle.ls_text.specs.declared.place.Place.{Place}
use Rattle.verilog_ast.specs.declared.identifier.Identifier.{Identifier}
use Rattle.verilog_ast.specs.Declarations.{Kind, ParameterAssignment, HeaderParameterDeclaration, PortDeclaration, PortList, NoPorts, NamedPorts}
use Rattle.verilog_ast.specs.Declarations.{DeclaredPorts}
use Rattle.verilog_ast.specs.Items as i
use Rattle.verilog_ast.specs.Items.{ModuleItem, LoopHead, ModuleDeclaration}
use Rattle.gen_unroll.specs.declared.parameter_sort.ParameterSort.{ParameterSort}
use Rattle.gen_unroll.specs.declared.parameter_sort.ParameterSort.TheVariants as sort
use Rattle.gen_unroll.specs.Declarations.{ParameterType, parameter_type, as_declared}
use Rattle.gen_unroll.specs.Overriding.{sort_of_each, item_sorts, constant_sorts}
use Rattle.gen_unroll.specs.Steps.{LoopTurn, ModuleStep, Listed, Port, Parameter, Item, Labelled, Opened, Closed}
use Rattle.gen_unroll.specs.Told.{Told, go_on, ◌>>=◌, say, quiet}
use Rattle.gen_unroll.specs.Unrolled.{State, each, override_of, given_or, known, parameter, parameters, next_type, header_parameters, port_steps}
use Rattle.gen_unroll.specs.Unrolled.{is_taken, loop_turns, labelled, inside, outside, block_with, turn_with, loop_with, taken_with, unrolled, chosen}
use Rattle.gen_unroll.specs.Unrolled.{branch, untyped, beginning, unrolled_module}
use Rattle.gen_unroll.specs.Values.{ConstantValue, evaluated}
use Rattle.version_swap.proofs.Levels.{blocks_behind, outer_sorts, more_blocks, more_sorts}

-- behind the steps the same blocks are open, and parameters of these sorts stand outside of blocks
pub record IsTold (ss : List ParameterSort) (said : List ModuleStep) : Type 0 where
  pub level : (n : ℕ) → blocks_behind n said ≡ n
  pub outer : outer_sorts 0 said ≡ ss
  pub inner : (n : ℕ) → outer_sorts (suc n) said ≡ []

-- unless there is a fault
abbrev pub Tells : List ParameterSort → Told State → Type 0
Tells ss t = OnOk t.ending (IsTold ss t.said)

-- ---- steps

nothing_told : IsTold [] []
nothing_told = record { level = λ n. refl; outer = refl; inner = λ n. refl }

told_more : (ss ts : List ParameterSort) (xs ys : List ModuleStep) → IsTold ss xs → IsTold ts ys → IsTold (ss ++ ts) (xs ++ ys)
told_more ss ts xs ys first next = record {
  level = λ n. more_blocks n xs ys ∙ ap (λ (k : ℕ). blocks_behind k ys) (first.level n) ∙ next.level n;
  outer = more_sorts 0 xs ys
      ∙ ap₂ (λ (us vs : List ParameterSort). us ++ vs) first.outer (ap (λ (k : ℕ). outer_sorts k ys) (first.level 0) ∙ next.outer);
  inner = λ n. more_sorts (suc n) xs ys
      ∙ ap₂ (λ (us vs : List ParameterSort). us ++ vs) (first.inner n) (ap (λ (k : ℕ). outer_sorts k ys) (first.level (suc n)) ∙ next.inner n);
}

on_told : (ss ts : List ParameterSort) (said : List ModuleStep) (r : Result State Fault) (g : State → Told State)
    → OnOk r (IsTold ss said) → ((st : State) → Tells ts (g st)) → Tells (ss ++ ts) (go_on said r g)
on_told ss ts said (Ok st) g first next =
    on_ok_weaker {P = IsTold ts (g st).said} {Q = IsTold (ss ++ ts) (said ++ (g st).said)} (g st).ending (told_more ss ts said (g st).said first)
    (next st)
on_told ss ts said (Err e) g first next = tt

then_told : (ss ts : List ParameterSort) (t : Told State) (g : State → Told State) → Tells ss t → ((st : State) → Tells ts (g st))
    → Tells (ss ++ ts) (t >>= g)
then_told ss ts t g first next = on_told ss ts t.said t.ending g first next

quiet_told : {A : Type 0} (ss : List ParameterSort) (r : Result A Fault) (g : A → Told State) → ((x : A) → Tells ss (g x)) → Tells ss (quiet r >>= g)
quiet_told ss (Ok x) g is = is x
quiet_told ss (Err e) g is = tt

-- ---- parameters

one_told : (s : ParameterSort) (name : Identifier) (v : ConstantValue) → IsTold (s ∷ []) (Parameter s name v ∷ [])
one_told s name v = record { level = λ n. refl; outer = refl; inner = λ n. refl }

parameter_told : (s : ParameterSort) (t : ParameterType) (p : ParameterAssignment) (st : State) → Tells (s ∷ []) (parameter s t p st)
unfolding parameter
parameter_told s t p st =
    quiet_told (s ∷ []) (given_or (override_of s st) (evaluated st.scope p.value))
    (λ v. say (Parameter s p.name (as_declared t v)) (known s p.name (as_declared t v) st)) (λ v. one_told s p.name (as_declared t v))

each_told : (s : ParameterSort) (t : ParameterType) (ps : List ParameterAssignment) (st : State)
    → Tells (sort_of_each s ps) (each (parameter s t) ps st)
each_told s t [] st = nothing_told
each_told s t (p ∷ ps) st =
    then_told (s ∷ []) (sort_of_each s ps) (parameter s t p st) (each (parameter s t) ps) (parameter_told s t p st) (each_told s t ps)

parameters_told : (s : ParameterSort) (k : Kind) (ps : List ParameterAssignment) (st : State) → Tells (sort_of_each s ps) (parameters s k ps st)
parameters_told s k ps st =
    quiet_told (sort_of_each s ps) (parameter_type st.scope k) (λ t. each (parameter s t) ps st) (λ t. each_told s t ps st)

pub header_told : (t : ParameterType) (ps : List HeaderParameterDeclaration) (st : State)
    → Tells (sort_of_each sort.Overridable ps) (header_parameters t ps st)
header_told t [] st = nothing_told
header_told t (p ∷ ps) st =
    quiet_told (sort_of_each sort.Overridable (p ∷ ps)) (next_type st.scope t p.kind)
    (λ u. parameter sort.Overridable u p.parameter st >>= λ next. header_parameters u ps next)
    (λ u. then_told (sort.Overridable ∷ []) (sort_of_each sort.Overridable ps) (parameter sort.Overridable u p.parameter st) (header_parameters u ps)
    (parameter_told sort.Overridable u p.parameter st) (header_told u ps))

-- ---- ports

listed_told : (ns : List Identifier) → IsTold [] (map Listed ns)
listed_told [] = nothing_told
listed_told (n ∷ ns) = record { level = (listed_told ns).level; outer = (listed_told ns).outer; inner = (listed_told ns).inner }

declared_told : (ps : List PortDeclaration) → IsTold [] (map Port ps)
declared_told [] = nothing_told
declared_told (p ∷ ps) = record { level = (declared_told ps).level; outer = (declared_told ps).outer; inner = (declared_told ps).inner }

pub ports_told : (ps : PortList) → IsTold [] (port_steps ps)
ports_told NoPorts = nothing_told
ports_told (NamedPorts ns) = listed_told ns
ports_told (DeclaredPorts ps) = declared_told ps

-- ---- blocks

abbrev Runs : List ParameterSort → (Option ℕ → State → Told State) → Type 0
Runs ss run = (here : Option ℕ) (st : State) → Tells ss (run here st)

-- what stands in a block counts for nothing outside of it
in_block_told : (ss : List ParameterSort) (xs : List ModuleStep) → IsTold ss xs → (n : ℕ) → outer_sorts (suc n) (xs ++ Closed ∷ []) ≡ []
in_block_told ss xs is n =
    more_sorts (suc n) xs (Closed ∷ []) ∙ ap (λ (us : List ParameterSort). us ++ []) (is.inner n)

closed_told : (ss : List ParameterSort) (xs : List ModuleStep) → IsTold ss xs → (n : ℕ) → blocks_behind (suc n) (xs ++ Closed ∷ []) ≡ n
closed_told ss xs is n =
    let one : suc n - 1 ≡ n = omega arith in
    more_blocks (suc n) xs (Closed ∷ []) ∙ ap (λ (k : ℕ). k - 1) (is.level (suc n)) ∙ one

block_ends : (ss : List ParameterSort) (opened : ModuleStep) (before : State) (said : List ModuleStep) (r : Result State Fault)
    → ((xs : List ModuleStep) → IsTold ss xs → IsTold [] (opened ∷ xs ++ Closed ∷ [])) → OnOk r (IsTold ss said)
    → OnOk (go_on said r (λ end. say Closed (outside before end))).ending
    (IsTold [] (opened ∷ (go_on said r (λ end. say Closed (outside before end))).said))
block_ends ss opened before said (Ok st) whole is = whole said is
block_ends ss opened before said (Err e) whole is = tt

block_told : (ss : List ParameterSort) (run : Option ℕ → State → Told State) (items : ModuleItem) (here : Option ℕ) (label : Identifier)
    (turn : Option LoopTurn)
    → Runs ss run → (st : State) → Tells [] (block_with run items here label turn st)
block_told ss run items here label turn is st =
    block_ends ss (Opened (record { number = st.opened; parent = here; label = label; turn = turn }) items) st
    (run (Some st.opened) (inside turn items st)).said (run (Some st.opened) (inside turn items st)).ending
    (λ xs inner. record { level = closed_told ss xs inner; outer = in_block_told ss xs inner 0; inner = λ n. in_block_told ss xs inner (suc n) })
    (is (Some st.opened) (inside turn items st))

labelled_told : (label : Identifier) → IsTold [] (Labelled label ∷ [])
labelled_told label = record { level = λ n. refl; outer = refl; inner = λ n. refl }

turns_told : (ss : List ParameterSort) (run : Option ℕ → State → Told State) (items : ModuleItem) (genvar label : Identifier) (here : Option ℕ)
    → Runs ss run → (vs : List ConstantValue) (st : State) → Tells [] (each (turn_with run items genvar label here) vs st)
turns_told ss run items genvar label here is [] st = nothing_told
turns_told ss run items genvar label here is (v ∷ vs) st =
    then_told [] [] (turn_with run items genvar label here v st) (each (turn_with run items genvar label here) vs)
    (block_told ss run items here label (Some (record { genvar = genvar; value = v })) is st) (turns_told ss run items genvar label here is vs)

loop_told : (ss : List ParameterSort) (run : Option ℕ → State → Told State) (items : ModuleItem) (at : Place) (h : LoopHead) (label : Identifier)
    (here : Option ℕ)
    → Runs ss run → (st : State) → Tells [] (loop_with run items at h label here st)
loop_told ss run items at h label here is st =
    quiet_told [] (loop_turns at h st.scope st.left)
    (λ vs. say (Labelled label) (labelled label (record st { left = st.left - length vs }))
    >>= λ next. each (turn_with run items h.start.name label here) vs next)
    (λ vs. then_told [] [] (say (Labelled label) (labelled label (record st { left = st.left - length vs })))
    (each (turn_with run items h.start.name label here) vs)
    (labelled_told label) (turns_told ss run items h.start.name label here is vs))

taken_told : (ss : List ParameterSort) (run : Option ℕ → State → Told State) (items : ModuleItem) (label : Identifier) (here : Option ℕ)
    → Runs ss run → (st : State) → Tells [] (taken_with run items label here st)
taken_told ss run items label here is st =
    then_told [] [] (say (Labelled label) (labelled label st)) (block_with run items here label None) (labelled_told label)
    (block_told ss run items here label None is)

if_told : (b : Bool) (t u : Told State) → Tells [] t → Tells [] u → Tells [] (if b then t else u)
if_told true t u first second = first
if_told false t u first second = second

item_told : (x : ModuleItem) → IsTold [] (Item x ∷ [])
item_told x = record { level = λ n. refl; outer = refl; inner = λ n. refl }

-- ---- items

mutual
  unfolding unrolled chosen branch

  pub items_told : (x : ModuleItem) (here : Option ℕ) (st : State) → Tells (item_sorts x) (unrolled x here st)
  items_told i.NoItem here st = nothing_told
  items_told (i.Items x xs) here st =
      then_told (item_sorts x) (item_sorts xs) (unrolled x here st) (unrolled xs here) (items_told x here st) (items_told xs here)
  items_told (i.Region at xs) here st = items_told xs here st
  items_told (i.Loop at h label xs) here st = loop_told (item_sorts xs) (unrolled xs) xs at h label here (items_told xs) st
  items_told (i.Conditional xs) here st = branches_told xs here st
  items_told (i.Branch at c label xs) here st = nothing_told
  items_told (i.Parameters at k ps) here st = parameters_told sort.Overridable k ps st
  items_told (i.LocalParameters at k ps) here st = parameters_told sort.Local k ps st
  items_told other here st = item_told other

  branches_told : (x : ModuleItem) (here : Option ℕ) (st : State) → Tells [] (chosen x here st)
  branches_told (i.Items x xs) here st = branch_told x (chosen xs here) here (branches_told xs here) st
  branches_told other here st = nothing_told

  branch_told : (x : ModuleItem) (behind : State → Told State) (here : Option ℕ) → ((st : State) → Tells [] (behind st)) → (st : State)
      → Tells [] (branch x behind here st)
  branch_told (i.Branch at c label xs) behind here is st =
      quiet_told [] (is_taken st.scope c) (λ yes. if yes then taken_with (unrolled xs) xs label here st else behind st)
      (λ yes. if_told yes (taken_with (unrolled xs) xs label here st) (behind st)
      (taken_told (item_sorts xs) (unrolled xs) xs label here (items_told xs) st) (is st))
  branch_told other behind here is st = is st

-- ---- modules

pub module_is_told : (limit : ℕ) (overrides : List (Option ConstantValue)) (m : ModuleDeclaration)
    → Tells (constant_sorts m) (unrolled_module limit overrides m)
unfolding unrolled_module
module_is_told limit overrides m =
    then_told (sort_of_each sort.Overridable m.parameters) (item_sorts m.items) (header_parameters untyped m.parameters (beginning limit overrides m))
    (λ next. (record { said = port_steps m.ports; ending = Ok next }) >>= λ next. unrolled m.items None next)
    (header_told untyped m.parameters (beginning limit overrides m))
    (λ next. then_told [] (item_sorts m.items) (record { said = port_steps m.ports; ending = Ok next }) (unrolled m.items None) (ports_told m.ports)
    (items_told m.items None))
