-- What stands in a generate block looks at no override, overrides nothing and declares no port.
use Rattle.std.proofs.Common.{◌≡◌, ℕ, zero, suc, ◌-◌, Bool, true, false, ◌&&◌, if◌then◌else◌, List, [], ◌∷◌, ◌++◌, length, Option, Some, None, Result}
use Rattle.std.proofs.Common.{Ok, Err, refl, ◌∙◌, ap, ap₂}
use Rattle.std.proofs.lemmas.Bool.{and_parts, false≢true}
use Rattle.ls_text.specs.declared.fault.Fault.{Fault}
use Rattle.ls_text.specs.declared.place.Place.{Place}
use Rattle.verilog_ast.specs.declared.identifier.Identifier.{Identifier}
use Rattle.verilog_ast.specs.Declarations.{Kind, ParameterAssignment}
use Rattle.verilog_ast.specs.Expressions.{Expression}
use Rattle.verilog_ast.specs.Items as i
use Rattle.verilog_ast.specs.Items.{ModuleItem, LoopHead}
use Rattle.gen_unroll.specs.declared.parameter_sort.ParameterSort.TheVariants as sort
use Rattle.gen_unroll.specs.Declarations.{ParameterType, parameter_type, as_declared}
use Rattle.gen_unroll.specs.Steps.{LoopTurn, ModuleStep, Parameter, Item, Labelled, Opened, Closed}
use Rattle.gen_unroll.specs.Told.{Told, go_on, ◌>>=◌, done, say, quiet}
use Rattle.gen_unroll.specs.Unrolled.{State, each, known, parameter, parameters, is_taken, loop_turns, labelled, inside, outside, block_with}
use Rattle.gen_unroll.specs.Unrolled.{turn_with, loop_with, taken_with, unrolled, chosen, branch}
use Rattle.gen_unroll.specs.Values.{ConstantValue, evaluated}
use Rattle.version_swap.specs.Outer.{is_item_outside, are_ports_outside}
use Rattle.version_swap.specs.OuterTrees.{may_stand_in_block}
use Rattle.version_swap.proofs.Blind.{IsBlind, under, told_under, then_blind, quiet_blind, each_blind}
use Rattle.version_swap.proofs.Levels.{blocks_behind, outer_overrides, more_overrides, more_ports}

-- steps that override nothing and declare no port, within however many blocks
pub record IsInner (said : List ModuleStep) : Type 0 where
  pub ports : (n : ℕ) → are_ports_outside n said ≡ true
  pub none : (n : ℕ) → outer_overrides n said ≡ []

-- what goes on by itself in a block
pub record InBlock (g : State → Told State) : Type 0 where
  pub blind : IsBlind g
  pub inner : (st : State) → IsInner (g st).said

-- ---- steps

nothing_inner : IsInner []
nothing_inner = record { ports = λ n. refl; none = λ n. refl }

inner_more : (xs ys : List ModuleStep) → IsInner xs → IsInner ys → IsInner (xs ++ ys)
inner_more xs ys first next = record {
  ports = λ n. more_ports n xs ys ∙ ap₂ (λ a b. a && b) (first.ports n) (next.ports (blocks_behind n xs));
  none = λ n. more_overrides n xs ys ∙ ap₂ (λ (us vs : List (Option ConstantValue)). us ++ vs) (first.none n) (next.none (blocks_behind n xs));
}

on_inner : (said : List ModuleStep) (r : Result State Fault) (g : State → Told State) → IsInner said → ((st : State) → IsInner (g st).said)
    → IsInner (go_on said r g).said
on_inner said (Ok st) g first next = inner_more said (g st).said first (next st)
on_inner said (Err e) g first next = first

then_inner : (t : Told State) (g : State → Told State) → IsInner t.said → ((st : State) → IsInner (g st).said) → IsInner (t >>= g).said
then_inner t g first next = on_inner t.said t.ending g first next

quiet_inner : {A : Type 0} (r : Result A Fault) (g : A → Told State) → ((x : A) → IsInner (g x).said) → IsInner (quiet r >>= g).said
quiet_inner (Ok x) g is = is x
quiet_inner (Err e) g is = nothing_inner

each_inner : {A : Type 0} (step : A → State → Told State) → ((x : A) (st : State) → IsInner (step x st).said) → (xs : List A) (st : State)
    → IsInner (each step xs st).said
each_inner step is [] st = nothing_inner
each_inner step is (x ∷ xs) st = then_inner (step x st) (each step xs) (is x st) (each_inner step is xs)

done_in : InBlock (λ st. done st)
done_in = record { blind = λ os st. refl; inner = λ st. nothing_inner }

then_in : (f g : State → Told State) → InBlock f → InBlock g → InBlock (λ st. f st >>= g)
then_in f g first next = record {
  blind = λ os st. then_blind os (f st) (f (under os st)) g (first.blind os st) next.blind;
  inner = λ st. then_inner (f st) g (first.inner st) next.inner;
}

each_in : {A : Type 0} (step : A → State → Told State) → ((x : A) → InBlock (step x)) → (xs : List A) → InBlock (each step xs)
each_in step is xs = record { blind = each_blind step (λ x. (is x).blind) xs; inner = each_inner step (λ x. (is x).inner) xs }

-- an item that declares no port
item_in : (x : ModuleItem) → ((n : ℕ) → is_item_outside n x ≡ true) → InBlock (λ st. say (Item x) st)
item_in x no_port = record {
  blind = λ os st. refl;
  inner = λ st. record { ports = λ n. ap (λ b. b && true) (no_port n); none = λ n. refl };
}

-- ---- localparams

one_local : (n : ℕ) (name : Identifier) (v : ConstantValue) → outer_overrides n (Parameter sort.Local name v ∷ []) ≡ []
one_local zero name v = refl
one_local (suc n) name v = refl

local_inner : (name : Identifier) (v : ConstantValue) → IsInner (Parameter sort.Local name v ∷ [])
local_inner name v = record { ports = λ n. refl; none = λ n. one_local n name v }

local_in : (t : ParameterType) (p : ParameterAssignment) → InBlock (parameter sort.Local t p)
unfolding parameter
local_in t p = record {
  blind = λ os st. quiet_blind os (evaluated st.scope p.value)
      (λ v. say (Parameter sort.Local p.name (as_declared t v)) (known sort.Local p.name (as_declared t v) st))
      (λ v. say (Parameter sort.Local p.name (as_declared t v)) (known sort.Local p.name (as_declared t v) (under os st)))
      (λ v. refl);
  inner = λ st. quiet_inner (evaluated st.scope p.value)
      (λ v. say (Parameter sort.Local p.name (as_declared t v)) (known sort.Local p.name (as_declared t v) st))
      (λ v. local_inner p.name (as_declared t v));
}

pub locals_in : (k : Kind) (ps : List ParameterAssignment) → InBlock (parameters sort.Local k ps)
locals_in k ps = record {
  blind = λ os st. quiet_blind os (parameter_type st.scope k) (λ t. each (parameter sort.Local t) ps st)
      (λ t. each (parameter sort.Local t) ps (under os st))
      (λ t. (each_in (parameter sort.Local t) (local_in t) ps).blind os st);
  inner = λ st. quiet_inner (parameter_type st.scope k) (λ t. each (parameter sort.Local t) ps st)
      (λ t. (each_in (parameter sort.Local t) (local_in t) ps).inner st);
}

-- ---- blocks

abbrev Runs : (Option ℕ → State → Told State) → Type 0
Runs run = (here : Option ℕ) → InBlock (run here)

closed_in : (before : State) → InBlock (λ end. say Closed (outside before end))
closed_in before = record { blind = λ os st. refl; inner = λ st. record { ports = λ n. refl; none = λ n. refl } }

block_in : (run : Option ℕ → State → Told State) (items : ModuleItem) (here : Option ℕ) (label : Identifier) (turn : Option LoopTurn)
    → Runs run → InBlock (block_with run items here label turn)
block_in run items here label turn is = record {
  blind = λ os st. then_blind os
      (say (Opened (record { number = st.opened; parent = here; label = label; turn = turn }) items) (inside turn items st))
      (say (Opened (record { number = st.opened; parent = here; label = label; turn = turn }) items) (inside turn items (under os st)))
      (λ within. run (Some st.opened) within >>= λ end. say Closed (outside st end)) refl
      (then_in (run (Some st.opened)) (λ end. say Closed (outside st end)) (is (Some st.opened)) (closed_in st)).blind;
  inner = λ st. then_inner
      (say (Opened (record { number = st.opened; parent = here; label = label; turn = turn }) items) (inside turn items st))
      (λ within. run (Some st.opened) within >>= λ end. say Closed (outside st end))
      (record { ports = λ n. refl; none = λ n. refl })
      (then_in (run (Some st.opened)) (λ end. say Closed (outside st end)) (is (Some st.opened)) (closed_in st)).inner;
}

labelled_in : (label : Identifier) → InBlock (λ st. say (Labelled label) (labelled label st))
labelled_in label = record { blind = λ os st. refl; inner = λ st. record { ports = λ n. refl; none = λ n. refl } }

turns_in : (run : Option ℕ → State → Told State) (items : ModuleItem) (genvar label : Identifier) (here : Option ℕ) (vs : List ConstantValue)
    → Runs run → InBlock (each (turn_with run items genvar label here) vs)
turns_in run items genvar label here vs is =
    each_in (turn_with run items genvar label here) (λ v. block_in run items here label (Some (record { genvar = genvar; value = v })) is) vs

counted_in : (run : Option ℕ → State → Told State) (items : ModuleItem) (genvar label : Identifier) (here : Option ℕ) (vs : List ConstantValue)
    → Runs run
    → InBlock (λ st. say (Labelled label) (labelled label (record st { left = st.left - length vs }))
    >>= λ next. each (turn_with run items genvar label here) vs next)
counted_in run items genvar label here vs is =
    then_in (λ st. say (Labelled label) (labelled label (record st { left = st.left - length vs }))) (each (turn_with run items genvar label here) vs)
    (record { blind = λ os st. refl; inner = λ st. record { ports = λ n. refl; none = λ n. refl } })
    (turns_in run items genvar label here vs is)

pub loop_in : (run : Option ℕ → State → Told State) (items : ModuleItem) (at : Place) (h : LoopHead) (label : Identifier) (here : Option ℕ)
    → Runs run → InBlock (loop_with run items at h label here)
loop_in run items at h label here is = record {
  blind = λ os st. quiet_blind os (loop_turns at h st.scope st.left)
      (λ vs. say (Labelled label) (labelled label (record st { left = st.left - length vs }))
      >>= λ next. each (turn_with run items h.start.name label here) vs next)
      (λ vs. say (Labelled label) (labelled label (record (under os st) { left = st.left - length vs }))
      >>= λ next. each (turn_with run items h.start.name label here) vs next)
      (λ vs. (counted_in run items h.start.name label here vs is).blind os st);
  inner = λ st. quiet_inner (loop_turns at h st.scope st.left)
      (λ vs. say (Labelled label) (labelled label (record st { left = st.left - length vs }))
      >>= λ next. each (turn_with run items h.start.name label here) vs next)
      (λ vs. (counted_in run items h.start.name label here vs is).inner st);
}

taken_in : (run : Option ℕ → State → Told State) (items : ModuleItem) (label : Identifier) (here : Option ℕ)
    → Runs run → InBlock (taken_with run items label here)
taken_in run items label here is =
    then_in (λ st. say (Labelled label) (labelled label st)) (block_with run items here label None) (labelled_in label)
    (block_in run items here label None is)

if_blind : (os : List (Option ConstantValue)) (b : Bool) (t u v w : Told State) → v ≡ told_under os t → w ≡ told_under os u
    → (if b then v else w) ≡ told_under os (if b then t else u)
if_blind os true t u v w first second = first
if_blind os false t u v w first second = second

if_inner : (b : Bool) (t u : Told State) → IsInner t.said → IsInner u.said → IsInner (if b then t else u).said
if_inner true t u first second = first
if_inner false t u first second = second

branch_in : (c : Option Expression) (taken behind : State → Told State) → InBlock taken → InBlock behind
    → InBlock (λ st. quiet (is_taken st.scope c) >>= λ yes. if yes then taken st else behind st)
branch_in c taken behind first second = record {
  blind = λ os st. quiet_blind os (is_taken st.scope c) (λ yes. if yes then taken st else behind st)
      (λ yes. if yes then taken (under os st) else behind (under os st))
      (λ yes. if_blind os yes (taken st) (behind st) (taken (under os st)) (behind (under os st)) (first.blind os st) (second.blind os st));
  inner = λ st. quiet_inner (is_taken st.scope c) (λ yes. if yes then taken st else behind st)
      (λ yes. if_inner yes (taken st) (behind st) (first.inner st) (second.inner st));
}

-- ---- items

mutual
  unfolding unrolled chosen branch

  pub item_in_block : (x : ModuleItem) (here : Option ℕ) → may_stand_in_block x ≡ true → InBlock (unrolled x here)
  item_in_block i.NoItem here is = done_in
  item_in_block (i.Items x xs) here is =
      then_in (unrolled x here) (unrolled xs here) (item_in_block x here (and_parts (may_stand_in_block x) (may_stand_in_block xs) is).0)
      (item_in_block xs here (and_parts (may_stand_in_block x) (may_stand_in_block xs) is).1)
  item_in_block (i.Region at xs) here is = item_in_block xs here is
  item_in_block (i.Loop at h label xs) here is = loop_in (unrolled xs) xs at h label here (λ inner. item_in_block xs inner is)
  item_in_block (i.Conditional xs) here is = branches_in_block xs here is
  item_in_block (i.Branch at c label xs) here is = done_in
  item_in_block (i.Parameters at k ps) here is = absurd (false≢true is)
  item_in_block (i.Inputs at net k ns) here is = absurd (false≢true is)
  item_in_block (i.Outputs at net k xs) here is = absurd (false≢true is)
  item_in_block (i.LocalParameters at k ps) here is = locals_in k ps
  item_in_block other here is = item_in other (λ n. refl)

  pub branches_in_block : (x : ModuleItem) (here : Option ℕ) → may_stand_in_block x ≡ true → InBlock (chosen x here)
  branches_in_block (i.Items x xs) here is =
      branch_in_block x (chosen xs here) here (and_parts (may_stand_in_block x) (may_stand_in_block xs) is).0
      (branches_in_block xs here (and_parts (may_stand_in_block x) (may_stand_in_block xs) is).1)
  branches_in_block other here is = done_in

  branch_in_block : (x : ModuleItem) (behind : State → Told State) (here : Option ℕ) → may_stand_in_block x ≡ true → InBlock behind
      → InBlock (branch x behind here)
  branch_in_block (i.Branch at c label xs) behind here is next =
      branch_in c (taken_with (unrolled xs) xs label here) behind (taken_in (unrolled xs) xs label here (λ inner. item_in_block xs inner is)) next
  branch_in_block other behind here is next = next
