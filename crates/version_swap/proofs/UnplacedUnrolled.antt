-- A module without places is unrolled into the same steps without places, up to the same first fault (IEEE 1364-2005, 12.4).
use Rattle.std.proofs.Common.{◌≡◌, ℕ, ◌+◌, ◌-◌, List, [], ◌∷◌, ◌++◌, length, map, Option, Some, None, Result, refl, ◌∙◌, ap, ap₂}
use Rattle.std.specs.Option.{option_map}
use Rattle.ls_text.specs.declared.fault.Fault.{Fault}
use Rattle.ls_text.specs.declared.place.Place.{Place}
use Rattle.ls_text.proofs.Lists.{map_so}
use Rattle.verilog_ast.specs.declared.identifier.Identifier.{Identifier}
use Rattle.verilog_ast.specs.Declarations.{Kind, ParameterAssignment, HeaderParameterDeclaration, PortList, NoPorts, NamedPorts, DeclaredPorts}
use Rattle.verilog_ast.specs.Items as i
use Rattle.verilog_ast.specs.Items.{ModuleItem, LoopHead, ModuleDeclaration}
use Rattle.verilog_ast.specs.Places.{no_place}
use Rattle.width_rules.specs.Scopes.{Scope}
use Rattle.gen_unroll.specs.declared.parameter_sort.ParameterSort.{ParameterSort}
use Rattle.gen_unroll.specs.declared.parameter_sort.ParameterSort.TheVariants as sort
use Rattle.gen_unroll.specs.Declarations.{ParameterType}
use Rattle.gen_unroll.specs.Overriding.{item_sorts, constant_sorts}
use Rattle.gen_unroll.specs.Steps.{LoopTurn, ModuleStep, Listed, Port, Labelled, Opened, Closed}
use Rattle.gen_unroll.specs.Told.{Told, ◌>>=◌, say, say_all}
use Rattle.gen_unroll.specs.Unrolled.{State, each, override_of, given_or, parameter, parameters, next_type, header_parameters, port_steps, labelled, inside, outside, block_with, turn_with, loop_with, taken_with, unrolled, chosen, branch, beginning, untyped, module_told, unrolled_module}
use Rattle.gen_unroll.specs.Values.{ConstantValue}
use Rattle.gen_unroll.proofs.Overridden.{sorts_so}
use Rattle.version_swap.specs.Unplaced.{unplaced_name, unplaced_kind, unplaced_parameter, unplaced_header_parameter, unplaced_port, unplaced_ports, unplaced_head, unplaced_item, unplaced_declaration}
use Rattle.version_swap.specs.UnplacedFindings.{answer_unplaced, turn_unplaced, step_unplaced, told_unplaced}
use Rattle.version_swap.proofs.UnplacedLoops.{same_taken, same_loop_turns}
use Rattle.version_swap.proofs.UnplacedNames.{same_inner, same_own_names}
use Rattle.version_swap.proofs.UnplacedTold.{step_so, said_so, quiet_so, each_so, if_told}
use Rattle.version_swap.proofs.UnplacedValues.{same_evaluated, same_type}

-- ---- parameters

given_so : (o : Option ConstantValue) (r q : Result ConstantValue Fault) → q ≡ answer_unplaced r → given_or o q ≡ answer_unplaced (given_or o r)
given_so (Some v) r q same = refl
given_so None r q same = same

parameter_so : (s : ParameterSort) (t : ParameterType) (p : ParameterAssignment) (st : State)
    → parameter s t (unplaced_parameter p) st ≡ told_unplaced (parameter s t p st)
unfolding parameter
parameter_so s t p st = quiet_so _ _ _ _ (given_so (override_of s st) _ _ (same_evaluated st.scope p.value)) (λ v. refl)

parameters_so : (s : ParameterSort) (k : Kind) (ps : List ParameterAssignment) (st : State)
    → parameters s (unplaced_kind k) (map unplaced_parameter ps) st ≡ told_unplaced (parameters s k ps st)
parameters_so s k ps st =
    quiet_so _ _ _ _ (same_type st.scope k) (λ t. each_so unplaced_parameter (parameter s t) (parameter s t) (parameter_so s t) ps st)

next_type_so : (scope : Scope) (t : ParameterType) (k : Option Kind)
    → next_type scope t (option_map unplaced_kind k) ≡ answer_unplaced (next_type scope t k)
next_type_so scope t None = refl
next_type_so scope t (Some k) = same_type scope k

header_parameters_so : (t : ParameterType) (ps : List HeaderParameterDeclaration) (st : State)
    → header_parameters t (map unplaced_header_parameter ps) st ≡ told_unplaced (header_parameters t ps st)
header_parameters_so t [] st = refl
header_parameters_so t (p ∷ ps) st =
    quiet_so _ _ _ _ (next_type_so st.scope t p.kind)
    (λ u. step_so _ _ _ _ (parameter_so sort.Overridable u p.parameter st) (λ next. header_parameters_so u ps next))

-- ---- ports

ports_so : (ps : PortList) → port_steps (unplaced_ports ps) ≡ map step_unplaced (port_steps ps)
ports_so NoPorts = refl
ports_so (NamedPorts ns) = map_so Listed unplaced_name step_unplaced (λ n. refl) ns
ports_so (DeclaredPorts ps) = map_so Port unplaced_port step_unplaced (λ p. refl) ps

-- ---- blocks

-- running without places
abbrev Runs : (Option ℕ → State → Told State) → (Option ℕ → State → Told State) → Type 0
Runs run runs = (here : Option ℕ) (st : State) → runs here st ≡ told_unplaced (run here st)

inside_so : (turn : Option LoopTurn) (items : ModuleItem) (st : State)
    → inside (option_map turn_unplaced turn) (unplaced_item items) st ≡ inside turn items st
inside_so turn items st = ap (λ (scope : Scope). record st { scope = scope; opened = st.opened + 1 }) (same_inner turn items st.scope)

block_so : (run runs : Option ℕ → State → Told State) (items : ModuleItem) (here : Option ℕ) (label : Identifier) (turn : Option LoopTurn)
    (st : State) → Runs run runs
    → block_with runs (unplaced_item items) here (unplaced_name label) (option_map turn_unplaced turn) st
    ≡ told_unplaced (block_with run items here label turn st)
block_so run runs items here label turn st is =
    said_so (Opened (record { number = st.opened; parent = here; label = label; turn = turn }) items) (inside turn items st) _
    (λ within. run (Some st.opened) within >>= λ end. say Closed (outside st end))
    (λ within. runs (Some st.opened) within >>= λ end. say Closed (outside st end))
    (inside_so turn items st)
    (λ within. step_so _ _ (λ end. say Closed (outside st end)) (λ end. say Closed (outside st end)) (is (Some st.opened) within) (λ end. refl))

turns_so : (run runs : Option ℕ → State → Told State) (items : ModuleItem) (genvar label : Identifier) (here : Option ℕ) (vs : List ConstantValue)
    (st : State) → Runs run runs
    → each (turn_with runs (unplaced_item items) (unplaced_name genvar) (unplaced_name label) here) vs st
    ≡ told_unplaced (each (turn_with run items genvar label here) vs st)
turns_so run runs items genvar label here [] st is = refl
turns_so run runs items genvar label here (v ∷ vs) st is =
    step_so (turn_with run items genvar label here v st) _ _ _
    (block_so run runs items here label (Some (record { genvar = genvar; value = v })) st is)
    (λ next. turns_so run runs items genvar label here vs next is)

loop_so : (run runs : Option ℕ → State → Told State) (items : ModuleItem) (at : Place) (h : LoopHead) (label : Identifier) (here : Option ℕ)
    (st : State) → Runs run runs
    → loop_with runs (unplaced_item items) no_place (unplaced_head h) (unplaced_name label) here st
    ≡ told_unplaced (loop_with run items at h label here st)
loop_so run runs items at h label here st is =
    quiet_so _ _ _ _ (same_loop_turns st.scope at h st.left)
    (λ vs. said_so (Labelled label) (labelled label (record st { left = st.left - length vs })) _
    (each (turn_with run items h.start.name label here) vs)
    (each (turn_with runs (unplaced_item items) (unplaced_name h.start.name) (unplaced_name label) here) vs) refl
    (λ next. turns_so run runs items h.start.name label here vs next is))

taken_so : (run runs : Option ℕ → State → Told State) (items : ModuleItem) (label : Identifier) (here : Option ℕ) (st : State) → Runs run runs
    → taken_with runs (unplaced_item items) (unplaced_name label) here st ≡ told_unplaced (taken_with run items label here st)
taken_so run runs items label here st is =
    said_so (Labelled label) (labelled label st) _ (block_with run items here label None)
    (block_with runs (unplaced_item items) here (unplaced_name label) None)
    refl (λ next. block_so run runs items here label None next is)

-- ---- items

mutual
  unfolding unrolled chosen branch

  same_unrolled : (x : ModuleItem) (here : Option ℕ) (st : State) → unrolled (unplaced_item x) here st ≡ told_unplaced (unrolled x here st)
  same_unrolled (i.Items x xs) here st = step_so _ _ _ _ (same_unrolled x here st) (λ next. same_unrolled xs here next)
  same_unrolled (i.Region at xs) here st = same_unrolled xs here st
  same_unrolled (i.Loop at h label xs) here st =
      loop_so (unrolled xs) (unrolled (unplaced_item xs)) xs at h label here st (λ inner next. same_unrolled xs inner next)
  same_unrolled (i.Conditional xs) here st = same_chosen xs here st
  same_unrolled (i.Parameters at k ps) here st = parameters_so sort.Overridable k ps st
  same_unrolled (i.LocalParameters at k ps) here st = parameters_so sort.Local k ps st
  same_unrolled other here st = refl

  same_chosen : (x : ModuleItem) (here : Option ℕ) (st : State) → chosen (unplaced_item x) here st ≡ told_unplaced (chosen x here st)
  same_chosen (i.Items x xs) here st = same_branch x (chosen xs here) (chosen (unplaced_item xs) here) here st (λ next. same_chosen xs here next)
  same_chosen other here st = refl

  same_branch : (x : ModuleItem) (behind after : State → Told State) (here : Option ℕ) (st : State)
      → ((next : State) → after next ≡ told_unplaced (behind next))
      → branch (unplaced_item x) after here st ≡ told_unplaced (branch x behind here st)
  same_branch (i.Branch at c label xs) behind after here st is =
      quiet_so _ _ _ _ (same_taken st.scope c)
      (λ yes. if_told yes _ _ _ _ (taken_so (unrolled xs) (unrolled (unplaced_item xs)) xs label here st (λ inner next. same_unrolled xs inner next))
      (is st))
  same_branch other behind after here st is = is st

-- ---- modules

module_so : (m : ModuleDeclaration) (st : State) → module_told (unplaced_declaration m) st ≡ told_unplaced (module_told m st)
module_so m st =
    step_so _ _ _ _ (header_parameters_so untyped m.parameters st)
    (λ next. step_so (say_all (port_steps m.ports) next) _ _ _ (ap (λ (steps : List ModuleStep). say_all steps next) (ports_so m.ports))
    (λ after. same_unrolled m.items None after))

pub same_module : (limit : ℕ) (overrides : List (Option ConstantValue)) (m : ModuleDeclaration)
    → unrolled_module limit overrides (unplaced_declaration m) ≡ told_unplaced (unrolled_module limit overrides m)
unfolding unrolled_module
same_module limit overrides m =
    ap (λ (scope : Scope). module_told (unplaced_declaration m) (record { scope = scope; overrides = overrides; opened = 0; left = limit }))
    (same_own_names m)
    ∙ module_so m (beginning limit overrides m)

-- ---- which of its parameters can be overridden

same_item_sorts : (x : ModuleItem) → item_sorts (unplaced_item x) ≡ item_sorts x
same_item_sorts (i.Items x xs) = ap₂ (λ (a b : List ParameterSort). a ++ b) (same_item_sorts x) (same_item_sorts xs)
same_item_sorts (i.Region at xs) = same_item_sorts xs
same_item_sorts (i.Parameters at k ps) = sorts_so sort.Overridable unplaced_parameter ps
same_item_sorts (i.LocalParameters at k ps) = sorts_so sort.Local unplaced_parameter ps
same_item_sorts other = refl

pub same_sorts : (m : ModuleDeclaration) → constant_sorts (unplaced_declaration m) ≡ constant_sorts m
same_sorts m =
    ap₂ (λ (a b : List ParameterSort). a ++ b) (sorts_so sort.Overridable unplaced_header_parameter m.parameters) (same_item_sorts m.items)
