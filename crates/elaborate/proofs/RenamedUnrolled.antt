-- A module under other names is unrolled into the same steps under these names, up to the same first fault.
use Rattle.std.proofs.Common.{◌≡◌, ℕ, ◌-◌, Bool, true, false, if◌then◌else◌, List, [], ◌∷◌, length, map, Option, Some, None, Result, refl, ◌∙◌, ap, subst}
use Rattle.std.proofs.lemmas.List.{map-id}
use Rattle.std.specs.Option.{option_map}
use Rattle.ls_text.specs.declared.fault.Fault.{Fault}
use Rattle.ls_text.specs.declared.name_id.NameId.{NameId}
use Rattle.ls_text.specs.declared.place.Place.{Place}
use Rattle.verilog_ast.specs.declared.identifier.Identifier.{Identifier}
use Rattle.verilog_ast.specs.Declarations.{Kind, ParameterAssignment, HeaderParameterDeclaration, PortDeclaration, PortList, NoPorts, NamedPorts, DeclaredPorts}
use Rattle.verilog_ast.specs.Expressions.{Expression}
use Rattle.verilog_ast.specs.Items as i
use Rattle.verilog_ast.specs.Items.{ModuleItem, LoopHead, ModuleDeclaration}
use Rattle.verilog_ast.specs.Renamed.{renamed_identifier}
use Rattle.verilog_ast.specs.Renaming.{expression_as, kind_as, parameter_as, header_parameter_as, port_as, ports_as, head_as, item_as, declaration_as}
use Rattle.width_rules.specs.Renaming.{MeansSame, fault_as}
use Rattle.width_rules.specs.Scopes.{Constant, Unknown, Scope}
use Rattle.gen_unroll.specs.declared.parameter_sort.ParameterSort.{ParameterSort}
use Rattle.gen_unroll.specs.declared.parameter_sort.ParameterSort.TheVariants as sort
use Rattle.gen_unroll.specs.Declarations.{ParameterType, as_declared, declared, valued, item_names}
use Rattle.gen_unroll.specs.Steps.{LoopTurn, ModuleStep, Listed, Port, Parameter, Item, Labelled, Opened, Closed}
use Rattle.gen_unroll.specs.Told.{Told, ◌>>=◌, say, fault_in}
use Rattle.gen_unroll.specs.Unrolled.{State, each, override_of, given_or, known, parameter, parameters, next_type, header_parameters, port_steps, labelled, with_turn, inside, outside, block_with, turn_with, loop_with, taken_with, unrolled, chosen, branch, beginning, untyped, module_told, unrolled_module}
use Rattle.gen_unroll.specs.Values.{ConstantValue, evaluated}
use Rattle.elaborate.specs.Renaming.{KeepsApart, answer_as, turn_as, step_as}
use Rattle.elaborate.proofs.RenamedLoops.{same_taken, same_loop_turns}
use Rattle.elaborate.proofs.RenamedNames.{declared_so, with_turn_so, item_names_so, own_names_so}
use Rattle.elaborate.proofs.RenamedTold.{SameTold, Follows, under, step_so, quiet_so, done_so, said_so, say_so, each_so, same_fault}
use Rattle.elaborate.proofs.RenamedValues.{same_evaluated, same_type}

-- ---- parameters

same_override : (s : ParameterSort) (st : State) (scope : Scope) → override_of s (under scope st) ≡ override_of s st
same_override sort.Overridable st scope = refl
same_override sort.Local st scope = refl

given_so : (f : NameId → NameId) (o : Option ConstantValue) (r q : Result ConstantValue Fault) → q ≡ answer_as f r → given_or o q ≡ answer_as f (given_or o r)
given_so f (Some v) r q same = refl
given_so f None r q same = same

value_so : (f : NameId → NameId) (s : ParameterSort) (e : Expression) (st : State) (scope : Scope) → MeansSame f st.scope scope
    → given_or (override_of s (under scope st)) (evaluated scope (expression_as f e)) ≡ answer_as f (given_or (override_of s st) (evaluated st.scope e))
value_so f s e st scope same =
    ap (λ (o : Option ConstantValue). given_or o (evaluated scope (expression_as f e))) (same_override s st scope)
    ∙ given_so f (override_of s st) _ _ (same_evaluated f st.scope scope e same)

known_so : (f : NameId → NameId) (s : ParameterSort) (n : Identifier) (v : ConstantValue) → KeepsApart f
    → Follows f (λ st. say (Parameter s n v) (known s n v st)) (λ st. say (Parameter s (renamed_identifier f n) v) (known s (renamed_identifier f n) v st))
known_so f sort.Overridable n v apart st scope same =
    say_so f (Parameter sort.Overridable n v) (known sort.Overridable n v st) (valued scope (renamed_identifier f n) v)
    (declared_so f st.scope scope n (Constant v.width v.value v.signed) apart same)
known_so f sort.Local n v apart st scope same =
    say_so f (Parameter sort.Local n v) (known sort.Local n v st) (valued scope (renamed_identifier f n) v)
    (declared_so f st.scope scope n (Constant v.width v.value v.signed) apart same)

parameter_so : (f : NameId → NameId) (s : ParameterSort) (t : ParameterType) (p : ParameterAssignment) → KeepsApart f
    → Follows f (parameter s t p) (parameter s t (parameter_as f p))
unfolding parameter
parameter_so f s t p apart st scope same =
    quiet_so f _ _ _ _ (value_so f s p.value st scope same) (λ v. known_so f s p.name (as_declared t v) apart st scope same)

parameters_so : (f : NameId → NameId) (s : ParameterSort) (k : Kind) (ps : List ParameterAssignment) → KeepsApart f
    → Follows f (parameters s k ps) (parameters s (kind_as f k) (map (parameter_as f) ps))
parameters_so f s k ps apart st scope same =
    quiet_so f _ _ _ _ (same_type f st.scope scope k same)
    (λ t. each_so f (parameter_as f) (parameter s t) (parameter s t) (λ p. parameter_so f s t p apart) ps st scope same)

next_type_so : (f : NameId → NameId) (scope other : Scope) (t : ParameterType) (k : Option Kind) → MeansSame f scope other
    → next_type other t (option_map (kind_as f) k) ≡ answer_as f (next_type scope t k)
next_type_so f scope other t None same = refl
next_type_so f scope other t (Some k) same = same_type f scope other k same

header_parameters_so : (f : NameId → NameId) (t : ParameterType) (ps : List HeaderParameterDeclaration) → KeepsApart f
    → Follows f (header_parameters t ps) (header_parameters t (map (header_parameter_as f) ps))
header_parameters_so f t [] apart st scope same = done_so f st scope same
header_parameters_so f t (p ∷ ps) apart st scope same =
    quiet_so f _ _ _ _ (next_type_so f st.scope scope t p.kind same)
    (λ u. step_so f _ _ _ _ (parameter_so f sort.Overridable u p.parameter apart st scope same) (header_parameters_so f u ps apart))

-- ---- ports

listed_so : (f : NameId → NameId) (ns : List Identifier) → map Listed (map (renamed_identifier f) ns) ≡ map (step_as f) (map Listed ns)
listed_so f [] = refl
listed_so f (n ∷ ns) = ap (λ (steps : List ModuleStep). Listed (renamed_identifier f n) ∷ steps) (listed_so f ns)

declared_ports_so : (f : NameId → NameId) (ps : List PortDeclaration) → map Port (map (port_as f) ps) ≡ map (step_as f) (map Port ps)
declared_ports_so f [] = refl
declared_ports_so f (p ∷ ps) = ap (λ (steps : List ModuleStep). Port (port_as f p) ∷ steps) (declared_ports_so f ps)

ports_so : (f : NameId → NameId) (ps : PortList) → port_steps (ports_as f ps) ≡ map (step_as f) (port_steps ps)
ports_so f NoPorts = refl
ports_so f (NamedPorts ns) = listed_so f ns
ports_so f (DeclaredPorts ps) = declared_ports_so f ps

-- ---- blocks

-- running under other names
abbrev Runs : (NameId → NameId) → (Option ℕ → State → Told State) → (Option ℕ → State → Told State) → Type 0
Runs f run runs = (here : Option ℕ) → Follows f (run here) (runs here)

labelled_so : (f : NameId → NameId) (label : Identifier) (st : State) (scope : Scope) → KeepsApart f → MeansSame f st.scope scope
    → SameTold f (say (Labelled label) (labelled label st)) (say (Labelled (renamed_identifier f label)) (labelled (renamed_identifier f label) (under scope st)))
labelled_so f label st scope apart same =
    say_so f (Labelled label) (labelled label st) (declared scope (renamed_identifier f label) Unknown) (declared_so f st.scope scope label Unknown apart same)

inside_so : (f : NameId → NameId) (turn : Option LoopTurn) (items : ModuleItem) (st : State) (scope : Scope) → KeepsApart f → MeansSame f st.scope scope
    → MeansSame f (inside turn items st).scope (item_names (item_as f items) (with_turn (option_map (turn_as f) turn) scope))
inside_so f turn items st scope apart same =
    item_names_so f (with_turn turn st.scope) (with_turn (option_map (turn_as f) turn) scope) items apart (with_turn_so f st.scope scope turn apart same)

block_so : (f : NameId → NameId) (run runs : Option ℕ → State → Told State) (items : ModuleItem) (here : Option ℕ) (label : Identifier) (turn : Option LoopTurn)
    → KeepsApart f → Runs f run runs
    → Follows f (block_with run items here label turn) (block_with runs (item_as f items) here (renamed_identifier f label) (option_map (turn_as f) turn))
block_so f run runs items here label turn apart is st scope same =
    step_so f _ _ (λ within. run (Some st.opened) within >>= λ end. say Closed (outside st end))
    (λ within. runs (Some st.opened) within >>= λ end. say Closed (outside (under scope st) end))
    (say_so f (Opened (record { number = st.opened; parent = here; label = label; turn = turn }) items) (inside turn items st)
    (item_names (item_as f items) (with_turn (option_map (turn_as f) turn) scope)) (inside_so f turn items st scope apart same))
    (λ within names inner. step_so f _ _ (λ end. say Closed (outside st end)) (λ end. say Closed (outside (under scope st) end)) (is (Some st.opened) within names inner)
    (λ end others last. say_so f Closed (outside st end) scope same))

turns_so : (f : NameId → NameId) (run runs : Option ℕ → State → Told State) (items : ModuleItem) (genvar label : Identifier) (here : Option ℕ) (vs : List ConstantValue)
    → KeepsApart f → Runs f run runs
    → Follows f (each (turn_with run items genvar label here) vs) (each (turn_with runs (item_as f items) (renamed_identifier f genvar) (renamed_identifier f label) here) vs)
turns_so f run runs items genvar label here vs apart is st scope same =
    subst (λ (ws : List ConstantValue). SameTold f (each (turn_with run items genvar label here) vs st)
    (each (turn_with runs (item_as f items) (renamed_identifier f genvar) (renamed_identifier f label) here) ws (under scope st)))
    (map-id vs)
    (each_so f (λ v. v) (turn_with run items genvar label here) (turn_with runs (item_as f items) (renamed_identifier f genvar) (renamed_identifier f label) here)
    (λ v. block_so f run runs items here label (Some (record { genvar = genvar; value = v })) apart is) vs st scope same)

loop_so : (f : NameId → NameId) (run runs : Option ℕ → State → Told State) (items : ModuleItem) (at : Place) (h : LoopHead) (label : Identifier) (here : Option ℕ)
    → KeepsApart f → Runs f run runs
    → Follows f (loop_with run items at h label here) (loop_with runs (item_as f items) at (head_as f h) (renamed_identifier f label) here)
loop_so f run runs items at h label here apart is st scope same =
    quiet_so f _ _ _ _ (same_loop_turns f st.scope scope at h st.left apart same)
    (λ vs. step_so f _ _ (each (turn_with run items h.start.name label here) vs)
    (each (turn_with runs (item_as f items) (renamed_identifier f h.start.name) (renamed_identifier f label) here) vs)
    (labelled_so f label (record st { left = st.left - length vs }) scope apart same)
    (turns_so f run runs items h.start.name label here vs apart is))

taken_so : (f : NameId → NameId) (run runs : Option ℕ → State → Told State) (items : ModuleItem) (label : Identifier) (here : Option ℕ)
    → KeepsApart f → Runs f run runs
    → Follows f (taken_with run items label here) (taken_with runs (item_as f items) (renamed_identifier f label) here)
taken_so f run runs items label here apart is st scope same =
    step_so f _ _ (block_with run items here label None) (block_with runs (item_as f items) here (renamed_identifier f label) None)
    (labelled_so f label st scope apart same) (block_so f run runs items here label None apart is)

-- ---- items

if_so : (f : NameId → NameId) (b : Bool) (t u v w : Told State) → SameTold f t v → SameTold f u w → SameTold f (if b then t else u) (if b then v else w)
if_so f true t u v w first second = first
if_so f false t u v w first second = second

mutual
  unfolding unrolled chosen branch

  same_unrolled : (f : NameId → NameId) (x : ModuleItem) (here : Option ℕ) → KeepsApart f → Follows f (unrolled x here) (unrolled (item_as f x) here)
  same_unrolled f i.NoItem here apart st scope same = done_so f st scope same
  same_unrolled f (i.Items x xs) here apart st scope same =
      step_so f _ _ _ _ (same_unrolled f x here apart st scope same) (λ next names more. same_unrolled f xs here apart next names more)
  same_unrolled f (i.Region at xs) here apart st scope same = same_unrolled f xs here apart st scope same
  same_unrolled f (i.Loop at h label xs) here apart st scope same =
      loop_so f (unrolled xs) (unrolled (item_as f xs)) xs at h label here apart (λ inner. same_unrolled f xs inner apart) st scope same
  same_unrolled f (i.Conditional xs) here apart st scope same = same_chosen f xs here apart st scope same
  same_unrolled f (i.Branch at c label xs) here apart st scope same = done_so f st scope same
  same_unrolled f (i.Parameters at k ps) here apart st scope same = parameters_so f sort.Overridable k ps apart st scope same
  same_unrolled f (i.LocalParameters at k ps) here apart st scope same = parameters_so f sort.Local k ps apart st scope same
  same_unrolled f (i.Inputs at net k ns) here apart st scope same = say_so f (Item (i.Inputs at net k ns)) st scope same
  same_unrolled f (i.Outputs at net k xs) here apart st scope same = say_so f (Item (i.Outputs at net k xs)) st scope same
  same_unrolled f (i.Wires at k xs) here apart st scope same = say_so f (Item (i.Wires at k xs)) st scope same
  same_unrolled f (i.Regs at k xs) here apart st scope same = say_so f (Item (i.Regs at k xs)) st scope same
  same_unrolled f (i.Genvars at ns) here apart st scope same = say_so f (Item (i.Genvars at ns)) st scope same
  same_unrolled f (i.Assigns at xs) here apart st scope same = say_so f (Item (i.Assigns at xs)) st scope same
  same_unrolled f (i.Combinational at x) here apart st scope same = say_so f (Item (i.Combinational at x)) st scope same
  same_unrolled f (i.Clocked at n x) here apart st scope same = say_so f (Item (i.Clocked at n x)) st scope same
  same_unrolled f (i.Instances n overrides xs) here apart st scope same = say_so f (Item (i.Instances n overrides xs)) st scope same

  same_chosen : (f : NameId → NameId) (x : ModuleItem) (here : Option ℕ) → KeepsApart f → Follows f (chosen x here) (chosen (item_as f x) here)
  same_chosen f (i.Items x xs) here apart st scope same =
      same_branch f x (chosen xs here) (chosen (item_as f xs) here) here apart (λ st scope same. same_chosen f xs here apart st scope same) st scope same
  same_chosen f i.NoItem here apart st scope same = done_so f st scope same
  same_chosen f (i.Region at xs) here apart st scope same = done_so f st scope same
  same_chosen f (i.Loop at h label xs) here apart st scope same = done_so f st scope same
  same_chosen f (i.Conditional xs) here apart st scope same = done_so f st scope same
  same_chosen f (i.Branch at c label xs) here apart st scope same = done_so f st scope same
  same_chosen f (i.Parameters at k ps) here apart st scope same = done_so f st scope same
  same_chosen f (i.LocalParameters at k ps) here apart st scope same = done_so f st scope same
  same_chosen f (i.Inputs at net k ns) here apart st scope same = done_so f st scope same
  same_chosen f (i.Outputs at net k xs) here apart st scope same = done_so f st scope same
  same_chosen f (i.Wires at k xs) here apart st scope same = done_so f st scope same
  same_chosen f (i.Regs at k xs) here apart st scope same = done_so f st scope same
  same_chosen f (i.Genvars at ns) here apart st scope same = done_so f st scope same
  same_chosen f (i.Assigns at xs) here apart st scope same = done_so f st scope same
  same_chosen f (i.Combinational at x) here apart st scope same = done_so f st scope same
  same_chosen f (i.Clocked at n x) here apart st scope same = done_so f st scope same
  same_chosen f (i.Instances n overrides xs) here apart st scope same = done_so f st scope same

  same_branch : (f : NameId → NameId) (x : ModuleItem) (behind after : State → Told State) (here : Option ℕ) → KeepsApart f → Follows f behind after
      → Follows f (branch x behind here) (branch (item_as f x) after here)
  same_branch f (i.Branch at c label xs) behind after here apart is st scope same =
      quiet_so f _ _ _ _ (same_taken f st.scope scope c same)
      (λ yes. if_so f yes _ _ _ _ (taken_so f (unrolled xs) (unrolled (item_as f xs)) xs label here apart (λ inner. same_unrolled f xs inner apart) st scope same)
      (is st scope same))
  same_branch f i.NoItem behind after here apart is st scope same = is st scope same
  same_branch f (i.Items x xs) behind after here apart is st scope same = is st scope same
  same_branch f (i.Region at xs) behind after here apart is st scope same = is st scope same
  same_branch f (i.Loop at h label xs) behind after here apart is st scope same = is st scope same
  same_branch f (i.Conditional xs) behind after here apart is st scope same = is st scope same
  same_branch f (i.Parameters at k ps) behind after here apart is st scope same = is st scope same
  same_branch f (i.LocalParameters at k ps) behind after here apart is st scope same = is st scope same
  same_branch f (i.Inputs at net k ns) behind after here apart is st scope same = is st scope same
  same_branch f (i.Outputs at net k xs) behind after here apart is st scope same = is st scope same
  same_branch f (i.Wires at k xs) behind after here apart is st scope same = is st scope same
  same_branch f (i.Regs at k xs) behind after here apart is st scope same = is st scope same
  same_branch f (i.Genvars at ns) behind after here apart is st scope same = is st scope same
  same_branch f (i.Assigns at xs) behind after here apart is st scope same = is st scope same
  same_branch f (i.Combinational at x) behind after here apart is st scope same = is st scope same
  same_branch f (i.Clocked at n x) behind after here apart is st scope same = is st scope same
  same_branch f (i.Instances n overrides xs) behind after here apart is st scope same = is st scope same

-- ---- modules

module_so : (f : NameId → NameId) (m : ModuleDeclaration) → KeepsApart f → Follows f (module_told m) (module_told (declaration_as f m))
module_so f m apart st scope same =
    step_so f _ _ _ _ (header_parameters_so f untyped m.parameters apart st scope same)
    (λ next names more. step_so f _ _ (unrolled m.items None) (unrolled (item_as f m.items) None) (said_so f (port_steps m.ports) (port_steps (ports_as f m.ports)) next names (ports_so f m.ports) more)
    (same_unrolled f m.items None apart))

pub same_module : (f : NameId → NameId) (limit : ℕ) (overrides : List (Option ConstantValue)) (m : ModuleDeclaration) → KeepsApart f
    → SameTold f (unrolled_module limit overrides m) (unrolled_module limit overrides (declaration_as f m))
unfolding unrolled_module
same_module f limit overrides m apart =
    module_so f m apart (beginning limit overrides m) (beginning limit overrides (declaration_as f m)).scope (own_names_so f m apart)

pub same_steps : (f : NameId → NameId) (limit : ℕ) (overrides : List (Option ConstantValue)) (m : ModuleDeclaration) → KeepsApart f
    → (unrolled_module limit overrides (declaration_as f m)).said ≡ map (step_as f) (unrolled_module limit overrides m).said
same_steps f limit overrides m apart = (same_module f limit overrides m apart).says

pub same_first_fault : (f : NameId → NameId) (limit : ℕ) (overrides : List (Option ConstantValue)) (m : ModuleDeclaration) → KeepsApart f
    → fault_in (unrolled_module limit overrides (declaration_as f m)).ending ≡ option_map (fault_as f) (fault_in (unrolled_module limit overrides m).ending)
same_first_fault f limit overrides m apart =
    same_fault f (unrolled_module limit overrides m).ending (unrolled_module limit overrides (declaration_as f m)).ending (same_module f limit overrides m apart).ends
