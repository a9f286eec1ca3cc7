-- The steps of a header, and that unrolling tells them first.
use Rattle.std.proofs.Common.{◌≡◌, ℕ, ◌-◌, if◌then◌else◌, length, Bool, true, false, List, [], ◌∷◌, ◌++◌, map, Result, Ok, Err, refl, sym, ◌∙◌}
use Rattle.std.proofs.Common.{true≢false}
use Rattle.std.specs.Prelude.{Option, Some, None}
use Rattle.std.specs.List.{list_all}
use Rattle.std.proofs.lemmas.Bool.{and_from}
use Rattle.std.proofs.lemmas.List.Folds.{list_all-append}
use Rattle.ls_text.specs.declared.fault.Fault.{Fault}
use Rattle.verilog_ast.specs.declared.identifier.Identifier.{Identifier}
use Rattle.verilog_ast.specs.Declarations.{Kind, ParameterAssignment, HeaderParameterDeclaration, PortDeclaration, PortList, NoPorts, NamedPorts}
use Rattle.verilog_ast.specs.Declarations.{DeclaredPorts}
use Rattle.verilog_ast.specs.Items as i
use Rattle.verilog_ast.specs.Items.{ModuleItem, LoopHead, ModuleDeclaration}
use Rattle.ls_text.specs.declared.place.Place.{Place}
use Rattle.gen_unroll.specs.declared.parameter_sort.ParameterSort.{ParameterSort}
use Rattle.gen_unroll.specs.declared.parameter_sort.ParameterSort.TheVariants as sort
use Rattle.gen_unroll.specs.Declarations.{ParameterType, parameter_type}
use Rattle.gen_unroll.specs.Steps.{LoopTurn, ModuleStep, Listed, Port, Parameter, Item, Labelled, Opened, Closed}
use Rattle.gen_unroll.specs.Told.{Told, go_on, ◌>>=◌, say, say_all, quiet}
use Rattle.gen_unroll.specs.Unrolled.{State, each, override_of, given_or, parameter, parameters, next_type, header_parameters, port_steps, is_taken}
use Rattle.gen_unroll.specs.Unrolled.{loop_turns, labelled, inside, outside, block_with, turn_with, loop_with, taken_with, unrolled, chosen, branch}
use Rattle.gen_unroll.specs.Unrolled.{beginning, untyped, unrolled_module}
use Rattle.gen_unroll.specs.Values.{ConstantValue, evaluated}
use Rattle.gen_unroll.proofs.Answered.{err_or_ok}
use Rattle.module_names.specs.Modules.{port_name, header_ports}
use Rattle.version_swap.proofs.Bodies.{is_of_body}

-- the names of a header stand first among steps, in this order, where parameters may stand before and between them
pub data IsHeaded : List Identifier → List ModuleStep → Type 0 where
  body : {ss : List ModuleStep} → list_all is_of_body ss ≡ true → IsHeaded [] ss
  parameter_ahead : {s : ParameterSort} {n : Identifier} {v : ConstantValue} {ns : List Identifier} {ss : List ModuleStep} → IsHeaded ns ss
      → IsHeaded ns (Parameter s n v ∷ ss)
  listed : {n : Identifier} {ns : List Identifier} {ss : List ModuleStep} → IsHeaded ns ss → IsHeaded (n ∷ ns) (Listed n ∷ ss)
  declared : {p : PortDeclaration} {ns : List Identifier} {ss : List ModuleStep} → IsHeaded ns ss → IsHeaded (port_name p ∷ ns) (Port p ∷ ss)

-- ---- what is told meets a test step by step

abbrev Says : {A : Type 0} → (ModuleStep → Bool) → Told A → Type 0
Says test t = list_all test t.said ≡ true

says_both : (test : ModuleStep → Bool) (ss ts : List ModuleStep) → list_all test ss ≡ true → list_all test ts ≡ true → list_all test (ss ++ ts) ≡ true
says_both test ss ts first second = list_all-append test ss ts ∙ and_from (list_all test ss) (list_all test ts) first second

goes_on : {A B : Type 0} (test : ModuleStep → Bool) (said : List ModuleStep) (r : Result A Fault) (f : A → Told B) → list_all test said ≡ true
    → ((x : A) → Says test (f x))
    → Says test (go_on said r f)
goes_on test said (Ok x) f first next = says_both test said (f x).said first (next x)
goes_on test said (Err e) f first next = first

says_then : {A B : Type 0} (test : ModuleStep → Bool) (t : Told A) (f : A → Told B) → Says test t → ((x : A) → Says test (f x)) → Says test (t >>= f)
says_then test t f first next = goes_on test t.said t.ending f first next

says_each : {A : Type 0} (test : ModuleStep → Bool) (step : A → State → Told State) → ((x : A) (st : State) → Says test (step x st))
    → (xs : List A) (st : State)
    → Says test (each step xs st)
says_each test step one [] st = refl
says_each test step one (x ∷ xs) st = says_then test (step x st) (each step xs) (one x st) (says_each test step one xs)

-- ---- parameters

abbrev is_parameter : ModuleStep → Bool
is_parameter (Parameter s n v) = true
is_parameter (Listed n) = false
is_parameter (Port p) = false
is_parameter (Item x) = false
is_parameter (Labelled n) = false
is_parameter (Opened b items) = false
is_parameter Closed = false

parameter_says : (test : ModuleStep → Bool) → ((s : ParameterSort) (n : Identifier) (v : ConstantValue) → test (Parameter s n v) ≡ true)
    → (s : ParameterSort) (t : ParameterType) (p : ParameterAssignment) (st : State) → Says test (parameter s t p st)
unfolding parameter
parameter_says test is s t p st =
    says_then test (quiet (given_or (override_of s st) (evaluated st.scope p.value))) _ refl (λ v. and_from _ true (is s p.name _) refl)

parameters_say : (s : ParameterSort) (k : Kind) (ps : List ParameterAssignment) (st : State) → Says is_of_body (parameters s k ps st)
parameters_say s k ps st =
    says_then is_of_body (quiet (parameter_type st.scope k)) (λ t. each (parameter s t) ps st) refl
    (λ t. says_each is_of_body (parameter s t) (λ p st. parameter_says is_of_body (λ s n v. refl) s t p st) ps st)

header_says : (t : ParameterType) (ps : List HeaderParameterDeclaration) (st : State) → Says is_parameter (header_parameters t ps st)
header_says t [] st = refl
header_says t (p ∷ ps) st =
    says_then is_parameter (quiet (next_type st.scope t p.kind)) _ refl
    (λ u. says_then is_parameter (parameter sort.Overridable u p.parameter st) (header_parameters u ps)
    (parameter_says is_parameter (λ s n v. refl) sort.Overridable u p.parameter st) (λ next. header_says u ps next))

-- ---- items

-- running tells no step of a header
abbrev Runs : (Option ℕ → State → Told State) → Type 0
Runs run = (here : Option ℕ) (st : State) → Says is_of_body (run here st)

block_says : (run : Option ℕ → State → Told State) (items : ModuleItem) (here : Option ℕ) (label : Identifier) (turn : Option LoopTurn) (st : State)
    → Runs run
    → Says is_of_body (block_with run items here label turn st)
block_says run items here label turn st so =
    says_then is_of_body (say (Opened (record { number = st.opened; parent = here; label = label; turn = turn }) items) (inside turn items st))
    (λ within. run (Some st.opened) within >>= λ end. say Closed (outside st end)) refl
    (λ within. says_then is_of_body (run (Some st.opened) within) (λ end. say Closed (outside st end)) (so (Some st.opened) within) (λ end. refl))

loop_says : (run : Option ℕ → State → Told State) (items : ModuleItem) (at : Place) (h : LoopHead) (label : Identifier) (here : Option ℕ) (st : State)
    → Runs run
    → Says is_of_body (loop_with run items at h label here st)
loop_says run items at h label here st so =
    says_then is_of_body (quiet (loop_turns at h st.scope st.left))
    (λ vs. say (Labelled label) (labelled label (record st { left = st.left - length vs })) >>=
    λ next. each (turn_with run items h.start.name label here) vs next) refl
    (λ vs. says_then is_of_body (say (Labelled label) (labelled label (record st { left = st.left - length vs })))
    (each (turn_with run items h.start.name label here) vs) refl
    (says_each is_of_body (turn_with run items h.start.name label here)
    (λ v next. block_says run items here label (Some (record { genvar = h.start.name; value = v })) next so) vs))

taken_says : (run : Option ℕ → State → Told State) (items : ModuleItem) (label : Identifier) (here : Option ℕ) (st : State) → Runs run
    → Says is_of_body (taken_with run items label here st)
taken_says run items label here st so =
    says_then is_of_body (say (Labelled label) (labelled label st)) (block_with run items here label None) refl
    (λ next. block_says run items here label None next so)

if_says : (b : Bool) (t u : Told State) → Says is_of_body t → Says is_of_body u → Says is_of_body (if b then t else u)
if_says true t u first second = first
if_says false t u first second = second

mutual
  unfolding unrolled chosen branch

  unrolled_says : (x : ModuleItem) (here : Option ℕ) (st : State) → Says is_of_body (unrolled x here st)
  unrolled_says i.NoItem here st = refl
  unrolled_says (i.Items x xs) here st =
      says_then is_of_body (unrolled x here st) (unrolled xs here) (unrolled_says x here st) (λ next. unrolled_says xs here next)
  unrolled_says (i.Region at xs) here st = unrolled_says xs here st
  unrolled_says (i.Loop at h label xs) here st = loop_says (unrolled xs) xs at h label here st (λ inner next. unrolled_says xs inner next)
  unrolled_says (i.Conditional xs) here st = chosen_says xs here st
  unrolled_says (i.Branch at c label xs) here st = refl
  unrolled_says (i.Parameters at k ps) here st = parameters_say sort.Overridable k ps st
  unrolled_says (i.LocalParameters at k ps) here st = parameters_say sort.Local k ps st
  unrolled_says (i.Inputs at net k ns) here st = refl
  unrolled_says (i.Outputs at net k xs) here st = refl
  unrolled_says (i.Wires at k xs) here st = refl
  unrolled_says (i.Regs at k xs) here st = refl
  unrolled_says (i.Genvars at ns) here st = refl
  unrolled_says (i.Assigns at xs) here st = refl
  unrolled_says (i.Combinational at x) here st = refl
  unrolled_says (i.Clocked at n x) here st = refl
  unrolled_says (i.Instances n overrides xs) here st = refl

  chosen_says : (x : ModuleItem) (here : Option ℕ) (st : State) → Says is_of_body (chosen x here st)
  chosen_says (i.Items x xs) here st = branch_says x (chosen xs here) here st (λ next. chosen_says xs here next)
  chosen_says i.NoItem here st = refl
  chosen_says (i.Region at xs) here st = refl
  chosen_says (i.Loop at h label xs) here st = refl
  chosen_says (i.Conditional xs) here st = refl
  chosen_says (i.Branch at c label xs) here st = refl
  chosen_says (i.Parameters at k ps) here st = refl
  chosen_says (i.LocalParameters at k ps) here st = refl
  chosen_says (i.Inputs at net k ns) here st = refl
  chosen_says (i.Outputs at net k xs) here st = refl
  chosen_says (i.Wires at k xs) here st = refl
  chosen_says (i.Regs at k xs) here st = refl
  chosen_says (i.Genvars at ns) here st = refl
  chosen_says (i.Assigns at xs) here st = refl
  chosen_says (i.Combinational at x) here st = refl
  chosen_says (i.Clocked at n x) here st = refl
  chosen_says (i.Instances n overrides xs) here st = refl

  branch_says : (x : ModuleItem) (behind : State → Told State) (here : Option ℕ) (st : State) → ((next : State) → Says is_of_body (behind next))
      → Says is_of_body (branch x behind here st)
  branch_says (i.Branch at c label xs) behind here st so =
      says_then is_of_body (quiet (is_taken st.scope c)) (λ yes. if yes then taken_with (unrolled xs) xs label here st else behind st) refl
      (λ yes. if_says yes _ _ (taken_says (unrolled xs) xs label here st (λ inner next. unrolled_says xs inner next)) (so st))
  branch_says i.NoItem behind here st so = so st
  branch_says (i.Items x xs) behind here st so = so st
  branch_says (i.Region at xs) behind here st so = so st
  branch_says (i.Loop at h label xs) behind here st so = so st
  branch_says (i.Conditional xs) behind here st so = so st
  branch_says (i.Parameters at k ps) behind here st so = so st
  branch_says (i.LocalParameters at k ps) behind here st so = so st
  branch_says (i.Inputs at net k ns) behind here st so = so st
  branch_says (i.Outputs at net k xs) behind here st so = so st
  branch_says (i.Wires at k xs) behind here st so = so st
  branch_says (i.Regs at k xs) behind here st so = so st
  branch_says (i.Genvars at ns) behind here st so = so st
  branch_says (i.Assigns at xs) behind here st so = so st
  branch_says (i.Combinational at x) behind here st so = so st
  branch_says (i.Clocked at n x) behind here st so = so st
  branch_says (i.Instances n overrides xs) behind here st so = so st

-- ---- modules

behind_parameters : (ns : List Identifier) (ps ss : List ModuleStep) → list_all is_parameter ps ≡ true → IsHeaded ns ss → IsHeaded ns (ps ++ ss)
behind_parameters ns [] ss all so = so
behind_parameters ns (Parameter s n v ∷ ps) ss all so = parameter_ahead (behind_parameters ns ps ss all so)
behind_parameters ns (Listed n ∷ ps) ss all so = absurd (true≢false (sym all))
behind_parameters ns (Port p ∷ ps) ss all so = absurd (true≢false (sym all))
behind_parameters ns (Item x ∷ ps) ss all so = absurd (true≢false (sym all))
behind_parameters ns (Labelled n ∷ ps) ss all so = absurd (true≢false (sym all))
behind_parameters ns (Opened b items ∷ ps) ss all so = absurd (true≢false (sym all))
behind_parameters ns (Closed ∷ ps) ss all so = absurd (true≢false (sym all))

listed_ports : (ns : List Identifier) (ss : List ModuleStep) → list_all is_of_body ss ≡ true → IsHeaded ns (map Listed ns ++ ss)
listed_ports [] ss all = body all
listed_ports (n ∷ ns) ss all = listed (listed_ports ns ss all)

declared_ports : (ps : List PortDeclaration) (ss : List ModuleStep) → list_all is_of_body ss ≡ true → IsHeaded (map port_name ps) (map Port ps ++ ss)
declared_ports [] ss all = body all
declared_ports (p ∷ ps) ss all = declared (declared_ports ps ss all)

ports_first : (ports : PortList) (ss : List ModuleStep) → list_all is_of_body ss ≡ true → IsHeaded (header_ports ports) (port_steps ports ++ ss)
ports_first NoPorts ss all = body all
ports_first (NamedPorts ns) ss all = listed_ports ns ss all
ports_first (DeclaredPorts ps) ss all = declared_ports ps ss all

-- what goes on behind parameters, where it ends well
header_first : (ns : List Identifier) (said : List ModuleStep) (r : Result State Fault) (f : State → Told State) (st : State)
    → list_all is_parameter said ≡ true
    → ((next : State) → IsHeaded ns (f next).said) → (go_on said r f).ending ≡ Ok st → IsHeaded ns (go_on said r f).said
header_first ns said (Ok next) f st all so end = behind_parameters ns said (f next).said all (so next)
header_first ns said (Err e) f st all so end = err_or_ok e st end

pub headed : (limit : ℕ) (overrides : List (Option ConstantValue)) (m : ModuleDeclaration) (st : State)
    → (unrolled_module limit overrides m).ending ≡ Ok st
    → IsHeaded (header_ports m.ports) (unrolled_module limit overrides m).said
unfolding unrolled_module
headed limit overrides m st end =
    let before = header_parameters untyped m.parameters (beginning limit overrides m) in
    header_first (header_ports m.ports) before.said before.ending
    (λ next. say_all (port_steps m.ports) next >>= λ next. unrolled m.items None next) st
    (header_says untyped m.parameters (beginning limit overrides m))
    (λ next. ports_first m.ports (unrolled m.items None next).said (unrolled_says m.items None next)) end
