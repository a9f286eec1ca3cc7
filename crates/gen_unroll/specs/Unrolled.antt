-- A module with its loops and branches unrolled in place (IEEE Std 1364-2005, 12.2 and 12.4).
use Rattle.std.specs.Prelude.{ℕ, zero, suc, ◌+◌, ◌-◌, ◌==◌, Bool, true, false, not, if◌then◌else◌, List, [], ◌∷◌, length, map, Option, Some, None, Result, Ok, Err}
use Rattle.ls_text.specs.declared.fault.Fault.{Fault}
use Rattle.ls_text.specs.declared.place.Place.{Place}
use Rattle.bits.specs.Values.{resized}
use Rattle.verilog_ast.specs.declared.identifier.Identifier.{Identifier}
use Rattle.verilog_ast.specs.Expressions.{Expression}
use Rattle.verilog_ast.specs.Declarations.{Kind, ParameterAssignment, HeaderParameterDeclaration, PortList, NoPorts, NamedPorts, DeclaredPorts}
use Rattle.verilog_ast.specs.Items as i
use Rattle.verilog_ast.specs.Items.{ModuleItem, LoopHead, ModuleDeclaration}
use Rattle.width_rules.specs.Faults.{fault, fault_at}
use Rattle.width_rules.specs.Scopes.{Meaning, Signal, Constant, Turn, Genvar, Unknown, Scope}
use Rattle.gen_unroll.specs.declared.parameter_sort.ParameterSort.{ParameterSort}
use Rattle.gen_unroll.specs.declared.parameter_sort.ParameterSort.TheVariants as sort
use Rattle.ls_text.specs.Answers.{◌>>=◌ as ◌>>>◌}
use Rattle.gen_unroll.specs.Values.{ConstantValue, evaluated}
use Rattle.gen_unroll.specs.Declarations.{ParameterType, parameter_type, as_declared, declared, valued, item_names, port_names}
use Rattle.gen_unroll.specs.Steps.{LoopTurn, ModuleStep, Listed, Port, Parameter, Item, Labelled, Opened, Closed}
use Rattle.gen_unroll.specs.Told.{Told, ◌>>=◌, done, say, say_all, quiet}

-- the names in reach, the overrides of the parameters that are still to come, how many blocks were opened, how many turns are left
pub record State : Type 0 where
  pub scope : Scope
  pub overrides : List (Option ConstantValue)
  pub opened : ℕ
  pub left : ℕ

-- one after another
abbrev pub each : {A : Type 0} → (A → State → Told State) → List A → State → Told State
each step [] st = done st
each step (x ∷ xs) st = step x st >>= λ next. each step xs next

-- ---- parameters (4.10, 12.2)

-- the override of the next parameter
abbrev pub override_in : List (Option ConstantValue) → Option ConstantValue
override_in [] = None
override_in (x ∷ xs) = x

abbrev pub overrides_behind : List (Option ConstantValue) → List (Option ConstantValue)
overrides_behind [] = []
overrides_behind (x ∷ xs) = xs

-- a localparam has no override
abbrev pub override_of : ParameterSort → State → Option ConstantValue
override_of sort.Overridable st = override_in st.overrides
override_of sort.Local st = None

abbrev pub behind : ParameterSort → State → State
behind sort.Overridable st = record st { overrides = overrides_behind st.overrides }
behind sort.Local st = st

-- what is given, else the value of the parameter's own expression
abbrev pub given_or : Option ConstantValue → Result ConstantValue Fault → Result ConstantValue Fault
given_or (Some v) own = Ok v
given_or None own = own

abbrev pub known : ParameterSort → Identifier → ConstantValue → State → State
known s n v st = record (behind s st) { scope = valued st.scope n v }

unfoldable pub parameter : ParameterSort → ParameterType → ParameterAssignment → State → Told State
parameter s t p st =
    quiet (given_or (override_of s st) (evaluated st.scope p.value))
    >>= λ v. say (Parameter s p.name (as_declared t v)) (known s p.name (as_declared t v) st)

-- the range is evaluated once, before the first of them is known
abbrev pub parameters : ParameterSort → Kind → List ParameterAssignment → State → Told State
parameters s k ps st = quiet (parameter_type st.scope k) >>= λ t. each (parameter s t) ps st

-- a parameter of a header without a declaration of its own has that of the one before
abbrev pub next_type : Scope → ParameterType → Option Kind → Result ParameterType Fault
next_type scope t None = Ok t
next_type scope t (Some k) = parameter_type scope k

abbrev pub header_parameters : ParameterType → List HeaderParameterDeclaration → State → Told State
header_parameters t [] st = done st
header_parameters t (p ∷ ps) st =
    quiet (next_type st.scope t p.kind)
    >>= λ u. parameter sort.Overridable u p.parameter st
    >>= λ next. header_parameters u ps next

-- ---- ports (12.3)

abbrev pub port_steps : PortList → List ModuleStep
port_steps NoPorts = []
port_steps (NamedPorts ns) = map Listed ns
port_steps (DeclaredPorts ps) = map Port ps

-- ---- conditions (12.4)

-- whether a condition holds: it isn't zero
abbrev pub holds : Scope → Expression → Result Bool Fault
holds scope e = evaluated scope e >>> λ v. Ok (not (v.value == 0))

-- a branch without a condition is taken
abbrev pub is_taken : Scope → Option Expression → Result Bool Fault
is_taken scope None = Ok true
is_taken scope (Some c) = holds scope c

-- ---- loops (12.4.1)

-- a loop assigns a genvar, which may be that of a loop around it
abbrev pub assignable : Identifier → Meaning → Result (Unit {0}) Fault
assignable n Genvar = Ok tt
assignable n (Turn width value signed) = Ok tt
assignable n (Constant width value signed) = Err (fault_at 33 n)
assignable n (Signal signal width lsb signed writer) = Err (fault_at 33 n)
assignable n Unknown = Err (fault_at 29 n)

-- both names that a loop assigns are one genvar
unfoldable pub assigned : Scope → LoopHead → Result (Unit {0}) Fault
assigned scope h =
    assignable h.start.name (scope h.start.name.name.0)
    >>> λ _. assignable h.step.name (scope h.step.name.name.0)
    >>> λ _. if h.start.name.name.0 == h.step.name.name.0 then Ok tt else Err (fault_at 33 h.step.name)

-- what a genvar holds: 32 bits, signed
abbrev pub genvar_value : ConstantValue → ConstantValue
genvar_value v = record { width = 32; value = resized v.width v.value 32 v.signed; signed = true }

-- the names in reach in a turn
abbrev pub in_turn : Scope → Identifier → ConstantValue → Scope
in_turn scope n v = declared scope n (Turn v.width v.value v.signed)

-- the values of the turns from this one on, where so many turns may be left: one more is refused with 41
abbrev pub turns_from : Place → LoopHead → Scope → (left : ℕ) → ConstantValue → Result (List ConstantValue) Fault
turns_from at h scope zero v =
    holds (in_turn scope h.start.name v) h.condition
    >>> λ more. if more then Err (fault 41 at []) else Ok []
turns_from at h scope (suc left) v =
    holds (in_turn scope h.start.name v) h.condition
    >>> λ more. if more then
    (evaluated (in_turn scope h.start.name v) h.step.value
    >>> λ w. turns_from at h scope left (genvar_value w)
    >>> λ vs. Ok (v ∷ vs))
    else Ok []

-- in the head of a loop the name is a genvar, which has no value in the start; then turn by turn
abbrev pub turns : Place → LoopHead → Scope → (left : ℕ) → Result (List ConstantValue) Fault
turns at h scope left = evaluated scope h.start.value >>> λ v. turns_from at h scope left (genvar_value v)

abbrev pub loop_turns : Place → LoopHead → Scope → (left : ℕ) → Result (List ConstantValue) Fault
loop_turns at h scope left = assigned scope h >>> λ _. turns at h (declared scope h.start.name Genvar) left

-- ---- blocks (12.4.3)

-- a label is no name that an expression can use
abbrev pub labelled : Identifier → State → State
labelled label st = record st { scope = declared st.scope label Unknown }

abbrev pub with_turn : Option LoopTurn → Scope → Scope
with_turn None scope = scope
with_turn (Some t) scope = in_turn scope t.genvar t.value

-- in a block its own names hide the genvar, and both hide what is around it
abbrev pub inside : Option LoopTurn → ModuleItem → State → State
inside turn items st = record st { scope = item_names items (with_turn turn st.scope); opened = st.opened + 1 }

-- the names outside come back
abbrev pub outside : State → State → State
outside before st = record st { scope = before.scope }

-- what `run` tells of the items of a block, with its number, stands in it
abbrev pub block_with : (Option ℕ → State → Told State) → ModuleItem → (here : Option ℕ) → Identifier → Option LoopTurn → State → Told State
block_with run items here label turn st =
    say (Opened (record { number = st.opened; parent = here; label = label; turn = turn }) items) (inside turn items st)
    >>= λ within. run (Some st.opened) within
    >>= λ end. say Closed (outside st end)

abbrev pub turn_with : (Option ℕ → State → Told State) → ModuleItem → (genvar label : Identifier) → (here : Option ℕ) → ConstantValue → State → Told State
turn_with run items genvar label here v = block_with run items here label (Some (record { genvar = genvar; value = v }))

-- all turns are counted before the first block is opened; without a turn the label stands too
abbrev pub loop_with : (Option ℕ → State → Told State) → ModuleItem → Place → LoopHead → Identifier → (here : Option ℕ) → State → Told State
loop_with run items at h label here st =
    quiet (loop_turns at h st.scope st.left)
    >>= λ vs. say (Labelled label) (labelled label (record st { left = st.left - length vs }))
    >>= λ next. each (turn_with run items h.start.name label here) vs next

abbrev pub taken_with : (Option ℕ → State → Told State) → ModuleItem → Identifier → (here : Option ℕ) → State → Told State
taken_with run items label here st =
    say (Labelled label) (labelled label st) >>= λ next. block_with run items here label None next

-- ---- items

-- an item without a generate construct
abbrev pub plain : ModuleItem → State → Told State
plain (i.Parameters at k ps) st = parameters sort.Overridable k ps st
plain (i.LocalParameters at k ps) st = parameters sort.Local k ps st
plain item st = say (Item item) st

unfoldable mutual
  -- items in the block with this number, or in the module itself
  pub unrolled : ModuleItem → (here : Option ℕ) → State → Told State
  unrolled i.NoItem here st = done st
  unrolled (i.Items x xs) here st = unrolled x here st >>= λ next. unrolled xs here next
  unrolled (i.Region at xs) here st = unrolled xs here st
  unrolled (i.Loop at h label xs) here st = loop_with (unrolled xs) xs at h label here st
  unrolled (i.Conditional xs) here st = chosen xs here st
  unrolled (i.Branch at c label xs) here st = done st
  unrolled other here st = plain other st

  -- the first branch whose condition isn't zero, or that has none
  pub chosen : ModuleItem → (here : Option ℕ) → State → Told State
  chosen (i.Items x xs) here st = branch x (chosen xs here) here st
  chosen other here st = done st

  -- this branch, or what stands behind it
  pub branch : ModuleItem → (State → Told State) → (here : Option ℕ) → State → Told State
  branch (i.Branch at c label xs) behind here st =
      quiet (is_taken st.scope c) >>= λ yes. if yes then taken_with (unrolled xs) xs label here st else behind st
  branch other behind here st = behind st

-- ---- modules

-- no name is in reach
abbrev pub nowhere : Scope
nowhere = λ name. Unknown

-- the names of a module itself
abbrev pub own_names : ModuleDeclaration → Scope
own_names m = item_names m.items (port_names m.ports nowhere)

-- a module begins with its own names in reach and with all its turns left
abbrev pub beginning : (limit : ℕ) → List (Option ConstantValue) → ModuleDeclaration → State
beginning limit overrides m = record {
  scope = own_names m;
  overrides = overrides;
  opened = 0;
  left = limit;
}

abbrev pub untyped : ParameterType
untyped = record { width = None; signed = false }

-- the parameters of the header, its ports, and the items
abbrev pub module_told : ModuleDeclaration → State → Told State
module_told m st =
    header_parameters untyped m.parameters st
    >>= λ next. say_all (port_steps m.ports) next
    >>= λ next. unrolled m.items None next

-- the k-th override is that of the k-th parameter that is no localparam
unfoldable pub unrolled_module : (limit : ℕ) → List (Option ConstantValue) → ModuleDeclaration → Told State
unrolled_module limit overrides m = module_told m (beginning limit overrides m)

-- its steps, or the first fault of unrolling it
abbrev pub steps_told : Told State → Result (List ModuleStep) Fault
steps_told t = t.ending >>> λ st. Ok t.said

-- how many turns the loops of a module may have together
unfoldable pub turn_limit : ℕ
turn_limit = 65536
