-- The parameters that a module's checks find are the values of its steps outside of generate blocks.
use Rattle.std.proofs.Common.{◌≡◌, ℕ, ◌-◌, Bool, true, false, if◌then◌else◌, List, [], ◌∷◌, ◌++◌, length, map, Option, None, Result, Ok, Err}
use Rattle.std.proofs.Common.{append_assoc, append-nil, refl, sym, ◌∙◌, ap, arith}
use Rattle.std.specs.Result.{IfOk}
use Rattle.std.proofs.lemmas.Result.{IfOk-weaker, IfOk-at_ok}
use Rattle.ls_text.specs.declared.fault.Fault.{Fault}
use Rattle.verilog_ast.specs.declared.identifier.Identifier.{Identifier}
use Rattle.verilog_ast.specs.declared.port_net.PortNet.{PortNet}
use Rattle.verilog_ast.specs.declared.port_net.PortNet.TheVariants as net
use Rattle.verilog_ast.specs.Declarations.{PortDeclaration, InputPort, OutputPort, NextPort, header_net}
use Rattle.verilog_ast.specs.Expressions.{Expression}
use Rattle.verilog_ast.specs.Items as i
use Rattle.verilog_ast.specs.Items.{ConnectionList, ModuleInstance, ModuleItem, ModuleDeclaration}
use Rattle.gen_unroll.specs.declared.parameter_sort.ParameterSort.{ParameterSort}
use Rattle.gen_unroll.specs.Declarations.{BitRange, declared_name}
use Rattle.gen_unroll.specs.Reaches.{Reach, innermost, blocks_around, in_reach}
use Rattle.gen_unroll.specs.Steps.{ModuleStep, Listed, Port, Parameter, Item, Labelled, Opened, Closed}
use Rattle.ls_text.specs.Answers.{◌>>=◌}
use Rattle.gen_unroll.specs.Values.{ConstantValue}
use Rattle.clock_rules.specs.Connections.{connected}
use Rattle.module_names.specs.Listings.{is_listed}
use Rattle.module_names.specs.Modules.{module_named, parameters_of, header_ports}
use Rattle.elaborate.specs.declared.declaration_kind.DeclarationKind.{DeclarationKind}
use Rattle.elaborate.specs.declared.declaration_kind.DeclarationKind.TheVariants as kind
use Rattle.elaborate.specs.Checks.{Checked, declaration, each, range_of_kind, plain, list_port, declare_port, header_port, body_port}
use Rattle.elaborate.specs.Checks.{variable, wire, reg, genvar, or_no_module, one_instance, instances, with_parameter, parameter, check_item}
use Rattle.elaborate.specs.Checks.{check_steps}
use Rattle.elaborate.specs.Overrides.{overridden}
use Rattle.elaborate.specs.Tables.{Declaration, declare, declare_net, initial, kind_of_net}
use Rattle.width_rules.specs.Faults.{fault_at}
use Rattle.version_swap.specs.Outer.{outer_value, outer_values}

-- unless there is a fault, the parameters are these
abbrev pub Finds : List ConstantValue → Result Checked Fault → Type 0
Finds vs r = IfOk r (λ (next : Checked). next.parameters ≡ vs)

-- ---- steps, one after another

-- a value, and what follows it
after : {A : Type 0} (vs : List ConstantValue) (d : Result A Fault) (f : A → Result Checked Fault) → ((x : A) → Finds vs (f x)) → Finds vs (d >>= f)
after vs (Ok x) f is = is x
after vs (Err e) f is = tt

-- a step, and what follows it
then_finds : (us vs : List ConstantValue) (d : Result Checked Fault) (f : Checked → Result Checked Fault) → Finds us d
    → ((c : Checked) → c.parameters ≡ us → Finds vs (f c)) → Finds vs (d >>= f)
then_finds us vs (Ok c) f first next = next c first
then_finds us vs (Err e) f first next = tt

unless_found : (vs : List ConstantValue) (b : Bool) (f : Fault) (c : Checked) → c.parameters ≡ vs → Finds vs (if b then Err f else Ok c)
unless_found vs true f c is = tt
unless_found vs false f c is = is

if_found : (vs : List ConstantValue) (b : Bool) (f : Fault) (c : Checked) → c.parameters ≡ vs → Finds vs (if b then Ok c else Err f)
if_found vs true f c is = is
if_found vs false f c is = tt

each_finds : {A : Type 0} (step : A → Checked → Result Checked Fault) → ((x : A) (c : Checked) → Finds c.parameters (step x c))
    → (xs : List A) (c : Checked) → Finds c.parameters (each step xs c)
each_finds step is [] c = refl
each_finds step is (x ∷ xs) c =
    then_finds c.parameters c.parameters (step x c) (each step xs) (is x c)
    (λ next same. IfOk-weaker (each step xs next) (λ end. end.parameters ≡ next.parameters) (λ end. end.parameters ≡ c.parameters)
    (λ end more. more ∙ same) (each_finds step is xs next))

-- ---- names

plain_finds : (here : Reach) (n : Identifier) (d : Declaration) (c : Checked) → Finds c.parameters (plain here n d c)
unfolding plain
plain_finds here n d c = after c.parameters (declare (innermost here.blocks) n d c.declared) (λ t. Ok (record c { declared = t })) (λ t. refl)

list_finds : (n : Identifier) (c : Checked) → Finds c.parameters (list_port n c)
unfolding list_port
list_finds n c = unless_found c.parameters (is_listed n.name.0 c.ports) (fault_at 28 n) (record c { ports = c.ports ++ n ∷ [] }) refl

declare_finds : (here : Reach) (n : Identifier) (d : Declaration) (value : Option Expression) (c : Checked)
    → Finds c.parameters (declare_port here n d value c)
unfolding declare_port
declare_finds here n d value c =
    then_finds c.parameters c.parameters (plain here n d c)
    (λ next. list_port n (record next { port = d }) >>= λ listed. initial value n d.kind >>= λ _. Ok listed)
    (plain_finds here n d c)
    (λ next same. then_finds next.parameters c.parameters (list_port n (record next { port = d }))
    (λ listed. initial value n d.kind >>= λ _. Ok listed)
    (list_finds n (record next { port = d }))
    (λ listed more. after c.parameters (initial value n d.kind) (λ _. Ok listed) (λ _. more ∙ same)))

header_finds : (here : Reach) (p : PortDeclaration) (c : Checked) → Finds c.parameters (header_port here p c)
header_finds here (InputPort at net k n) c =
    after c.parameters (range_of_kind here.scope k) (λ r. declare_port here n (declaration (kind.Input (header_net net)) r k.signed n) None c)
    (λ r. declare_finds here n (declaration (kind.Input (header_net net)) r k.signed n) None c)
header_finds here (OutputPort at net k x) c =
    after c.parameters (range_of_kind here.scope k)
    (λ r. declare_port here x.name (declaration (kind.Output (header_net net)) r k.signed x.name) x.value c)
    (λ r. declare_finds here x.name (declaration (kind.Output (header_net net)) r k.signed x.name) x.value c)
header_finds here (NextPort x) c = declare_finds here x.name (declaration c.port.kind c.port.range c.port.signed x.name) x.value c

body_finds : (here : Reach) (k : DeclarationKind) (range : Option BitRange) (signed : Bool) (n : Identifier) (c : Checked)
    → Finds c.parameters (body_port here k range signed n c)
unfolding body_port
body_finds here k range signed n c =
    then_finds c.parameters c.parameters (plain here n (declaration k range signed n) c)
    (λ next. if is_listed n.name.0 next.ports then Ok next else Err (fault_at 27 n))
    (plain_finds here n (declaration k range signed n) c)
    (λ next same. if_found c.parameters (is_listed n.name.0 next.ports) (fault_at 27 n) next same)

variable_finds : (here : Reach) (by : PortNet) (range : Option BitRange) (signed : Bool) (n : Identifier) (value : Option Expression) (c : Checked)
    → Finds c.parameters (variable here by range signed n value c)
unfolding variable
variable_finds here by range signed n value c =
    after c.parameters (declare_net (innermost here.blocks) n by (declaration (kind_of_net by) range signed n) value c.declared)
    (λ t. Ok (record c { declared = t })) (λ t. refl)

-- ---- instances

-- one more instance
abbrev with_child : Reach → Identifier → List (Option ConstantValue) → ModuleInstance → Checked → Checked
with_child here n vs x c =
    record c { children = c.children ++ record { block = innermost here.blocks; name = x.name; instantiated = n; overrides = vs } ∷ [] }

instance_finds : (here : Reach) (m : ModuleDeclaration) (n : Identifier) (vs : List (Option ConstantValue)) (x : ModuleInstance) (c : Checked)
    → Finds c.parameters (one_instance here m n vs x c)
unfolding one_instance
instance_finds here m n vs x c =
    then_finds c.parameters c.parameters (plain here x.name (declaration kind.Instance None false x.name) c)
    (λ next. connected (header_ports m.ports) x.connections >>= λ _. Ok (with_child here n vs x next))
    (plain_finds here x.name (declaration kind.Instance None false x.name) c)
    (λ next same. after c.parameters (connected (header_ports m.ports) x.connections) (λ _. Ok (with_child here n vs x next)) (λ _. same))

instances_find : (ms : List ModuleDeclaration) (here : Reach) (n : Identifier) (overrides : Option ConnectionList) (xs : List ModuleInstance)
    (c : Checked)
    → Finds c.parameters (instances ms here n overrides xs c)
unfolding instances
instances_find ms here n overrides xs c =
    after c.parameters (or_no_module (module_named n.name.0 ms) n)
    (λ m. overridden here.scope (parameters_of m) overrides >>= λ vs. each (one_instance here m n vs) xs c)
    (λ m. after c.parameters (overridden here.scope (parameters_of m) overrides) (λ vs. each (one_instance here m n vs) xs c)
    (λ vs. each_finds (one_instance here m n vs) (instance_finds here m n vs) xs c))

-- ---- items

item_finds : (ms : List ModuleDeclaration) (here : Reach) (x : ModuleItem) (c : Checked) → Finds c.parameters (check_item ms here x c)
item_finds ms here (i.Inputs at by k ns) c =
    after c.parameters (range_of_kind here.scope k) (λ r. each (body_port here (kind.Input by) r k.signed) ns c)
    (λ r. each_finds (body_port here (kind.Input by) r k.signed) (body_finds here (kind.Input by) r k.signed) ns c)
item_finds ms here (i.Outputs at by k xs) c =
    after c.parameters (range_of_kind here.scope k) (λ r. each (body_port here (kind.Output by) r k.signed) (map declared_name xs) c)
    (λ r. each_finds (body_port here (kind.Output by) r k.signed) (body_finds here (kind.Output by) r k.signed) (map declared_name xs) c)
item_finds ms here (i.Wires at k xs) c =
    after c.parameters (range_of_kind here.scope k) (λ r. each (wire here r k.signed) xs c)
    (λ r. each_finds (wire here r k.signed) (λ x. variable_finds here net.Wire r k.signed x.name x.value) xs c)
item_finds ms here (i.Regs at k xs) c =
    after c.parameters (range_of_kind here.scope k) (λ r. each (reg here r k.signed) xs c)
    (λ r. each_finds (reg here r k.signed) (λ x. variable_finds here net.Reg r k.signed x.name x.value) xs c)
item_finds ms here (i.Genvars at ns) c = each_finds (genvar here) (λ n. plain_finds here n (declaration kind.Genvar None false n)) ns c
item_finds ms here (i.Instances n overrides xs) c = instances_find ms here n overrides xs c
item_finds ms here other c = refl

-- ---- parameters

placed_finds : (blocks : List ℕ) (us : List ConstantValue) (v : ConstantValue) (c : Checked) → c.parameters ≡ us
    → (with_parameter (innermost blocks) v c).parameters ≡ us ++ outer_value (length blocks) v
placed_finds [] us v c is = ap (λ (ws : List ConstantValue). ws ++ v ∷ []) is
placed_finds (b ∷ blocks) us v c is = is ∙ sym (append-nil us)

parameter_finds : (here : Reach) (s : ParameterSort) (n : Identifier) (v : ConstantValue) (c : Checked)
    → Finds (c.parameters ++ outer_value (length here.blocks) v) (parameter here s n v c)
unfolding parameter
parameter_finds here s n v c =
    then_finds c.parameters (c.parameters ++ outer_value (length here.blocks) v) (plain here n (declaration (kind.Parameter s) None v.signed n) c)
    (λ next. Ok (with_parameter (innermost here.blocks) v next))
    (plain_finds here n (declaration (kind.Parameter s) None v.signed n) c)
    (λ next same. placed_finds here.blocks c.parameters v next same)

-- ---- steps of a module

pub one_less : (blocks : List ℕ) → length (blocks_around blocks) ≡ length blocks - 1
one_less [] = omega arith
one_less (b ∷ blocks) = omega arith

-- these values, and then those of further steps
more_found : (us vs ws : List ConstantValue) (d : Result Checked Fault) (f : Checked → Result Checked Fault) → Finds (us ++ vs) d
    → ((c : Checked) → Finds (c.parameters ++ ws) (f c)) → Finds (us ++ (vs ++ ws)) (d >>= f)
more_found us vs ws d f first next =
    then_finds (us ++ vs) (us ++ (vs ++ ws)) d f first
    (λ c same. IfOk-weaker (f c) (λ end. end.parameters ≡ c.parameters ++ ws) (λ end. end.parameters ≡ us ++ (vs ++ ws))
    (λ end is. is ∙ ap (λ (zs : List ConstantValue). zs ++ ws) same ∙ append_assoc us vs ws) (next c))

none_found : (us ws : List ConstantValue) (d : Result Checked Fault) (f : Checked → Result Checked Fault) → Finds us d
    → ((c : Checked) → Finds (c.parameters ++ ws) (f c)) → Finds (us ++ ws) (d >>= f)
none_found us ws d f first next =
    then_finds us (us ++ ws) d f first
    (λ c same. IfOk-weaker (f c) (λ end. end.parameters ≡ c.parameters ++ ws) (λ end. end.parameters ≡ us ++ ws)
    (λ end is. is ∙ ap (λ (zs : List ConstantValue). zs ++ ws) same) (next c))

pub steps_find : (ms : List ModuleDeclaration) (here : Reach) (steps : List ModuleStep) (c : Checked)
    → Finds (c.parameters ++ outer_values (length here.blocks) steps) (check_steps ms here steps c)
steps_find ms here [] c = sym (append-nil c.parameters)
steps_find ms here (Parameter s n v ∷ steps) c =
    more_found c.parameters (outer_value (length here.blocks) v) (outer_values (length here.blocks) steps) (parameter here s n v c)
    (λ next. check_steps ms (in_reach (Parameter s n v) here) steps next) (parameter_finds here s n v c)
    (λ next. steps_find ms (in_reach (Parameter s n v) here) steps next)
steps_find ms here (Listed n ∷ steps) c =
    none_found c.parameters (outer_values (length here.blocks) steps) (list_port n c) (λ next. check_steps ms here steps next) (list_finds n c)
    (λ next. steps_find ms here steps next)
steps_find ms here (Port p ∷ steps) c =
    none_found c.parameters (outer_values (length here.blocks) steps) (header_port here p c) (λ next. check_steps ms here steps next)
    (header_finds here p c)
    (λ next. steps_find ms here steps next)
steps_find ms here (Item x ∷ steps) c =
    none_found c.parameters (outer_values (length here.blocks) steps) (check_item ms here x c) (λ next. check_steps ms here steps next)
    (item_finds ms here x c)
    (λ next. steps_find ms here steps next)
steps_find ms here (Labelled n ∷ steps) c =
    none_found c.parameters (outer_values (length here.blocks) steps) (plain here n (declaration kind.Label None false n) c)
    (λ next. check_steps ms (in_reach (Labelled n) here) steps next) (plain_finds here n (declaration kind.Label None false n) c)
    (λ next. steps_find ms (in_reach (Labelled n) here) steps next)
steps_find ms here (Opened b items ∷ steps) c = steps_find ms (in_reach (Opened b items) here) steps c
steps_find ms here (Closed ∷ steps) c =
    IfOk-weaker (check_steps ms (in_reach Closed here) steps c)
    (λ end. end.parameters ≡ c.parameters ++ outer_values (length (blocks_around here.blocks)) steps)
    (λ end. end.parameters ≡ c.parameters ++ outer_values (length here.blocks - 1) steps)
    (λ end is. is ∙ ap (λ (n : ℕ). c.parameters ++ outer_values n steps) (one_less here.blocks)) (steps_find ms (in_reach Closed here) steps c)

-- what the checks of steps find of parameters
pub parameters_found : (ms : List ModuleDeclaration) (here : Reach) (steps : List ModuleStep) (c end : Checked) → check_steps ms here steps c ≡ Ok end
    → end.parameters ≡ c.parameters ++ outer_values (length here.blocks) steps
parameters_found ms here steps c end is =
    IfOk-at_ok (λ (next : Checked). next.parameters ≡ c.parameters ++ outer_values (length here.blocks) steps) is (steps_find ms here steps c)
