-- The checks of a module find instances where its text has instances, and nowhere else (IEEE Std 1364-2005, 12.1.2).
use Rattle.std.proofs.Common.{◌≡◌, ℕ, Bool, true, false, if◌then◌else◌, List, [], ◌∷◌, ◌++◌, map, Option, Some, None, Result, Ok, Err}
use Rattle.std.proofs.Common.{refl, sym, ◌∙◌, true≢false}
use Rattle.std.specs.Result.{IfOk}
use Rattle.std.proofs.lemmas.Result.{IfOk-weaker, IfOk-at_ok}
use Rattle.ls_text.specs.declared.fault.Fault.{Fault}
use Rattle.verilog_ast.specs.declared.identifier.Identifier.{Identifier}
use Rattle.verilog_ast.specs.declared.port_net.PortNet.{PortNet}
use Rattle.verilog_ast.specs.declared.port_net.PortNet.TheVariants as net
use Rattle.verilog_ast.specs.Declarations.{PortDeclaration, InputPort, OutputPort, NextPort, header_net}
use Rattle.verilog_ast.specs.Expressions.{Expression}
use Rattle.verilog_ast.specs.Items as i
use Rattle.verilog_ast.specs.Items.{ModuleItem, ModuleDeclaration}
use Rattle.width_rules.specs.Faults.{fault_at}
use Rattle.gen_unroll.specs.declared.parameter_sort.ParameterSort.{ParameterSort}
use Rattle.gen_unroll.specs.Declarations.{BitRange, declared_name}
use Rattle.gen_unroll.specs.Reaches.{Reach, innermost}
use Rattle.gen_unroll.specs.Steps.{ModuleStep, Listed, Port, Parameter, Item, Labelled, Opened, Closed}
use Rattle.ls_text.specs.Answers.{◌>>=◌}
use Rattle.gen_unroll.specs.Values.{ConstantValue}
use Rattle.module_names.specs.Listings.{is_listed}
use Rattle.elaborate.specs.declared.declaration_kind.DeclarationKind.{DeclarationKind}
use Rattle.elaborate.specs.declared.declaration_kind.DeclarationKind.TheVariants as kind
use Rattle.elaborate.specs.Checks.{ModuleChild, Checked, declaration, each, range_of_kind, plain, list_port, declare_port, header_port}
use Rattle.elaborate.specs.Checks.{body_port, variable, wire, reg, genvar, with_parameter, parameter, check_item, check_step}
use Rattle.elaborate.specs.Tables.{Declaration, declare, declare_net, initial, kind_of_net}

-- unless there is a fault, the instances are these
abbrev Has : List ModuleChild → Result Checked Fault → Type 0
Has cs r = IfOk r (λ (next : Checked). next.children ≡ cs)

-- ---- steps, one after another

-- a value, and what follows it
after : {A : Type 0} (cs : List ModuleChild) (d : Result A Fault) (f : A → Result Checked Fault) → ((x : A) → Has cs (f x)) → Has cs (d >>= f)
after cs (Ok x) f is = is x
after cs (Err e) f is = tt

-- a step, and what follows it
then_has : (cs : List ModuleChild) (d : Result Checked Fault) (f : Checked → Result Checked Fault) → Has cs d
    → ((c : Checked) → c.children ≡ cs → Has cs (f c)) → Has cs (d >>= f)
then_has cs (Ok c) f first next = next c first
then_has cs (Err e) f first next = tt

unless_has : (cs : List ModuleChild) (b : Bool) (f : Fault) (c : Checked) → c.children ≡ cs → Has cs (if b then Err f else Ok c)
unless_has cs true f c is = tt
unless_has cs false f c is = is

if_has : (cs : List ModuleChild) (b : Bool) (f : Fault) (c : Checked) → c.children ≡ cs → Has cs (if b then Ok c else Err f)
if_has cs true f c is = is
if_has cs false f c is = tt

each_has : {A : Type 0} (step : A → Checked → Result Checked Fault) → ((x : A) (c : Checked) → Has c.children (step x c)) → (xs : List A)
    (c : Checked) → Has c.children (each step xs c)
each_has step is [] c = refl
each_has step is (x ∷ xs) c =
    then_has c.children (step x c) (each step xs) (is x c)
    (λ next same. IfOk-weaker (each step xs next) (λ end. end.children ≡ next.children) (λ end. end.children ≡ c.children)
    (λ end more. more ∙ same) (each_has step is xs next))

-- ---- names

plain_has : (here : Reach) (n : Identifier) (d : Declaration) (c : Checked) → Has c.children (plain here n d c)
unfolding plain
plain_has here n d c = after c.children (declare (innermost here.blocks) n d c.declared) (λ t. Ok (record c { declared = t })) (λ t. refl)

list_has : (n : Identifier) (c : Checked) → Has c.children (list_port n c)
unfolding list_port
list_has n c = unless_has c.children (is_listed n.name.0 c.ports) (fault_at 28 n) (record c { ports = c.ports ++ n ∷ [] }) refl

declare_has : (here : Reach) (n : Identifier) (d : Declaration) (value : Option Expression) (c : Checked)
    → Has c.children (declare_port here n d value c)
unfolding declare_port
declare_has here n d value c =
    then_has c.children (plain here n d c)
    (λ next. list_port n (record next { port = d }) >>= λ listed. initial value n d.kind >>= λ _. Ok listed)
    (plain_has here n d c)
    (λ next same. after_list next same)
  where
    after_list : (next : Checked) → next.children ≡ c.children
        → Has c.children (list_port n (record next { port = d }) >>= λ listed. initial value n d.kind >>= λ _. Ok listed)
    after_list next same =
        then_has c.children (list_port n (record next { port = d })) (λ listed. initial value n d.kind >>= λ _. Ok listed)
        (IfOk-weaker (list_port n (record next { port = d })) (λ end. end.children ≡ next.children) (λ end. end.children ≡ c.children)
        (λ end more. more ∙ same) (list_has n (record next { port = d })))
        (λ listed more. after c.children (initial value n d.kind) (λ _. Ok listed) (λ _. more))

header_has : (here : Reach) (p : PortDeclaration) (c : Checked) → Has c.children (header_port here p c)
header_has here (InputPort at net k n) c =
    after c.children (range_of_kind here.scope k) (λ r. declare_port here n (declaration (kind.Input (header_net net)) r k.signed n) None c)
    (λ r. declare_has here n (declaration (kind.Input (header_net net)) r k.signed n) None c)
header_has here (OutputPort at net k x) c =
    after c.children (range_of_kind here.scope k)
    (λ r. declare_port here x.name (declaration (kind.Output (header_net net)) r k.signed x.name) x.value c)
    (λ r. declare_has here x.name (declaration (kind.Output (header_net net)) r k.signed x.name) x.value c)
header_has here (NextPort x) c = declare_has here x.name (declaration c.port.kind c.port.range c.port.signed x.name) x.value c

body_has : (here : Reach) (k : DeclarationKind) (range : Option BitRange) (signed : Bool) (n : Identifier) (c : Checked)
    → Has c.children (body_port here k range signed n c)
unfolding body_port
body_has here k range signed n c =
    then_has c.children (plain here n (declaration k range signed n) c)
    (λ next. if is_listed n.name.0 next.ports then Ok next else Err (fault_at 27 n))
    (plain_has here n (declaration k range signed n) c)
    (λ next same. if_has c.children (is_listed n.name.0 next.ports) (fault_at 27 n) next same)

variable_has : (here : Reach) (by : PortNet) (range : Option BitRange) (signed : Bool) (n : Identifier) (value : Option Expression) (c : Checked)
    → Has c.children (variable here by range signed n value c)
unfolding variable
variable_has here by range signed n value c =
    after c.children (declare_net (innermost here.blocks) n by (declaration (kind_of_net by) range signed n) value c.declared)
    (λ t. Ok (record c { declared = t })) (λ t. refl)

-- ---- items

abbrev pub are_instances : ModuleItem → Bool
are_instances (i.Instances n overrides xs) = true
are_instances other = false

item_has : (ms : List ModuleDeclaration) (here : Reach) (x : ModuleItem) (c : Checked) → are_instances x ≡ false
    → Has c.children (check_item ms here x c)
item_has ms here (i.Inputs at by k ns) c other =
    after c.children (range_of_kind here.scope k) (λ r. each (body_port here (kind.Input by) r k.signed) ns c)
    (λ r. each_has (body_port here (kind.Input by) r k.signed) (body_has here (kind.Input by) r k.signed) ns c)
item_has ms here (i.Outputs at by k xs) c other =
    after c.children (range_of_kind here.scope k) (λ r. each (body_port here (kind.Output by) r k.signed) (map declared_name xs) c)
    (λ r. each_has (body_port here (kind.Output by) r k.signed) (body_has here (kind.Output by) r k.signed) (map declared_name xs) c)
item_has ms here (i.Wires at k xs) c other =
    after c.children (range_of_kind here.scope k) (λ r. each (wire here r k.signed) xs c)
    (λ r. each_has (wire here r k.signed) (λ x. variable_has here net.Wire r k.signed x.name x.value) xs c)
item_has ms here (i.Regs at k xs) c other =
    after c.children (range_of_kind here.scope k) (λ r. each (reg here r k.signed) xs c)
    (λ r. each_has (reg here r k.signed) (λ x. variable_has here net.Reg r k.signed x.name x.value) xs c)
item_has ms here (i.Genvars at ns) c other = each_has (genvar here) (λ n. plain_has here n (declaration kind.Genvar None false n)) ns c
item_has ms here (i.Instances n overrides xs) c other = absurd (true≢false other)
item_has ms here _ c other = refl

-- ---- steps

placed_has : (block : Option ℕ) (v : ConstantValue) (c : Checked) → (with_parameter block v c).children ≡ c.children
placed_has None v c = refl
placed_has (Some b) v c = refl

parameter_has : (here : Reach) (s : ParameterSort) (n : Identifier) (v : ConstantValue) (c : Checked) → Has c.children (parameter here s n v c)
unfolding parameter
parameter_has here s n v c =
    then_has c.children (plain here n (declaration (kind.Parameter s) None v.signed n) c)
    (λ next. Ok (with_parameter (innermost here.blocks) v next))
    (plain_has here n (declaration (kind.Parameter s) None v.signed n) c)
    (λ next same. placed_has (innermost here.blocks) v next ∙ same)

abbrev pub are_instances_here : ModuleStep → Bool
are_instances_here (Item x) = are_instances x
are_instances_here other = false

step_has : (ms : List ModuleDeclaration) (here : Reach) (s : ModuleStep) (c : Checked) → are_instances_here s ≡ false
    → Has c.children (check_step ms here s c)
step_has ms here (Listed n) c other = list_has n c
step_has ms here (Port p) c other = header_has here p c
step_has ms here (Parameter s n v) c other = parameter_has here s n v c
step_has ms here (Item x) c other = item_has ms here x c other
step_has ms here (Labelled n) c other = plain_has here n (declaration kind.Label None false n) c
step_has ms here (Opened b items) c other = refl
step_has ms here Closed c other = refl

-- a step without instances finds none
pub children_kept : (ms : List ModuleDeclaration) (here : Reach) (s : ModuleStep) (c end : Checked) → are_instances_here s ≡ false
    → check_step ms here s c ≡ Ok end → c.children ≡ end.children
children_kept ms here s c end other is = sym (IfOk-at_ok (λ (next : Checked). next.children ≡ c.children) is (step_has ms here s c other))

pub name_kept : (here : Reach) (n : Identifier) (d : Declaration) (c end : Checked) → plain here n d c ≡ Ok end → c.children ≡ end.children
name_kept here n d c end is = sym (IfOk-at_ok (λ (next : Checked). next.children ≡ c.children) is (plain_has here n d c))
