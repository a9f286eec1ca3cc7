-- Behind the header: each step that the checks let pass declares signals that go on agreeing with the table.
use Rattle.std.proofs.Common.{◌≡◌, ℕ, suc, ◌-◌, ◌==◌, Bool, true, false, List, [], ◌∷◌, length, map, Result, Ok, refl, sym, ◌∙◌, ap, subst, arith}
use Rattle.std.proofs.Common.{true≢false}
use Rattle.std.specs.Prelude.{Option, Some, None}
use Rattle.std.specs.List.{list_all}
use Rattle.std.proofs.lemmas.Bool.{eqb-true, and_parts}
use Rattle.ls_text.specs.declared.fault.Fault.{Fault}
use Rattle.ls_text.specs.declared.place.Place.{Place}
use Rattle.verilog_ast.specs.declared.identifier.Identifier.{Identifier}
use Rattle.verilog_ast.specs.declared.port_net.PortNet.{PortNet}
use Rattle.verilog_ast.specs.declared.port_net.PortNet.TheVariants as net
use Rattle.verilog_ast.specs.Expressions.{Expression}
use Rattle.verilog_ast.specs.Declarations.{Kind, Declared, DeclaredReg}
use Rattle.verilog_ast.specs.Items as i
use Rattle.verilog_ast.specs.Items.{ConnectionList, ModuleInstance, ModuleItem, ModuleDeclaration}
use Rattle.typed_ir.specs.declared.signal_kind.SignalKind.{SignalKind}
use Rattle.typed_ir.specs.declared.signal_kind.SignalKind.TheVariants as kinds
use Rattle.gen_unroll.specs.declared.parameter_sort.ParameterSort.{ParameterSort}
use Rattle.gen_unroll.specs.Declarations.{BitRange, declared_name, declared_reg_name}
use Rattle.gen_unroll.specs.Reaches.{Reach, innermost, blocks_around, in_reach}
use Rattle.gen_unroll.specs.Steps.{ModuleStep, Listed, Port, Parameter, Item, Labelled, Opened, Closed}
use Rattle.ls_text.specs.Answers.{◌>>=◌}
use Rattle.gen_unroll.specs.Values.{ConstantValue}
use Rattle.gen_unroll.proofs.Answered.{Stepped, good, ok_same, first_step, past_need}
use Rattle.clock_rules.specs.Connections.{connected}
use Rattle.module_names.specs.Listings.{is_listed}
use Rattle.module_names.specs.Modules.{module_named, parameters_of, header_ports}
use Rattle.elaborate.specs.declared.declaration_kind.DeclarationKind.{DeclarationKind}
use Rattle.elaborate.specs.declared.declaration_kind.DeclarationKind.TheVariants as kind
use Rattle.elaborate.specs.Checks as checks
use Rattle.elaborate.specs.Checks.{Checked, declaration, each, range_of_kind, plain, body_port, variable, wire, reg, genvar, or_no_module}
use Rattle.elaborate.specs.Checks.{one_instance, instances, with_parameter, parameter, check_item, check_step, check_steps}
use Rattle.elaborate.specs.Overrides.{overridden}
use Rattle.elaborate.specs.Tables.{Declaration, Table, declare, declare_net, is_input, is_port, kind_of_net}
use Rattle.gen_unroll.specs.Signals as signals
use Rattle.gen_unroll.specs.Signals.{NamedSignal, with_port, with_ports, with_net, with_nets, step_signals, declared_in}
use Rattle.gen_unroll.specs.UnitLists as lists
use Rattle.gen_unroll.proofs.Signals.{port_signal}
use Rattle.version_swap.specs.Outer.{is_item_outside, are_ports_outside}
use Rattle.version_swap.proofs.Agreeing.{IsSame, Agrees, other_agrees, port_agrees, net_agrees}
use Rattle.version_swap.proofs.PortedJobs.{InputsArePorts, inputs_put, inputs_last, net_no_input}

-- what is known of the checks and the signals so far
pub record IsKnown (c : Checked) (xs : List NamedSignal) : Type 0 where
  pub agrees : Agrees c.declared xs
  pub inputs : InputsArePorts xs

-- the signals behind a step, and behind some steps
pub record StepGoes (here : Reach) (s : ModuleStep) (c : Checked) (xs : List NamedSignal) : Type 0 where
  pub signals : List NamedSignal
  pub told : step_signals here s xs ≡ Ok signals
  pub known : IsKnown c signals

pub record StepsGo (here : Reach) (steps : List ModuleStep) (c : Checked) (xs : List NamedSignal) : Type 0 where
  pub signals : List NamedSignal
  pub told : declared_in here steps xs ≡ Ok signals
  pub known : IsKnown c signals

-- ---- a name

pub record IsPlain (here : Reach) (n : Identifier) (d : Declaration) (c e : Checked) : Type 0 where
  pub table : Table
  pub taken : declare (innermost here.blocks) n d c.declared ≡ Ok table
  pub after : e ≡ record c { declared = table }

pub plain_so : (here : Reach) (n : Identifier) (d : Declaration) (c e : Checked) → plain here n d c ≡ Ok e → IsPlain here n d c e
unfolding plain
plain_so here n d c e h =
    let first = first_step (declare (innermost here.blocks) n d c.declared) (λ (t : Table). Ok (record c { declared = t })) e h in
    record { table = first.value; taken = first.first; after = sym (ok_same (record c { declared = first.value }) e first.second) }

-- of what is no port
pub other_known : (here : Reach) (n : Identifier) (d : Declaration) (c e : Checked) (xs : List NamedSignal) → IsKnown c xs → is_port d.kind ≡ false
    → plain here n d c ≡ Ok e → IsKnown e xs
other_known here n d c e xs so none h =
    let is = plain_so here n d c e h in
    record {
      agrees = subst (λ (t : Checked). Agrees t.declared xs) (sym is.after)
          (other_agrees (innermost here.blocks) n d c.declared is.table xs so.agrees none is.taken);
      inputs = so.inputs;
    }

-- ---- ports

pub port_known : (here : Reach) (n : Identifier) (d : Declaration) (k : SignalKind) (by : PortNet) (range : Option BitRange) (signed : Bool)
    (c e : Checked) (xs : List NamedSignal)
    → innermost here.blocks ≡ None → IsKnown c xs → IsSame d k range signed → plain here n d c ≡ Ok e
    → IsKnown e (with_port None k by range signed n xs)
port_known here n d k by range signed c e xs outside so same h =
    let is = plain_so here n d c e h in
    record {
      agrees = subst (λ (t : Checked). Agrees t.declared (with_port None k by range signed n xs)) (sym is.after)
          (port_agrees n d k by range signed c.declared is.table xs so.agrees same
          (subst (λ (b : Option ℕ). declare b n d c.declared ≡ Ok is.table) outside is.taken));
      inputs = inputs_last xs (port_signal None k by range signed n (length xs)) so.inputs refl;
    }

body_port_known : (here : Reach) (k : DeclarationKind) (s : SignalKind) (by : PortNet) (range : Option BitRange) (signed : Bool) (n : Identifier)
    (c e : Checked) (xs : List NamedSignal)
    → innermost here.blocks ≡ None → IsKnown c xs → IsSame (declaration k range signed n) s range signed → body_port here k range signed n c ≡ Ok e
    → IsKnown e (with_port None s by range signed n xs)
unfolding body_port
body_port_known here k s by range signed n c e xs outside so same h =
    let first = first_step (plain here n (declaration k range signed n) c) _ e h in
    let test = past_need (is_listed n.name.0 first.value.ports) _ (Ok first.value) e first.second in
    port_known here n (declaration k range signed n) s by range signed c e xs outside so same
    (first.first ∙ test.1)

body_ports_known : (here : Reach) (k : DeclarationKind) (s : SignalKind) (by : PortNet) (range : Option BitRange) (signed : Bool)
    (ns : List Identifier) (c e : Checked) (xs : List NamedSignal)
    → innermost here.blocks ≡ None → IsKnown c xs → is_port k ≡ true → lists.is_input s ≡ is_input k
    → each (body_port here k range signed) ns c ≡ Ok e
    → IsKnown e (with_ports None s by range signed ns xs)
body_ports_known here k s by range signed [] c e xs outside so port same h = subst (λ (t : Checked). IsKnown t xs) (ok_same c e h) so
body_ports_known here k s by range signed (n ∷ ns) c e xs outside so port same h =
    let first = first_step (body_port here k range signed n c) (λ (d : Checked). each (body_port here k range signed) ns d) e h in
    body_ports_known here k s by range signed ns first.value e (with_port None s by range signed n xs) outside
    (body_port_known here k s by range signed n c first.value xs outside so
    (record { port = port; input = same; range_so = refl; signed_so = refl }) first.first)
    port same first.second

ports_go : (here : Reach) (k : DeclarationKind) (s : SignalKind) (by : PortNet) (range : Option BitRange) (signed : Bool) (ns : List Identifier)
    (c e : Checked) (xs : List NamedSignal)
    → innermost here.blocks ≡ None → IsKnown c xs → is_port k ≡ true → lists.is_input s ≡ is_input k
    → each (body_port here k range signed) ns c ≡ Ok e
    → IsKnown e (with_ports (innermost here.blocks) s by range signed ns xs)
ports_go here k s by range signed ns c e xs outside so port same h =
    subst (λ (b : Option ℕ). IsKnown e (with_ports b s by range signed ns xs)) (sym outside)
    (body_ports_known here k s by range signed ns c e xs outside so port same h)

inputs_go : (here : Reach) (at : Place) (by : PortNet) (k : Kind) (ns : List Identifier) (c e : Checked) (xs : List NamedSignal)
    → innermost here.blocks ≡ None → IsKnown c xs
    → checks.inputs here by k ns c ≡ Ok e → StepGoes here (Item (i.Inputs at by k ns)) e xs
inputs_go here at by k ns c e xs outside so h =
    let first = first_step (range_of_kind here.scope k) (λ (r : Option BitRange). each (body_port here (kind.Input by) r k.signed) ns c) e h in
    record {
      signals = with_ports (innermost here.blocks) kinds.Input by first.value k.signed ns xs;
      told = ap (λ z. z >>= λ (r : Option BitRange). Ok (with_ports (innermost here.blocks) kinds.Input by r k.signed ns xs))
          first.first;
      known = ports_go here (kind.Input by) kinds.Input by first.value k.signed ns c e xs outside so refl refl first.second;
    }

outputs_go : (here : Reach) (at : Place) (by : PortNet) (k : Kind) (ps : List Declared) (c e : Checked) (xs : List NamedSignal)
    → innermost here.blocks ≡ None → IsKnown c xs
    → checks.outputs here by k ps c ≡ Ok e → StepGoes here (Item (i.Outputs at by k ps)) e xs
outputs_go here at by k ps c e xs outside so h =
    let first = first_step (range_of_kind here.scope k)
    (λ (r : Option BitRange). each (body_port here (kind.Output by) r k.signed) (map declared_name ps) c) e h in
    record {
      signals = with_ports (innermost here.blocks) (signals.kind_of_net by) by first.value k.signed (map declared_name ps) xs;
      told = ap (λ z. z >>= λ (r : Option BitRange).
          Ok (with_ports (innermost here.blocks) (signals.kind_of_net by) by r k.signed (map declared_name ps) xs))
          first.first;
      known = ports_go here (kind.Output by) (signals.kind_of_net by) by first.value k.signed (map declared_name ps) c e xs outside so refl
          (net_no_input by) first.second;
    }

-- ---- nets and variables

variable_known : (here : Reach) (by : PortNet) (range : Option BitRange) (signed : Bool) (n : Identifier) (value : Option Expression) (c e : Checked)
    (xs : List NamedSignal)
    → IsKnown c xs → variable here by range signed n value c ≡ Ok e → IsKnown e (with_net (innermost here.blocks) by range signed n xs)
unfolding variable
variable_known here by range signed n value c e xs so h =
    let first = first_step (declare_net (innermost here.blocks) n by (declaration (kind_of_net by) range signed n) value c.declared)
    (λ (t : Table). Ok (record c { declared = t })) e h in
    record {
      agrees = subst (λ (t : Checked). Agrees t.declared (with_net (innermost here.blocks) by range signed n xs))
          (ok_same (record c { declared = first.value }) e first.second)
          (net_agrees (innermost here.blocks) n by range signed value c.declared first.value xs so.agrees first.first);
      inputs = inputs_put (innermost here.blocks) by range signed n (length xs) xs so.inputs;
    }

nets_known : {A : Type 0} (here : Reach) (by : PortNet) (range : Option BitRange) (signed : Bool) (name_of : A → Identifier)
    (step : A → Checked → Result Checked Fault)
    → ((x : A) (c e : Checked) (xs : List NamedSignal) → IsKnown c xs → step x c ≡ Ok e
    → IsKnown e (with_net (innermost here.blocks) by range signed (name_of x) xs))
    → (all : List A) (c e : Checked) (xs : List NamedSignal) → IsKnown c xs → each step all c ≡ Ok e
    → IsKnown e (with_nets (innermost here.blocks) by range signed (map name_of all) xs)
nets_known here by range signed name_of step one [] c e xs so h = subst (λ (t : Checked). IsKnown t xs) (ok_same c e h) so
nets_known here by range signed name_of step one (x ∷ all) c e xs so h =
    let first = first_step (step x c) (λ (d : Checked). each step all d) e h in
    nets_known here by range signed name_of step one all first.value e (with_net (innermost here.blocks) by range signed (name_of x) xs)
    (one x c first.value xs so first.first) first.second

wires_go : (here : Reach) (at : Place) (k : Kind) (all : List Declared) (c e : Checked) (xs : List NamedSignal) → IsKnown c xs
    → checks.wires here k all c ≡ Ok e
    → StepGoes here (Item (i.Wires at k all)) e xs
wires_go here at k all c e xs so h =
    let first = first_step (range_of_kind here.scope k) (λ (r : Option BitRange). each (wire here r k.signed) all c) e h in
    record {
      signals = with_nets (innermost here.blocks) net.Wire first.value k.signed (map declared_name all) xs;
      told = ap (λ z. z >>= λ (r : Option BitRange). Ok (with_nets (innermost here.blocks) net.Wire r k.signed (map declared_name all) xs))
          first.first;
      known = nets_known here net.Wire first.value k.signed declared_name (wire here first.value k.signed)
          (λ x d f ys known is. variable_known here net.Wire first.value k.signed x.name x.value d f ys known is) all c e xs so first.second;
    }

regs_go : (here : Reach) (at : Place) (k : Kind) (all : List DeclaredReg) (c e : Checked) (xs : List NamedSignal) → IsKnown c xs
    → checks.regs here k all c ≡ Ok e
    → StepGoes here (Item (i.Regs at k all)) e xs
regs_go here at k all c e xs so h =
    let first = first_step (range_of_kind here.scope k) (λ (r : Option BitRange). each (reg here r k.signed) all c) e h in
    record {
      signals = with_nets (innermost here.blocks) net.Reg first.value k.signed (map declared_reg_name all) xs;
      told = ap (λ z. z >>= λ (r : Option BitRange). Ok (with_nets (innermost here.blocks) net.Reg r k.signed (map declared_reg_name all) xs))
          first.first;
      known = nets_known here net.Reg first.value k.signed declared_reg_name (reg here first.value k.signed)
          (λ x d f ys known is. variable_known here net.Reg first.value k.signed x.name x.value d f ys known is) all c e xs so first.second;
    }

-- ---- what declares no signal

each_known : {A : Type 0} (step : A → Checked → Result Checked Fault) (xs : List NamedSignal)
    → ((x : A) (c e : Checked) → IsKnown c xs → step x c ≡ Ok e → IsKnown e xs)
    → (all : List A) (c e : Checked) → IsKnown c xs → each step all c ≡ Ok e → IsKnown e xs
each_known step xs one [] c e so h = subst (λ (t : Checked). IsKnown t xs) (ok_same c e h) so
each_known step xs one (x ∷ all) c e so h =
    let first = first_step (step x c) (λ (d : Checked). each step all d) e h in
    each_known step xs one all first.value e (one x c first.value so first.first) first.second

one_instance_known : (here : Reach) (m : ModuleDeclaration) (n : Identifier) (vs : List (Option ConstantValue)) (x : ModuleInstance) (c e : Checked)
    (xs : List NamedSignal) → IsKnown c xs
    → one_instance here m n vs x c ≡ Ok e → IsKnown e xs
unfolding one_instance
one_instance_known here m n vs x c e xs so h =
    let first = first_step (plain here x.name (declaration kind.Instance None false x.name) c) _ e h in
    let second = first_step (connected (header_ports m.ports) x.connections) _ e first.second in
    let known = other_known here x.name (declaration kind.Instance None false x.name) c first.value xs so refl first.first in
    subst (λ (t : Checked). IsKnown t xs) (ok_same _ e second.second) (record { agrees = known.agrees; inputs = known.inputs })

instances_known : (ms : List ModuleDeclaration) (here : Reach) (n : Identifier) (overrides : Option ConnectionList) (all : List ModuleInstance)
    (c e : Checked) (xs : List NamedSignal)
    → IsKnown c xs → instances ms here n overrides all c ≡ Ok e → IsKnown e xs
unfolding instances
instances_known ms here n overrides all c e xs so h =
    let first = first_step (or_no_module (module_named n.name.0 ms) n) _ e h in
    let second = first_step (overridden here.scope (parameters_of first.value) overrides) _ e first.second in
    each_known (one_instance here first.value n second.value) xs
    (λ x d f known is. one_instance_known here first.value n second.value x d f xs known is) all c e so second.second

with_parameter_known : (block : Option ℕ) (v : ConstantValue) (c : Checked) (xs : List NamedSignal) → IsKnown c xs
    → IsKnown (with_parameter block v c) xs
with_parameter_known None v c xs so = record { agrees = so.agrees; inputs = so.inputs }
with_parameter_known (Some b) v c xs so = so

pub parameter_known : (here : Reach) (s : ParameterSort) (n : Identifier) (v : ConstantValue) (c e : Checked) (xs : List NamedSignal) → IsKnown c xs
    → parameter here s n v c ≡ Ok e
    → IsKnown e xs
unfolding parameter
parameter_known here s n v c e xs so h =
    let first = first_step (plain here n (declaration (kind.Parameter s) None v.signed n) c)
    (λ (d : Checked). Ok (with_parameter (innermost here.blocks) v d)) e h in
    subst (λ (t : Checked). IsKnown t xs) (ok_same (with_parameter (innermost here.blocks) v first.value) e first.second)
    (with_parameter_known (innermost here.blocks) v first.value xs
    (other_known here n (declaration (kind.Parameter s) None v.signed n) c first.value xs so refl first.first))

-- ---- steps

abbrev pub quietly : (here : Reach) (s : ModuleStep) (c : Checked) (xs : List NamedSignal) → step_signals here s xs ≡ Ok xs → IsKnown c xs
    → StepGoes here s c xs
quietly here s c xs told known = record { signals = xs; told = told; known = known }

same_quietly : (here : Reach) (s : ModuleStep) (c e : Checked) (xs : List NamedSignal) → step_signals here s xs ≡ Ok xs → IsKnown c xs → good c ≡ Ok e
    → StepGoes here s e xs
same_quietly here s c e xs told known h = quietly here s e xs told (subst (λ (t : Checked). IsKnown t xs) (ok_same c e h) known)

-- no block is open
pub outermost : (blocks : List ℕ) → (length blocks == 0) ≡ true → innermost blocks ≡ None
outermost [] h = refl
outermost (b ∷ bs) h = let none : suc (length bs) ≡ 0 = eqb-true (suc (length bs)) 0 h in absurd (omega (arith, none))

item_goes : (ms : List ModuleDeclaration) (here : Reach) (x : ModuleItem) (c e : Checked) (xs : List NamedSignal)
    → is_item_outside (length here.blocks) x ≡ true → IsKnown c xs
    → check_item ms here x c ≡ Ok e → StepGoes here (Item x) e xs
item_goes ms here (i.Inputs at by k ns) c e xs may so h = inputs_go here at by k ns c e xs (outermost here.blocks may) so h
item_goes ms here (i.Outputs at by k ps) c e xs may so h = outputs_go here at by k ps c e xs (outermost here.blocks may) so h
item_goes ms here (i.Wires at k all) c e xs may so h = wires_go here at k all c e xs so h
item_goes ms here (i.Regs at k all) c e xs may so h = regs_go here at k all c e xs so h
item_goes ms here (i.Genvars at ns) c e xs may so h =
    quietly here (Item (i.Genvars at ns)) e xs refl
    (each_known (genvar here) xs (λ n d f known is. other_known here n (declaration kind.Genvar None false n) d f xs known refl is) ns c e so h)
item_goes ms here (i.Instances n overrides all) c e xs may so h =
    quietly here (Item (i.Instances n overrides all)) e xs refl (instances_known ms here n overrides all c e xs so h)
item_goes ms here (i.Parameters at k ps) c e xs may so h = same_quietly here (Item (i.Parameters at k ps)) c e xs refl so h
item_goes ms here (i.LocalParameters at k ps) c e xs may so h = same_quietly here (Item (i.LocalParameters at k ps)) c e xs refl so h
item_goes ms here (i.Assigns at all) c e xs may so h = same_quietly here (Item (i.Assigns at all)) c e xs refl so h
item_goes ms here (i.Combinational at x) c e xs may so h = same_quietly here (Item (i.Combinational at x)) c e xs refl so h
item_goes ms here (i.Clocked at n x) c e xs may so h = same_quietly here (Item (i.Clocked at n x)) c e xs refl so h
item_goes ms here (i.Region at x) c e xs may so h = same_quietly here (Item (i.Region at x)) c e xs refl so h
item_goes ms here (i.Loop at head label x) c e xs may so h = same_quietly here (Item (i.Loop at head label x)) c e xs refl so h
item_goes ms here (i.Conditional x) c e xs may so h = same_quietly here (Item (i.Conditional x)) c e xs refl so h
item_goes ms here (i.Branch at d label x) c e xs may so h = same_quietly here (Item (i.Branch at d label x)) c e xs refl so h
item_goes ms here i.NoItem c e xs may so h = same_quietly here (Item i.NoItem) c e xs refl so h
item_goes ms here (i.Items x y) c e xs may so h = same_quietly here (Item (i.Items x y)) c e xs refl so h

-- a step of no header
abbrev pub is_of_body : ModuleStep → Bool
is_of_body (Listed n) = false
is_of_body (Port p) = false
is_of_body (Parameter s n v) = true
is_of_body (Item x) = true
is_of_body (Labelled n) = true
is_of_body (Opened b items) = true
is_of_body Closed = true

-- a step, and then the others
pub go_on : (here : Reach) (s : ModuleStep) (ss : List ModuleStep) (c e : Checked) (xs : List NamedSignal) → (first : StepGoes here s c xs)
    → StepsGo (in_reach s here) ss e first.signals → StepsGo here (s ∷ ss) e xs
go_on here s ss c e xs first rest = record {
  signals = rest.signals;
  told = ap (λ z. z >>= λ (ys : List NamedSignal). declared_in (in_reach s here) ss ys) first.told ∙ rest.told;
  known = rest.known;
}

pub first_check : (ms : List ModuleDeclaration) (here : Reach) (s : ModuleStep) (ss : List ModuleStep) (c e : Checked)
    → check_steps ms here (s ∷ ss) c ≡ Ok e
    → Stepped (check_step ms here s c) (λ (d : Checked). check_steps ms (in_reach s here) ss d) e
first_check ms here s ss c e h = first_step (check_step ms here s c) (λ (d : Checked). check_steps ms (in_reach s here) ss d) e h

fewer : (blocks : List ℕ) → length (blocks_around blocks) ≡ length blocks - 1
fewer [] = refl
fewer (b ∷ bs) = omega arith

pub body_goes : (ms : List ModuleDeclaration) (here : Reach) (steps : List ModuleStep) (c e : Checked) (xs : List NamedSignal)
    → list_all is_of_body steps ≡ true
    → are_ports_outside (length here.blocks) steps ≡ true → IsKnown c xs → check_steps ms here steps c ≡ Ok e → StepsGo here steps e xs
body_goes ms here [] c e xs body outside so h = record { signals = xs; told = refl; known = subst (λ (t : Checked). IsKnown t xs) (ok_same c e h) so }
body_goes ms here (Listed n ∷ ss) c e xs body outside so h = absurd (true≢false (sym body))
body_goes ms here (Port p ∷ ss) c e xs body outside so h = absurd (true≢false (sym body))
body_goes ms here (Parameter s n v ∷ ss) c e xs body outside so h =
    let first = first_check ms here (Parameter s n v) ss c e h in
    let step = quietly here (Parameter s n v) first.value xs refl (parameter_known here s n v c first.value xs so first.first) in
    go_on here (Parameter s n v) ss first.value e xs step
    (body_goes ms (in_reach (Parameter s n v) here) ss first.value e step.signals body outside step.known first.second)
body_goes ms here (Item x ∷ ss) c e xs body outside so h =
    let first = first_check ms here (Item x) ss c e h in
    let may = and_parts (is_item_outside (length here.blocks) x) (are_ports_outside (length here.blocks) ss) outside in
    let step = item_goes ms here x c first.value xs may.0 so first.first in
    go_on here (Item x) ss first.value e xs step (body_goes ms here ss first.value e step.signals body may.1 step.known first.second)
body_goes ms here (Labelled n ∷ ss) c e xs body outside so h =
    let first = first_check ms here (Labelled n) ss c e h in
    let step = quietly here (Labelled n) first.value xs refl
    (other_known here n (declaration kind.Label None false n) c first.value xs so refl first.first) in
    go_on here (Labelled n) ss first.value e xs step
    (body_goes ms (in_reach (Labelled n) here) ss first.value e step.signals body outside step.known first.second)
body_goes ms here (Opened b items ∷ ss) c e xs body outside so h =
    go_on here (Opened b items) ss c e xs (quietly here (Opened b items) c xs refl so)
    (body_goes ms (in_reach (Opened b items) here) ss c e xs body outside so h)
body_goes ms here (Closed ∷ ss) c e xs body outside so h =
    go_on here Closed ss c e xs (quietly here Closed c xs refl so)
    (body_goes ms (in_reach Closed here) ss c e xs body
    (subst (λ (k : ℕ). are_ports_outside k ss ≡ true) (sym (fewer here.blocks)) outside) so h)
