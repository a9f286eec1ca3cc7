-- The header: each name is new, and each port that it declares is the last signal.
use Rattle.std.proofs.Common.{◌≡◌, ℕ, ◌==◌, Bool, true, false, List, [], ◌∷◌, ◌++◌, length, Ok, refl, sym, ◌∙◌, ap, subst}
use Rattle.std.specs.Prelude.{Option, Some, None}
use Rattle.std.proofs.lemmas.Bool.{and_parts}
use Rattle.verilog_ast.specs.declared.identifier.Identifier.{Identifier}
use Rattle.verilog_ast.specs.declared.port_net.PortNet.{PortNet}
use Rattle.verilog_ast.specs.declared.port_net.PortNet.TheVariants as net
use Rattle.verilog_ast.specs.Expressions.{Expression}
use Rattle.verilog_ast.specs.Declarations.{PortDeclaration, InputPort, OutputPort, NextPort, header_net}
use Rattle.verilog_ast.specs.Items.{ModuleDeclaration}
use Rattle.typed_ir.specs.declared.signal_kind.SignalKind.{SignalKind}
use Rattle.typed_ir.specs.declared.signal_kind.SignalKind.TheVariants as kinds
use Rattle.gen_unroll.specs.declared.parameter_sort.ParameterSort.{ParameterSort}
use Rattle.gen_unroll.specs.Declarations.{BitRange}
use Rattle.gen_unroll.specs.Reaches.{Reach, innermost, in_reach}
use Rattle.gen_unroll.specs.Steps.{ModuleStep, Listed, Port, Parameter}
use Rattle.ls_text.specs.Answers.{◌>>=◌}
use Rattle.gen_unroll.specs.Values.{ConstantValue}
use Rattle.gen_unroll.proofs.Answered.{ok_same, first_step, past_test}
use Rattle.module_names.specs.Listings.{is_listed}
use Rattle.module_names.specs.Modules.{port_name}
use Rattle.elaborate.specs.declared.declaration_kind.DeclarationKind.TheVariants as kind
use Rattle.elaborate.specs.Checks.{Checked, declaration, plain, list_port, declare_port, header_port, range_of_kind, with_parameter, parameter}
use Rattle.elaborate.specs.Checks.{check_steps}
use Rattle.elaborate.specs.Tables.{Declaration, initial}
use Rattle.gen_unroll.specs.Signals as signals
use Rattle.gen_unroll.specs.Signals.{NamedSignal, with_port, with_next, last_of, step_signals}
use Rattle.gen_unroll.proofs.Signals.{port_signal}
use Rattle.version_swap.specs.Outer.{are_ports_outside}
use Rattle.version_swap.proofs.Agreeing.{IsSame}
use Rattle.version_swap.proofs.PortedJobs.{net_no_input, last_new}
use Rattle.version_swap.proofs.Bodies.{IsKnown, StepsGo, plain_so, port_known, parameter_known, quietly, outermost, go_on, first_check, body_goes}
use Rattle.version_swap.proofs.Headed.{IsHeaded, body, parameter_ahead, listed, declared}

-- names of which none stands among these or before itself
abbrev pub AreNew : (before ns : List Identifier) → Type 0
AreNew before [] = Unit {0}
AreNew before (n ∷ ns) = (is_listed n.name.0 before ≡ false) × AreNew (before ++ n ∷ []) ns

-- the last port of the header is the last signal; without one a further name is an input
abbrev pub Behind : Declaration → Option NamedSignal → Type 0
Behind d None = IsSame d kinds.Input None false
Behind d (Some x) = IsSame d x.kind x.range x.signed

pub record IsHeading (c : Checked) (xs : List NamedSignal) : Type 0 where
  pub known : IsKnown c xs
  pub last : Behind c.port (last_of xs)

-- ---- a name of the header

record IsListed (n : Identifier) (c e : Checked) : Type 0 where
  fresh : is_listed n.name.0 c.ports ≡ false
  after : e ≡ record c { ports = c.ports ++ n ∷ [] }

list_port_so : (n : Identifier) (c e : Checked) → list_port n c ≡ Ok e → IsListed n c e
unfolding list_port
list_port_so n c e h =
    let test = past_test (is_listed n.name.0 c.ports) _ (Ok (record c { ports = c.ports ++ n ∷ [] })) e h in
    record { fresh = test.0; after = sym (ok_same (record c { ports = c.ports ++ n ∷ [] }) e test.1) }

-- a port that was declared, and the signals behind it
record IsTaken (n : Identifier) (c e : Checked) (ys : List NamedSignal) : Type 0 where
  fresh : is_listed n.name.0 c.ports ≡ false
  ports : e.ports ≡ c.ports ++ n ∷ []
  heading : IsHeading e ys

port_taken : (here : Reach) (n : Identifier) (d : Declaration) (value : Option Expression) (k : SignalKind) (by : PortNet) (range : Option BitRange)
    (signed : Bool) (c e : Checked) (xs : List NamedSignal)
    → innermost here.blocks ≡ None → IsKnown c xs → IsSame d k range signed → declare_port here n d value c ≡ Ok e
    → IsTaken n c e (with_port None k by range signed n xs)
unfolding declare_port
port_taken here n d value k by range signed c e xs outside so same h =
    let first = first_step (plain here n d c)
    (λ (next : Checked). list_port n (record next { port = d }) >>= λ (all : Checked). initial value n d.kind >>= λ _. Ok all) e h in
    let second = first_step (list_port n (record first.value { port = d }))
    (λ (all : Checked). initial value n d.kind >>= λ _. Ok all) e first.second in
    let third = first_step (initial value n d.kind) (λ _. Ok second.value) e second.second in
    let one = plain_so here n d c first.value first.first in
    let two = list_port_so n (record first.value { port = d }) second.value second.first in
    let is : e ≡ record first.value { port = d; ports = first.value.ports ++ n ∷ [] } = sym (ok_same second.value e third.second) ∙ two.after in
    let before : first.value.ports ≡ c.ports = ap (λ (t : Checked). t.ports) one.after in
    let known = port_known here n d k by range signed c first.value xs outside so same first.first in
    record {
      fresh = ap (is_listed n.name.0) (sym before) ∙ two.fresh;
      ports = ap (λ (t : Checked). t.ports) is ∙ ap (λ (ps : List Identifier). ps ++ n ∷ []) before;
      heading = subst (λ (t : Checked). IsHeading t (with_port None k by range signed n xs)) (sym is) (record {
        known = record { agrees = known.agrees; inputs = known.inputs };
        last = subst (Behind d) (sym (last_new xs (port_signal None k by range signed n (length xs)))) same;
      });
    }

-- a further name has the declaration of the port before
next_taken : (here : Reach) (n : Identifier) (value : Option Expression) (c e : Checked) (xs : List NamedSignal) (o : Option NamedSignal)
    → innermost here.blocks ≡ None → IsKnown c xs
    → Behind c.port o → declare_port here n (declaration c.port.kind c.port.range c.port.signed n) value c ≡ Ok e
    → IsTaken n c e (with_next o None n xs)
next_taken here n value c e xs None outside so last h =
    port_taken here n (declaration c.port.kind c.port.range c.port.signed n) value kinds.Input net.Wire None false c e xs outside so
    (record { port = last.port; input = last.input; range_so = last.range_so; signed_so = last.signed_so }) h
next_taken here n value c e xs (Some x) outside so last h =
    port_taken here n (declaration c.port.kind c.port.range c.port.signed n) value x.kind x.net x.range x.signed c e xs outside so
    (record { port = last.port; input = last.input; range_so = last.range_so; signed_so = last.signed_so }) h

record PortGoes (here : Reach) (p : PortDeclaration) (c e : Checked) (xs : List NamedSignal) : Type 0 where
  signals : List NamedSignal
  told : step_signals here (Port p) xs ≡ Ok signals
  taken : IsTaken (port_name p) c e signals

port_goes : (here : Reach) (p : PortDeclaration) (c e : Checked) (xs : List NamedSignal) → innermost here.blocks ≡ None → IsHeading c xs
    → header_port here p c ≡ Ok e
    → PortGoes here p c e xs
port_goes here (InputPort at by k n) c e xs outside so h =
    let first = first_step (range_of_kind here.scope k)
    (λ (r : Option BitRange). declare_port here n (declaration (kind.Input (header_net by)) r k.signed n) None c) e h in
    record {
      signals = with_port None kinds.Input (header_net by) first.value k.signed n xs;
      told = ap (λ z. z >>= λ (r : Option BitRange). Ok (with_port (innermost here.blocks) kinds.Input (header_net by) r k.signed n xs))
          first.first
          ∙ ap (λ (b : Option ℕ). Ok (with_port b kinds.Input (header_net by) first.value k.signed n xs)) outside;
      taken = port_taken here n (declaration (kind.Input (header_net by)) first.value k.signed n) None
          kinds.Input (header_net by) first.value k.signed c e xs outside so.known
          (record { port = refl; input = refl; range_so = refl; signed_so = refl }) first.second;
    }
port_goes here (OutputPort at by k x) c e xs outside so h =
    let first = first_step (range_of_kind here.scope k)
    (λ (r : Option BitRange). declare_port here x.name (declaration (kind.Output (header_net by)) r k.signed x.name) x.value c) e h in
    record {
      signals = with_port None (signals.kind_of_net by) (header_net by) first.value k.signed x.name xs;
      told = ap (λ z. z >>= λ (r : Option BitRange).
          Ok (with_port (innermost here.blocks) (signals.kind_of_net by) (header_net by) r k.signed x.name xs))
          first.first
          ∙ ap (λ (b : Option ℕ). Ok (with_port b (signals.kind_of_net by) (header_net by) first.value k.signed x.name xs)) outside;
      taken = port_taken here x.name (declaration (kind.Output (header_net by)) first.value k.signed x.name) x.value
          (signals.kind_of_net by) (header_net by) first.value k.signed c e xs
          outside so.known (record { port = refl; input = net_no_input by; range_so = refl; signed_so = refl }) first.second;
    }
port_goes here (NextPort x) c e xs outside so h = record {
  signals = with_next (last_of xs) None x.name xs;
  told = ap (λ (b : Option ℕ). Ok (with_next (last_of xs) b x.name xs)) outside;
  taken = next_taken here x.name x.value c e xs (last_of xs) outside so.known so.last h;
}

-- ---- parameters

kept_by_parameter : (block : Option ℕ) (v : ConstantValue) (c : Checked)
    → ((with_parameter block v c).ports ≡ c.ports) × ((with_parameter block v c).port ≡ c.port)
kept_by_parameter None v c = (refl, refl)
kept_by_parameter (Some b) v c = (refl, refl)

parameter_keeps : (here : Reach) (s : ParameterSort) (n : Identifier) (v : ConstantValue) (c e : Checked) → parameter here s n v c ≡ Ok e
    → (e.ports ≡ c.ports) × (e.port ≡ c.port)
unfolding parameter
parameter_keeps here s n v c e h =
    let first = first_step (plain here n (declaration (kind.Parameter s) None v.signed n) c)
    (λ (d : Checked). Ok (with_parameter (innermost here.blocks) v d)) e h in
    let one = plain_so here n (declaration (kind.Parameter s) None v.signed n) c first.value first.first in
    let is = sym (ok_same (with_parameter (innermost here.blocks) v first.value) e first.second) in
    let kept = kept_by_parameter (innermost here.blocks) v first.value in (
      ap (λ (t : Checked). t.ports) is ∙ kept.0 ∙ ap (λ (t : Checked). t.ports) one.after,
      ap (λ (t : Checked). t.port) is ∙ kept.1 ∙ ap (λ (t : Checked). t.port) one.after,
    )

-- ---- steps

pub record HeaderGoes (here : Reach) (ns : List Identifier) (steps : List ModuleStep) (c e : Checked) (xs : List NamedSignal) : Type 0 where
  pub fresh : AreNew c.ports ns
  pub go : StepsGo here steps e xs

-- with names that were listed
with_ports : (ports : List Identifier) (here : Reach) (ns : List Identifier) (steps : List ModuleStep) (d e : Checked) (xs : List NamedSignal)
    → HeaderGoes here ns steps d e xs
    → d.ports ≡ ports → AreNew ports ns
with_ports ports here ns steps d e xs so is = subst (λ (ps : List Identifier). AreNew ps ns) is so.fresh

pub header_goes : (ms : List ModuleDeclaration) (here : Reach) (ns : List Identifier) (steps : List ModuleStep) (c e : Checked)
    (xs : List NamedSignal) → IsHeaded ns steps
    → are_ports_outside (length here.blocks) steps ≡ true → IsHeading c xs → check_steps ms here steps c ≡ Ok e → HeaderGoes here ns steps c e xs
header_goes ms here ns steps c e xs (body all) outside so h = record { fresh = tt; go = body_goes ms here steps c e xs all outside so.known h }
header_goes ms here ns steps c e xs (parameter_ahead {s = s} {n = n} {v = v} {ss = ss} more) outside so h =
    let first = first_check ms here (Parameter s n v) ss c e h in
    let kept = parameter_keeps here s n v c first.value first.first in
    let known = parameter_known here s n v c first.value xs so.known first.first in
    let rest = header_goes ms (in_reach (Parameter s n v) here) ns ss first.value e xs more outside
    (record { known = known; last = subst (λ (d : Declaration). Behind d (last_of xs)) (sym kept.1) so.last }) first.second in
    record {
      fresh = with_ports c.ports (in_reach (Parameter s n v) here) ns ss first.value e xs rest kept.0;
      go = go_on here (Parameter s n v) ss first.value e xs (quietly here (Parameter s n v) first.value xs refl known) rest.go;
    }
header_goes ms here ns steps c e xs (listed {n = n} {ns = ns'} {ss = ss} more) outside so h =
    let first = first_check ms here (Listed n) ss c e h in
    let is = list_port_so n c first.value first.first in
    let heading = subst (λ (t : Checked). IsHeading t xs) (sym is.after)
    (record { known = record { agrees = so.known.agrees; inputs = so.known.inputs }; last = so.last }) in
    let rest = header_goes ms here ns' ss first.value e xs more outside heading first.second in
    record {
      fresh = (is.fresh, with_ports (c.ports ++ n ∷ []) here ns' ss first.value e xs rest (ap (λ (t : Checked). t.ports) is.after));
      go = go_on here (Listed n) ss first.value e xs (quietly here (Listed n) first.value xs refl heading.known) rest.go;
    }
header_goes ms here ns steps c e xs (declared {p = p} {ns = ns'} {ss = ss} more) outside so h =
    let first = first_check ms here (Port p) ss c e h in
    let tests = and_parts (length here.blocks == 0) (are_ports_outside (length here.blocks) ss) outside in
    let goes = port_goes here p c first.value xs (outermost here.blocks tests.0) so first.first in
    let rest = header_goes ms here ns' ss first.value e goes.signals more tests.1 goes.taken.heading first.second in
    record {
      fresh = (goes.taken.fresh, with_ports (c.ports ++ port_name p ∷ []) here ns' ss first.value e goes.signals rest goes.taken.ports);
      go = go_on here (Port p) ss first.value e xs (record { signals = goes.signals; told = goes.told; known = goes.taken.heading.known }) rest.go;
    }
