-- The signals that a module declares, without places (IEEE 1364-2005, 4.2, 4.3 and 12.3).
use Rattle.std.proofs.Common.{◌≡◌, ℕ, ◌-◌, Bool, false, List, [], ◌∷◌, ◌++◌, map, length, Option, Some, None, Result, Ok, slice_get, refl, sym, ◌∙◌, ap}
use Rattle.std.proofs.lemmas.List.{map-append, length-map}
use Rattle.std.proofs.lemmas.Option.{slice_get-map}
use Rattle.std.specs.Option.{option_map}
use Rattle.ls_text.specs.declared.fault.Fault.{Fault}
use Rattle.ls_text.proofs.Lists.{map_so}
use Rattle.verilog_ast.specs.declared.identifier.Identifier.{Identifier}
use Rattle.verilog_ast.specs.declared.port_net.PortNet.{PortNet}
use Rattle.verilog_ast.specs.declared.port_net.PortNet.TheVariants as net
use Rattle.verilog_ast.specs.Declarations.{RangeBounds, Kind, PortDeclaration, InputPort, OutputPort, NextPort, header_net}
use Rattle.verilog_ast.specs.Items as i
use Rattle.verilog_ast.specs.Items.{ModuleItem}
use Rattle.typed_ir.specs.declared.signal_kind.SignalKind.{SignalKind}
use Rattle.typed_ir.specs.declared.signal_kind.SignalKind.TheVariants as kind
use Rattle.width_rules.specs.Scopes.{Scope}
use Rattle.gen_unroll.specs.Declarations.{BitRange, declared_name, declared_reg_name, range_or_none}
use Rattle.gen_unroll.specs.Reaches.{Reach, innermost, in_reach}
use Rattle.gen_unroll.specs.Steps.{ModuleStep, Port, Item}
use Rattle.gen_unroll.specs.Signals.{NamedSignal, kind_of_net, with_port, with_ports, with_next, last_of, completes, completed, put, with_net, with_nets, range_in, complete_port, header_port, item_signals, step_signals, declared_in}
use Rattle.gen_unroll.proofs.Signals.{port_signal, net_signal}
use Rattle.version_swap.specs.Unplaced.{unplaced_name, unplaced_range, unplaced_kind, unplaced_declared, unplaced_declared_reg, unplaced_port, unplaced_item}
use Rattle.version_swap.specs.UnplacedFindings.{found_unplaced, answer_unplaced, step_unplaced, signal_unplaced}
use Rattle.version_swap.proofs.UnplacedAnswers.{found_so, value_so, bind_so}
use Rattle.gen_unroll.proofs.MovedLists.{if_moved}
use Rattle.version_swap.proofs.UnplacedNames.{same_reach}
use Rattle.version_swap.proofs.UnplacedValues.{same_range_value}

-- ---- ports

with_port_so : (here : Option ℕ) (k : SignalKind) (by : PortNet) (range : Option BitRange) (signed : Bool) (n : Identifier) (xs : List NamedSignal)
    → with_port here k by range signed (unplaced_name n) (map signal_unplaced xs) ≡ map signal_unplaced (with_port here k by range signed n xs)
with_port_so here k by range signed n xs =
    ap (λ (order : ℕ). map signal_unplaced xs ++ port_signal here k by range signed (unplaced_name n) order ∷ []) (length-map xs signal_unplaced)
    ∙ sym (map-append signal_unplaced xs (port_signal here k by range signed n (length xs) ∷ []))

with_ports_so : (here : Option ℕ) (k : SignalKind) (by : PortNet) (range : Option BitRange) (signed : Bool) (ns : List Identifier)
    (xs : List NamedSignal)
    → with_ports here k by range signed (map unplaced_name ns) (map signal_unplaced xs)
    ≡ map signal_unplaced (with_ports here k by range signed ns xs)
with_ports_so here k by range signed [] xs = refl
with_ports_so here k by range signed (n ∷ ns) xs =
    ap (with_ports here k by range signed (map unplaced_name ns)) (with_port_so here k by range signed n xs)
    ∙ with_ports_so here k by range signed ns (with_port here k by range signed n xs)

next_so : (before : Option NamedSignal) (here : Option ℕ) (n : Identifier) (xs : List NamedSignal)
    → with_next (option_map signal_unplaced before) here (unplaced_name n) (map signal_unplaced xs) ≡ map signal_unplaced (with_next before here n xs)
next_so None here n xs = with_port_so here kind.Input net.Wire None false n xs
next_so (Some p) here n xs = with_port_so here p.kind p.net p.range p.signed n xs

last_so : (xs : List NamedSignal) → last_of (map signal_unplaced xs) ≡ option_map signal_unplaced (last_of xs)
last_so xs =
    ap (λ (k : ℕ). slice_get (map signal_unplaced xs) (k - 1)) (length-map xs signal_unplaced) ∙ slice_get-map signal_unplaced xs (length xs - 1)

-- ---- nets and variables

put_so : (d : NamedSignal) (xs : List NamedSignal) → put (signal_unplaced d) (map signal_unplaced xs) ≡ map signal_unplaced (put d xs)
put_so d [] = refl
put_so d (x ∷ xs) =
    if_moved (map signal_unplaced) (completes d.block d.name.name.0 x) (completed d.net x ∷ xs) (x ∷ put d xs) _ _ refl
    (ap (λ (ys : List NamedSignal). signal_unplaced x ∷ ys) (put_so d xs))

with_net_so : (here : Option ℕ) (by : PortNet) (range : Option BitRange) (signed : Bool) (n : Identifier) (xs : List NamedSignal)
    → with_net here by range signed (unplaced_name n) (map signal_unplaced xs) ≡ map signal_unplaced (with_net here by range signed n xs)
with_net_so here by range signed n xs =
    ap (λ (order : ℕ). put (net_signal here by range signed (unplaced_name n) order) (map signal_unplaced xs)) (length-map xs signal_unplaced)
    ∙ put_so (net_signal here by range signed n (length xs)) xs

with_nets_so : (here : Option ℕ) (by : PortNet) (range : Option BitRange) (signed : Bool) (ns : List Identifier) (xs : List NamedSignal)
    → with_nets here by range signed (map unplaced_name ns) (map signal_unplaced xs) ≡ map signal_unplaced (with_nets here by range signed ns xs)
with_nets_so here by range signed [] xs = refl
with_nets_so here by range signed (n ∷ ns) xs =
    ap (with_nets here by range signed (map unplaced_name ns)) (with_net_so here by range signed n xs)
    ∙ with_nets_so here by range signed ns (with_net here by range signed n xs)

-- ---- ranges

range_or_none_so : (scope : Scope) (r : Option RangeBounds)
    → range_or_none scope (option_map unplaced_range r) ≡ answer_unplaced (range_or_none scope r)
range_or_none_so scope None = refl
range_or_none_so scope (Some r) = bind_so _ _ _ _ (same_range_value scope r) (λ b. refl)

range_in_so : (here : Reach) (k : Kind) → range_in here (unplaced_kind k) ≡ answer_unplaced (range_in here k)
range_in_so here k = range_or_none_so here.scope k.range

-- ---- steps

-- signals behind these, or a fault
abbrev Signals : Type 0
Signals = Result (List NamedSignal) Fault

complete_so : (here : Reach) (direction : SignalKind) (by : PortNet) (k : Kind) (n : Identifier) (xs : List NamedSignal)
    → complete_port here direction by (unplaced_kind k) (unplaced_name n) (map signal_unplaced xs)
    ≡ found_unplaced (map signal_unplaced) (complete_port here direction by k n xs)
complete_so here direction by k n xs =
    value_so (map signal_unplaced) _ _ _ _ (range_in_so here k)
    (λ r. ap Ok (with_port_so (innermost here.blocks) direction (header_net by) r k.signed n xs))

header_port_so : (here : Reach) (p : PortDeclaration) (xs : List NamedSignal)
    → header_port here (unplaced_port p) (map signal_unplaced xs) ≡ found_unplaced (map signal_unplaced) (header_port here p xs)
header_port_so here (InputPort at by k n) xs = complete_so here kind.Input by k n xs
header_port_so here (OutputPort at by k x) xs = complete_so here (kind_of_net by) by k x.name xs
header_port_so here (NextPort x) xs =
    ap Ok (ap (λ (p : Option NamedSignal). with_next p (innermost here.blocks) (unplaced_name x.name) (map signal_unplaced xs)) (last_so xs)
    ∙ next_so (last_of xs) (innermost here.blocks) x.name xs)

ports_so : {A : Type 0} (name : A → Identifier) (moved : A → A) → ((x : A) → name (moved x) ≡ unplaced_name (name x))
    → (here : Option ℕ) (k : SignalKind) (by : PortNet) (range : Option BitRange) (signed : Bool) (ps : List A) (xs : List NamedSignal)
    → with_ports here k by range signed (map name (map moved ps)) (map signal_unplaced xs)
    ≡ map signal_unplaced (with_ports here k by range signed (map name ps) xs)
ports_so name moved is here k by range signed ps xs =
    ap (λ (ns : List Identifier). with_ports here k by range signed ns (map signal_unplaced xs)) (map_so name moved unplaced_name is ps)
    ∙ with_ports_so here k by range signed (map name ps) xs

nets_so : {A : Type 0} (name : A → Identifier) (moved : A → A) → ((x : A) → name (moved x) ≡ unplaced_name (name x))
    → (here : Option ℕ) (by : PortNet) (range : Option BitRange) (signed : Bool) (ps : List A) (xs : List NamedSignal)
    → with_nets here by range signed (map name (map moved ps)) (map signal_unplaced xs)
    ≡ map signal_unplaced (with_nets here by range signed (map name ps) xs)
nets_so name moved is here by range signed ps xs =
    ap (λ (ns : List Identifier). with_nets here by range signed ns (map signal_unplaced xs)) (map_so name moved unplaced_name is ps)
    ∙ with_nets_so here by range signed (map name ps) xs

item_so : (here : Reach) (x : ModuleItem) (xs : List NamedSignal)
    → item_signals here (unplaced_item x) (map signal_unplaced xs) ≡ found_unplaced (map signal_unplaced) (item_signals here x xs)
item_so here (i.Inputs at by k ns) xs =
    value_so (map signal_unplaced) _ _ _ _ (range_in_so here k) (λ r. ap Ok (with_ports_so (innermost here.blocks) kind.Input by r k.signed ns xs))
item_so here (i.Outputs at by k ports) xs =
    value_so (map signal_unplaced) _ _ _ _ (range_in_so here k)
    (λ r. ap Ok (ports_so declared_name unplaced_declared (λ x. refl) (innermost here.blocks) (kind_of_net by) by r k.signed ports xs))
item_so here (i.Wires at k nets) xs =
    value_so (map signal_unplaced) _ _ _ _ (range_in_so here k)
    (λ r. ap Ok (nets_so declared_name unplaced_declared (λ x. refl) (innermost here.blocks) net.Wire r k.signed nets xs))
item_so here (i.Regs at k all) xs =
    value_so (map signal_unplaced) _ _ _ _ (range_in_so here k)
    (λ r. ap Ok (nets_so declared_reg_name unplaced_declared_reg (λ x. refl) (innermost here.blocks) net.Reg r k.signed all xs))
item_so here other xs = refl

step_so : (here : Reach) (s : ModuleStep) (xs : List NamedSignal)
    → step_signals here (step_unplaced s) (map signal_unplaced xs) ≡ found_unplaced (map signal_unplaced) (step_signals here s xs)
step_so here (Port p) xs = header_port_so here p xs
step_so here (Item x) xs = item_so here x xs
step_so here other xs = refl

pub same_declared : (here : Reach) (steps : List ModuleStep) (xs : List NamedSignal)
    → declared_in here (map step_unplaced steps) (map signal_unplaced xs) ≡ found_unplaced (map signal_unplaced) (declared_in here steps xs)
same_declared here [] xs = refl
same_declared here (s ∷ ss) xs =
    found_so (map signal_unplaced) (map signal_unplaced) _ _ _ _ (step_so here s xs)
    (λ ys. ap (λ (r : Reach). declared_in r (map step_unplaced ss) (map signal_unplaced ys)) (same_reach s here)
    ∙ same_declared (in_reach s here) ss ys)
