-- The signals that a module declares, under other names (IEEE 1364-2005, 4.2, 4.3 and 12.3).
use Rattle.std.proofs.Common.{◌≡◌, ℕ, ◌-◌, Bool, false, ◌&&◌, if◌then◌else◌, List, [], ◌∷◌, ◌++◌, map, length, Option, Some, None, Ok, slice_get, refl, sym, ◌∙◌, ap}
use Rattle.std.proofs.lemmas.List.{map-append, length-map}
use Rattle.std.proofs.lemmas.Option.{slice_get-map}
use Rattle.std.specs.Option.{option_map}
use Rattle.ls_text.specs.declared.name_id.NameId.{NameId}
use Rattle.verilog_ast.specs.declared.identifier.Identifier.{Identifier}
use Rattle.verilog_ast.specs.declared.port_net.PortNet.{PortNet}
use Rattle.verilog_ast.specs.declared.port_net.PortNet.TheVariants as net
use Rattle.verilog_ast.specs.Declarations.{Kind, PortDeclaration, InputPort, OutputPort, NextPort, header_net}
use Rattle.verilog_ast.specs.Items as i
use Rattle.verilog_ast.specs.Items.{ModuleItem}
use Rattle.verilog_ast.specs.Renamed.{renamed_identifier}
use Rattle.verilog_ast.specs.Renaming.{kind_as, declared_as, declared_reg_as, port_as, item_as}
use Rattle.typed_ir.specs.declared.signal_kind.SignalKind.{SignalKind}
use Rattle.typed_ir.specs.declared.signal_kind.SignalKind.TheVariants as kind
use Rattle.width_rules.specs.Renaming.{MeansSame}
use Rattle.width_rules.specs.Scopes.{Scope}
use Rattle.gen_unroll.specs.Declarations.{BitRange, declared_name, declared_reg_name}
use Rattle.gen_unroll.specs.Reaches.{Reach, innermost, in_reach}
use Rattle.gen_unroll.specs.Steps.{ModuleStep, Port, Item}
use Rattle.gen_unroll.specs.Signals.{NamedSignal, is_outermost, is_port, kind_of_net, with_port, with_ports, with_next, last_of, completes, completed, put, with_net, with_nets, range_in, complete_port, header_port, item_signals, step_signals, declared_in}
use Rattle.gen_unroll.proofs.Signals.{port_signal, net_signal}
use Rattle.elaborate.specs.Renaming.{KeepsApart, SameReach, found_as, answer_as, step_as}
use Rattle.elaborate.proofs.RenamedAnswers.{found_so, value_so}
use Rattle.elaborate.proofs.RenamedNames.{same_test, names_so, same_reach}
use Rattle.elaborate.proofs.RenamedDeclarations.{range_so}
use Rattle.version_swap.specs.RenamedFindings.{signal_as}
use Rattle.gen_unroll.proofs.MovedLists.{if_moved}

-- ---- ports

with_port_so : (f : NameId → NameId) (here : Option ℕ) (k : SignalKind) (by : PortNet) (range : Option BitRange) (signed : Bool) (n : Identifier)
    (xs : List NamedSignal)
    → with_port here k by range signed (renamed_identifier f n) (map (signal_as f) xs) ≡ map (signal_as f) (with_port here k by range signed n xs)
with_port_so f here k by range signed n xs =
    ap (λ (order : ℕ). map (signal_as f) xs ++ port_signal here k by range signed (renamed_identifier f n) order ∷ []) (length-map xs (signal_as f))
    ∙ sym (map-append (signal_as f) xs (port_signal here k by range signed n (length xs) ∷ []))

with_ports_so : (f : NameId → NameId) (here : Option ℕ) (k : SignalKind) (by : PortNet) (range : Option BitRange) (signed : Bool)
    (ns : List Identifier) (xs : List NamedSignal)
    → with_ports here k by range signed (map (renamed_identifier f) ns) (map (signal_as f) xs)
    ≡ map (signal_as f) (with_ports here k by range signed ns xs)
with_ports_so f here k by range signed [] xs = refl
with_ports_so f here k by range signed (n ∷ ns) xs =
    ap (with_ports here k by range signed (map (renamed_identifier f) ns)) (with_port_so f here k by range signed n xs)
    ∙ with_ports_so f here k by range signed ns (with_port here k by range signed n xs)

next_so : (f : NameId → NameId) (before : Option NamedSignal) (here : Option ℕ) (n : Identifier) (xs : List NamedSignal)
    → with_next (option_map (signal_as f) before) here (renamed_identifier f n) (map (signal_as f) xs)
    ≡ map (signal_as f) (with_next before here n xs)
next_so f None here n xs = with_port_so f here kind.Input net.Wire None false n xs
next_so f (Some p) here n xs = with_port_so f here p.kind p.net p.range p.signed n xs

last_so : (f : NameId → NameId) (xs : List NamedSignal) → last_of (map (signal_as f) xs) ≡ option_map (signal_as f) (last_of xs)
last_so f xs =
    ap (λ (k : ℕ). slice_get (map (signal_as f) xs) (k - 1)) (length-map xs (signal_as f)) ∙ slice_get-map (signal_as f) xs (length xs - 1)

-- ---- nets and variables, which complete the port of their name

completes_so : (f : NameId → NameId) (here : Option ℕ) (name : NameId) (x : NamedSignal) → KeepsApart f
    → completes here (f name).0 (signal_as f x) ≡ completes here name.0 x
completes_so f here name x apart = ap (λ (b : Bool). is_outermost here && (is_port x && b)) (same_test f x.name.name name apart)

put_so : (f : NameId → NameId) (d : NamedSignal) (xs : List NamedSignal) → KeepsApart f
    → put (signal_as f d) (map (signal_as f) xs) ≡ map (signal_as f) (put d xs)
put_so f d [] apart = refl
put_so f d (x ∷ xs) apart =
    ap (λ (b : Bool). if b then completed d.net (signal_as f x) ∷ map (signal_as f) xs
    else signal_as f x ∷ put (signal_as f d) (map (signal_as f) xs))
    (completes_so f d.block d.name.name x apart)
    ∙ if_moved (map (signal_as f)) (completes d.block d.name.name.0 x) (completed d.net x ∷ xs) (x ∷ put d xs) _ _ refl
    (ap (λ (ys : List NamedSignal). signal_as f x ∷ ys) (put_so f d xs apart))

with_net_so : (f : NameId → NameId) (here : Option ℕ) (by : PortNet) (range : Option BitRange) (signed : Bool) (n : Identifier)
    (xs : List NamedSignal) → KeepsApart f
    → with_net here by range signed (renamed_identifier f n) (map (signal_as f) xs) ≡ map (signal_as f) (with_net here by range signed n xs)
with_net_so f here by range signed n xs apart =
    ap (λ (order : ℕ). put (net_signal here by range signed (renamed_identifier f n) order) (map (signal_as f) xs)) (length-map xs (signal_as f))
    ∙ put_so f (net_signal here by range signed n (length xs)) xs apart

with_nets_so : (f : NameId → NameId) (here : Option ℕ) (by : PortNet) (range : Option BitRange) (signed : Bool) (ns : List Identifier)
    (xs : List NamedSignal) → KeepsApart f
    → with_nets here by range signed (map (renamed_identifier f) ns) (map (signal_as f) xs)
    ≡ map (signal_as f) (with_nets here by range signed ns xs)
with_nets_so f here by range signed [] xs apart = refl
with_nets_so f here by range signed (n ∷ ns) xs apart =
    ap (with_nets here by range signed (map (renamed_identifier f) ns)) (with_net_so f here by range signed n xs apart)
    ∙ with_nets_so f here by range signed ns (with_net here by range signed n xs) apart

-- ---- steps

-- in the same blocks, with these names in reach
abbrev among : Scope → List Scope → List ℕ → Reach
among scope around blocks = record { scope = scope; around = around; blocks = blocks }

range_in_so : (f : NameId → NameId) (here there : Reach) (k : Kind) → MeansSame f here.scope there.scope
    → range_in there (kind_as f k) ≡ answer_as f (range_in here k)
range_in_so f here there k same = range_so f here.scope there.scope k.range same

complete_so : (f : NameId → NameId) (here : Reach) (scope : Scope) (around : List Scope) (direction : SignalKind) (by : PortNet) (k : Kind)
    (n : Identifier) (xs : List NamedSignal) → MeansSame f here.scope scope
    → complete_port (among scope around here.blocks) direction by (kind_as f k) (renamed_identifier f n) (map (signal_as f) xs)
    ≡ found_as f (map (signal_as f)) (complete_port here direction by k n xs)
complete_so f here scope around direction by k n xs same =
    value_so f (map (signal_as f)) _ _ _ _ (range_in_so f here (among scope around here.blocks) k same)
    (λ r. ap Ok (with_port_so f (innermost here.blocks) direction (header_net by) r k.signed n xs))

header_port_so : (f : NameId → NameId) (here : Reach) (scope : Scope) (around : List Scope) (p : PortDeclaration) (xs : List NamedSignal)
    → MeansSame f here.scope scope
    → header_port (among scope around here.blocks) (port_as f p) (map (signal_as f) xs) ≡ found_as f (map (signal_as f)) (header_port here p xs)
header_port_so f here scope around (InputPort at by k n) xs same = complete_so f here scope around kind.Input by k n xs same
header_port_so f here scope around (OutputPort at by k x) xs same = complete_so f here scope around (kind_of_net by) by k x.name xs same
header_port_so f here scope around (NextPort x) xs same =
    ap Ok
    (ap (λ (p : Option NamedSignal). with_next p (innermost here.blocks) (renamed_identifier f x.name) (map (signal_as f) xs)) (last_so f xs)
    ∙ next_so f (last_of xs) (innermost here.blocks) x.name xs)

ports_so : {A : Type 0} (f : NameId → NameId) (name : A → Identifier) (moved : A → A) → ((x : A) → name (moved x) ≡ renamed_identifier f (name x))
    → (here : Option ℕ) (k : SignalKind) (by : PortNet) (range : Option BitRange) (signed : Bool) (ps : List A) (xs : List NamedSignal)
    → with_ports here k by range signed (map name (map moved ps)) (map (signal_as f) xs)
    ≡ map (signal_as f) (with_ports here k by range signed (map name ps) xs)
ports_so f name moved is here k by range signed ps xs =
    ap (λ (ns : List Identifier). with_ports here k by range signed ns (map (signal_as f) xs)) (names_so f name moved is ps)
    ∙ with_ports_so f here k by range signed (map name ps) xs

nets_so : {A : Type 0} (f : NameId → NameId) (name : A → Identifier) (moved : A → A) → ((x : A) → name (moved x) ≡ renamed_identifier f (name x))
    → (here : Option ℕ) (by : PortNet) (range : Option BitRange) (signed : Bool) (ps : List A) (xs : List NamedSignal) → KeepsApart f
    → with_nets here by range signed (map name (map moved ps)) (map (signal_as f) xs)
    ≡ map (signal_as f) (with_nets here by range signed (map name ps) xs)
nets_so f name moved is here by range signed ps xs apart =
    ap (λ (ns : List Identifier). with_nets here by range signed ns (map (signal_as f) xs)) (names_so f name moved is ps)
    ∙ with_nets_so f here by range signed (map name ps) xs apart

item_so : (f : NameId → NameId) (here : Reach) (scope : Scope) (around : List Scope) (x : ModuleItem) (xs : List NamedSignal) → KeepsApart f
    → MeansSame f here.scope scope
    → item_signals (among scope around here.blocks) (item_as f x) (map (signal_as f) xs) ≡ found_as f (map (signal_as f)) (item_signals here x xs)
item_so f here scope around (i.Inputs at by k ns) xs apart same =
    value_so f (map (signal_as f)) _ _ _ _ (range_in_so f here (among scope around here.blocks) k same)
    (λ r. ap Ok (with_ports_so f (innermost here.blocks) kind.Input by r k.signed ns xs))
item_so f here scope around (i.Outputs at by k ports) xs apart same =
    value_so f (map (signal_as f)) _ _ _ _ (range_in_so f here (among scope around here.blocks) k same)
    (λ r. ap Ok (ports_so f declared_name (declared_as f) (λ x. refl) (innermost here.blocks) (kind_of_net by) by r k.signed ports xs))
item_so f here scope around (i.Wires at k nets) xs apart same =
    value_so f (map (signal_as f)) _ _ _ _ (range_in_so f here (among scope around here.blocks) k same)
    (λ r. ap Ok (nets_so f declared_name (declared_as f) (λ x. refl) (innermost here.blocks) net.Wire r k.signed nets xs apart))
item_so f here scope around (i.Regs at k all) xs apart same =
    value_so f (map (signal_as f)) _ _ _ _ (range_in_so f here (among scope around here.blocks) k same)
    (λ r. ap Ok (nets_so f declared_reg_name (declared_reg_as f) (λ x. refl) (innermost here.blocks) net.Reg r k.signed all xs apart))
item_so f here scope around other xs apart same = refl

among_so : (f : NameId → NameId) (here : Reach) (scope : Scope) (around : List Scope) (s : ModuleStep) (xs : List NamedSignal) → KeepsApart f
    → MeansSame f here.scope scope
    → step_signals (among scope around here.blocks) (step_as f s) (map (signal_as f) xs) ≡ found_as f (map (signal_as f)) (step_signals here s xs)
among_so f here scope around (Port p) xs apart same = header_port_so f here scope around p xs same
among_so f here scope around (Item x) xs apart same = item_so f here scope around x xs apart same
among_so f here scope around other xs apart same = refl

step_so : (f : NameId → NameId) (here there : Reach) (s : ModuleStep) (xs : List NamedSignal) → KeepsApart f → SameReach f here there
    → step_signals there (step_as f s) (map (signal_as f) xs) ≡ found_as f (map (signal_as f)) (step_signals here s xs)
step_so f here there s xs apart same =
    ap (λ (blocks : List ℕ). step_signals (among there.scope there.around blocks) (step_as f s) (map (signal_as f) xs)) same.blocks
    ∙ among_so f here there.scope there.around s xs apart same.names

pub same_declared : (f : NameId → NameId) (here there : Reach) (steps : List ModuleStep) (xs : List NamedSignal) → KeepsApart f
    → SameReach f here there
    → declared_in there (map (step_as f) steps) (map (signal_as f) xs) ≡ found_as f (map (signal_as f)) (declared_in here steps xs)
same_declared f here there [] xs apart same = refl
same_declared f here there (s ∷ ss) xs apart same =
    found_so f (map (signal_as f)) (map (signal_as f)) _ _ _ _ (step_so f here there s xs apart same)
    (λ ys. same_declared f (in_reach s here) (in_reach (step_as f s) there) ss ys apart (same_reach f s here there apart same))
