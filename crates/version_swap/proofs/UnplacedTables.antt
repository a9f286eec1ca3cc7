-- The numbers of signals, and what a unit has of its signals, without places (IEEE 1364-2005, 12.3).
use Rattle.std.proofs.Common.{◌≡◌, ℕ, zero, suc, Bool, if◌then◌else◌, List, [], ◌∷◌, ◌++◌, map, filter, length, Option, Some, None, is_some, Ok, slice_get, refl, sym, ◌∙◌, ap, ap₂}
use Rattle.std.proofs.Math.Path.{fun_ext}
use Rattle.std.proofs.lemmas.List.{map-append, length-map}
use Rattle.std.proofs.lemmas.Option.{slice_get-map}
use Rattle.std.specs.Option.{option_map, option_to_list}
use Rattle.ls_text.specs.declared.name_id.NameId.{NameId}
use Rattle.ls_text.proofs.Lists.{map_so}
use Rattle.typed_ir.specs.Cycles.{Signal}
use Rattle.typed_ir.specs.declared.signal_declaration.SignalDeclaration.{SignalDeclaration}
use Rattle.verilog_ast.specs.declared.identifier.Identifier.{Identifier}
use Rattle.verilog_ast.specs.Declarations.{PortList, NoPorts, NamedPorts, DeclaredPorts}
use Rattle.verilog_ast.specs.Items.{ModuleDeclaration}
use Rattle.gen_unroll.specs.Declarations.{port_name}
use Rattle.gen_unroll.specs.Reaches.{Reach, reach_in}
use Rattle.gen_unroll.specs.Steps.{ModuleStep}
use Rattle.gen_unroll.specs.Signals.{NamedSignal, is_port_named, declared_in}
use Rattle.gen_unroll.specs.Numbers.{SignalTable, header_names, first_where, place_where, is_own_named, number_of_name, with_header_port, ports_onto, is_no_port, numbered, has_order, numbers_from, table_of, module_table}
use Rattle.gen_unroll.specs.UnitLists.{signal_called, called_by, names_behind, unit_signals, declaration_of_signal, declarations_of, is_data_input, data_inputs_from, data_inputs, is_register_at, registers}
use Rattle.version_swap.specs.Unplaced.{unplaced_name, unplaced_port, unplaced_ports, unplaced_declaration}
use Rattle.version_swap.specs.UnplacedFindings.{found_unplaced, step_unplaced, signal_unplaced, table_unplaced}
use Rattle.version_swap.proofs.UnplacedAnswers.{found_so}
use Rattle.gen_unroll.proofs.MovedLists.{if_moved}
use Rattle.version_swap.proofs.UnplacedNames.{same_port_name, same_beginning}
use Rattle.version_swap.proofs.UnplacedSignals.{same_declared}

-- ---- signals that meet a test, which their places don't touch

abbrev IsBlind : (NamedSignal → Bool) → Type 0
IsBlind test = (x : NamedSignal) → test (signal_unplaced x) ≡ test x

first_so : (test : NamedSignal → Bool) → IsBlind test → (xs : List NamedSignal)
    → first_where test (map signal_unplaced xs) ≡ option_map signal_unplaced (first_where test xs)
first_so test is [] = refl
first_so test is (x ∷ xs) =
    ap (λ (b : Bool). if b then Some (signal_unplaced x) else first_where test (map signal_unplaced xs)) (is x)
    ∙ if_moved (option_map signal_unplaced) (test x) (Some x) (first_where test xs) _ _ refl (first_so test is xs)

place_so : (test : NamedSignal → Bool) → IsBlind test → (xs : List NamedSignal) → place_where test (map signal_unplaced xs) ≡ place_where test xs
place_so test is [] = refl
place_so test is (x ∷ xs) = ap₂ (λ (b : Bool) (r : Option ℕ). if b then Some 0 else option_map suc r) (is x) (place_so test is xs)

-- those that are no ports
others_so : (xs : List NamedSignal) → filter is_no_port (map signal_unplaced xs) ≡ map signal_unplaced (filter is_no_port xs)
others_so [] = refl
others_so (x ∷ xs) =
    if_moved (map signal_unplaced) (is_no_port x) (x ∷ filter is_no_port xs) (filter is_no_port xs) _ _
    (ap (λ (ys : List NamedSignal). signal_unplaced x ∷ ys) (others_so xs)) (others_so xs)

any_so : (x : Option NamedSignal) → option_to_list (option_map signal_unplaced x) ≡ map signal_unplaced (option_to_list x)
any_so None = refl
any_so (Some x) = refl

-- ---- numbers

header_names_so : (ps : PortList) → header_names (unplaced_ports ps) ≡ map unplaced_name (header_names ps)
header_names_so NoPorts = refl
header_names_so (NamedPorts names) = refl
header_names_so (DeclaredPorts ports) = map_so port_name unplaced_port unplaced_name same_port_name ports

port_so : (xs : List NamedSignal) (n : Identifier) (out : List NamedSignal)
    → with_header_port (map signal_unplaced xs) (unplaced_name n) (map signal_unplaced out) ≡ map signal_unplaced (with_header_port xs n out)
port_so xs n out =
    ap (λ (k : Option ℕ). if is_some k then map signal_unplaced out
    else map signal_unplaced out ++ option_to_list (first_where (is_port_named n.name.0) (map signal_unplaced xs)))
    (place_so (is_own_named n.name.0) (λ x. refl) out)
    ∙ if_moved (map signal_unplaced) (is_some (number_of_name n.name.0 out)) out (out ++ option_to_list (first_where (is_port_named n.name.0) xs)) _ _ refl
    (ap (λ (x : Option NamedSignal). map signal_unplaced out ++ option_to_list x) (first_so (is_port_named n.name.0) (λ x. refl) xs)
    ∙ ap (λ (ys : List NamedSignal). map signal_unplaced out ++ ys) (any_so (first_where (is_port_named n.name.0) xs))
    ∙ sym (map-append signal_unplaced out (option_to_list (first_where (is_port_named n.name.0) xs))))

ports_so : (ns : List Identifier) (xs out : List NamedSignal)
    → ports_onto (map unplaced_name ns) (map signal_unplaced xs) (map signal_unplaced out) ≡ map signal_unplaced (ports_onto ns xs out)
ports_so [] xs out = refl
ports_so (n ∷ ns) xs out =
    ap (ports_onto (map unplaced_name ns) (map signal_unplaced xs)) (port_so xs n out) ∙ ports_so ns xs (with_header_port xs n out)

numbered_so : (ns : List Identifier) (xs : List NamedSignal)
    → numbered (map unplaced_name ns) (map signal_unplaced xs) ≡ map signal_unplaced (numbered ns xs)
numbered_so ns xs =
    ap₂ (λ (ys zs : List NamedSignal). ys ++ zs) (ports_so ns xs []) (others_so xs)
    ∙ sym (map-append signal_unplaced (ports_onto ns xs []) (filter is_no_port xs))

numbers_so : (k left : ℕ) (xs : List NamedSignal) → numbers_from k left (map signal_unplaced xs) ≡ numbers_from k left xs
numbers_so k zero xs = refl
numbers_so k (suc left) xs =
    ap₂ (λ (p : Option ℕ) (ns : List ℕ). option_to_list p ++ ns) (place_so (has_order k) (λ x. refl) xs) (numbers_so (suc k) left xs)

table_so : (ns : List Identifier) (xs : List NamedSignal) → table_of (map unplaced_name ns) (map signal_unplaced xs) ≡ table_unplaced (table_of ns xs)
table_so ns xs =
    ap₂ (λ (ys : List NamedSignal) (k : ℕ). record { signals = ys; declared = numbers_from 0 k ys }) (numbered_so ns xs)
    (length-map xs signal_unplaced)
    ∙ ap (λ (ks : List ℕ). record { signals = map signal_unplaced (numbered ns xs); declared = ks }) (numbers_so 0 (length xs) (numbered ns xs))

pub same_table : (m : ModuleDeclaration) (steps : List ModuleStep)
    → module_table (unplaced_declaration m) (map step_unplaced steps) ≡ found_unplaced table_unplaced (module_table m steps)
unfolding module_table
same_table m steps =
    found_so (map signal_unplaced) table_unplaced _ _ _ _
    (ap (λ (r : Reach). declared_in r (map step_unplaced steps) []) (same_beginning m) ∙ same_declared (reach_in m) steps [])
    (λ xs. ap Ok (ap (λ (ns : List Identifier). table_of ns (map signal_unplaced xs)) (header_names_so m.ports) ∙ table_so (header_names m.ports) xs))

-- ---- what a unit has of them

pub same_signals : (m : ℕ) (names : List NameId) (xs : List NamedSignal) → unit_signals m names (map signal_unplaced xs) ≡ unit_signals m names xs
same_signals m [] [] = refl
same_signals m [] (x ∷ xs) = ap (λ (ys : List Signal). signal_called m (called_by [] x) x ∷ ys) (same_signals m [] xs)
same_signals m (n ∷ ns) [] = refl
same_signals m (n ∷ ns) (x ∷ xs) =
    ap (λ (ys : List Signal). signal_called m (called_by (n ∷ ns) x) x ∷ ys) (same_signals m (names_behind (n ∷ ns) x) xs)

pub same_declarations : (xs : List NamedSignal) → declarations_of (map signal_unplaced xs) ≡ declarations_of xs
same_declarations [] = refl
same_declarations (x ∷ xs) = ap (λ (ds : List SignalDeclaration). declaration_of_signal x ∷ ds) (same_declarations xs)

inputs_so : (k : ℕ) (clock : Option NameId) (xs : List NamedSignal) → data_inputs_from k clock (map signal_unplaced xs) ≡ data_inputs_from k clock xs
inputs_so k clock [] = refl
inputs_so k clock (x ∷ xs) = ap (λ (ks : List ℕ). if is_data_input clock x then k ∷ ks else ks) (inputs_so (suc k) clock xs)

pub same_inputs : (clock : Option NameId) (xs : List NamedSignal) → data_inputs clock (map signal_unplaced xs) ≡ data_inputs clock xs
same_inputs clock xs = inputs_so 0 clock xs

register_so : (settled : Bool) (x : Option NamedSignal) → is_register_at settled (option_map signal_unplaced x) ≡ is_register_at settled x
register_so settled None = refl
register_so settled (Some x) = refl

pub same_registers : (settled : ℕ → Bool) (t : SignalTable) → registers settled (table_unplaced t) ≡ registers settled t
same_registers settled t =
    ap (λ (test : ℕ → Bool). filter test t.declared)
    (fun_ext (λ k. ap (is_register_at (settled k)) (slice_get-map signal_unplaced t.signals k) ∙ register_so (settled k) (slice_get t.signals k)))
