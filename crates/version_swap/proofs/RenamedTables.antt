-- The numbers of signals, and what a unit has of its signals, under other names (IEEE 1364-2005, 12.3).
use Rattle.std.proofs.Common.{◌≡◌, ℕ, zero, suc, ◌&&◌, not, Bool, if◌then◌else◌, List, [], ◌∷◌, ◌++◌, map, filter, length, Option, Some, None, is_some, Ok, slice_get, refl, sym, ◌∙◌, ap, ap₂}
use Rattle.std.proofs.Math.Path.{fun_ext}
use Rattle.std.proofs.lemmas.List.{map-append, length-map}
use Rattle.std.proofs.lemmas.Option.{slice_get-map}
use Rattle.std.specs.Option.{option_map, option_to_list}
use Rattle.ls_text.specs.declared.name_id.NameId.{NameId}
use Rattle.typed_ir.specs.Cycles.{Signal}
use Rattle.typed_ir.specs.declared.signal_declaration.SignalDeclaration.{SignalDeclaration}
use Rattle.typed_ir.specs.Shapes.{is_clock}
use Rattle.verilog_ast.specs.declared.identifier.Identifier.{Identifier}
use Rattle.verilog_ast.specs.Declarations.{PortList, NoPorts, NamedPorts, DeclaredPorts}
use Rattle.verilog_ast.specs.Items.{ModuleDeclaration}
use Rattle.verilog_ast.specs.Renamed.{renamed_identifier}
use Rattle.verilog_ast.specs.Renaming.{port_as, ports_as, declaration_as}
use Rattle.gen_unroll.specs.Declarations.{port_name}
use Rattle.gen_unroll.specs.Reaches.{reach_in}
use Rattle.gen_unroll.specs.Steps.{ModuleStep}
use Rattle.gen_unroll.specs.Signals.{NamedSignal, is_outermost, is_port, is_port_named}
use Rattle.gen_unroll.specs.Numbers.{SignalTable, header_names, first_where, place_where, is_own_named, number_of_name, with_header_port, ports_onto, is_no_port, numbered, has_order, numbers_from, table_of, module_table}
use Rattle.gen_unroll.specs.UnitLists.{signal_called, called_by, names_behind, unit_signals, declaration_of_signal, declarations_of, is_input, data_inputs_from, data_inputs, is_register_at, registers}
use Rattle.elaborate.specs.Renaming.{KeepsApart, number_as, found_as, step_as}
use Rattle.elaborate.proofs.RenamedAnswers.{found_so}
use Rattle.elaborate.proofs.RenamedNames.{same_test, names_so, port_name_so, same_beginning}
use Rattle.gen_unroll.proofs.MovedLists.{if_moved}
use Rattle.version_swap.specs.RenamedFindings.{signal_as, table_as, unit_signal_as}
use Rattle.version_swap.proofs.RenamedSignals.{same_declared}

-- ---- signals that meet a test, which comes out alike under other names

abbrev TestsSame : (NameId → NameId) → (test tests : NamedSignal → Bool) → Type 0
TestsSame f test tests = (x : NamedSignal) → tests (signal_as f x) ≡ test x

port_named_so : (f : NameId → NameId) (n : NameId) → KeepsApart f → TestsSame f (is_port_named n.0) (is_port_named (f n).0)
port_named_so f n apart x = ap (λ (b : Bool). is_port x && b) (same_test f x.name.name n apart)

own_named_so : (f : NameId → NameId) (n : NameId) → KeepsApart f → TestsSame f (is_own_named n.0) (is_own_named (f n).0)
own_named_so f n apart x = ap (λ (b : Bool). is_outermost x.block && b) (same_test f x.name.name n apart)

first_so : (f : NameId → NameId) (test tests : NamedSignal → Bool) → TestsSame f test tests → (xs : List NamedSignal)
    → first_where tests (map (signal_as f) xs) ≡ option_map (signal_as f) (first_where test xs)
first_so f test tests is [] = refl
first_so f test tests is (x ∷ xs) =
    ap (λ (b : Bool). if b then Some (signal_as f x) else first_where tests (map (signal_as f) xs)) (is x)
    ∙ if_moved (option_map (signal_as f)) (test x) (Some x) (first_where test xs) _ _ refl (first_so f test tests is xs)

place_so : (f : NameId → NameId) (test tests : NamedSignal → Bool) → TestsSame f test tests → (xs : List NamedSignal)
    → place_where tests (map (signal_as f) xs) ≡ place_where test xs
place_so f test tests is [] = refl
place_so f test tests is (x ∷ xs) =
    ap₂ (λ (b : Bool) (r : Option ℕ). if b then Some 0 else option_map suc r) (is x) (place_so f test tests is xs)

-- those that are no ports
others_so : (f : NameId → NameId) (xs : List NamedSignal) → filter is_no_port (map (signal_as f) xs) ≡ map (signal_as f) (filter is_no_port xs)
others_so f [] = refl
others_so f (x ∷ xs) =
    if_moved (map (signal_as f)) (is_no_port x) (x ∷ filter is_no_port xs) (filter is_no_port xs) _ _
    (ap (λ (ys : List NamedSignal). signal_as f x ∷ ys) (others_so f xs)) (others_so f xs)

any_so : (f : NameId → NameId) (x : Option NamedSignal) → option_to_list (option_map (signal_as f) x) ≡ map (signal_as f) (option_to_list x)
any_so f None = refl
any_so f (Some x) = refl

-- ---- numbers

header_names_so : (f : NameId → NameId) (ps : PortList) → header_names (ports_as f ps) ≡ map (renamed_identifier f) (header_names ps)
header_names_so f NoPorts = refl
header_names_so f (NamedPorts names) = refl
header_names_so f (DeclaredPorts ports) = names_so f port_name (port_as f) (port_name_so f) ports

port_so : (f : NameId → NameId) (xs : List NamedSignal) (n : Identifier) (out : List NamedSignal) → KeepsApart f
    → with_header_port (map (signal_as f) xs) (renamed_identifier f n) (map (signal_as f) out) ≡ map (signal_as f) (with_header_port xs n out)
port_so f xs n out apart =
    ap (λ (k : Option ℕ). if is_some k then map (signal_as f) out
    else map (signal_as f) out ++ option_to_list (first_where (is_port_named (f n.name).0) (map (signal_as f) xs)))
    (place_so f (is_own_named n.name.0) (is_own_named (f n.name).0) (own_named_so f n.name apart) out)
    ∙ if_moved (map (signal_as f)) (is_some (number_of_name n.name.0 out)) out (out ++ option_to_list (first_where (is_port_named n.name.0) xs)) _ _ refl
    (ap (λ (x : Option NamedSignal). map (signal_as f) out ++ option_to_list x)
    (first_so f (is_port_named n.name.0) (is_port_named (f n.name).0) (port_named_so f n.name apart) xs)
    ∙ ap (λ (ys : List NamedSignal). map (signal_as f) out ++ ys) (any_so f (first_where (is_port_named n.name.0) xs))
    ∙ sym (map-append (signal_as f) out (option_to_list (first_where (is_port_named n.name.0) xs))))

ports_so : (f : NameId → NameId) (ns : List Identifier) (xs out : List NamedSignal) → KeepsApart f
    → ports_onto (map (renamed_identifier f) ns) (map (signal_as f) xs) (map (signal_as f) out) ≡ map (signal_as f) (ports_onto ns xs out)
ports_so f [] xs out apart = refl
ports_so f (n ∷ ns) xs out apart =
    ap (ports_onto (map (renamed_identifier f) ns) (map (signal_as f) xs)) (port_so f xs n out apart)
    ∙ ports_so f ns xs (with_header_port xs n out) apart

numbered_so : (f : NameId → NameId) (ns : List Identifier) (xs : List NamedSignal) → KeepsApart f
    → numbered (map (renamed_identifier f) ns) (map (signal_as f) xs) ≡ map (signal_as f) (numbered ns xs)
numbered_so f ns xs apart =
    ap₂ (λ (ys zs : List NamedSignal). ys ++ zs) (ports_so f ns xs [] apart) (others_so f xs)
    ∙ sym (map-append (signal_as f) (ports_onto ns xs []) (filter is_no_port xs))

numbers_so : (f : NameId → NameId) (k left : ℕ) (xs : List NamedSignal) → numbers_from k left (map (signal_as f) xs) ≡ numbers_from k left xs
numbers_so f k zero xs = refl
numbers_so f k (suc left) xs =
    ap₂ (λ (p : Option ℕ) (ns : List ℕ). option_to_list p ++ ns) (place_so f (has_order k) (has_order k) (λ x. refl) xs) (numbers_so f (suc k) left xs)

table_so : (f : NameId → NameId) (ns : List Identifier) (xs : List NamedSignal) → KeepsApart f
    → table_of (map (renamed_identifier f) ns) (map (signal_as f) xs) ≡ table_as f (table_of ns xs)
table_so f ns xs apart =
    ap₂ (λ (ys : List NamedSignal) (k : ℕ). record { signals = ys; declared = numbers_from 0 k ys }) (numbered_so f ns xs apart)
    (length-map xs (signal_as f))
    ∙ ap (λ (ks : List ℕ). record { signals = map (signal_as f) (numbered ns xs); declared = ks }) (numbers_so f 0 (length xs) (numbered ns xs))

pub same_table : (f : NameId → NameId) (m : ModuleDeclaration) (steps : List ModuleStep) → KeepsApart f
    → module_table (declaration_as f m) (map (step_as f) steps) ≡ found_as f (table_as f) (module_table m steps)
unfolding module_table
same_table f m steps apart =
    found_so f (map (signal_as f)) (table_as f) _ _ _ _
    (same_declared f (reach_in m) (reach_in (declaration_as f m)) steps [] apart (same_beginning f m apart))
    (λ xs. ap Ok (ap (λ (ns : List Identifier). table_of ns (map (signal_as f) xs)) (header_names_so f m.ports)
    ∙ table_so f (header_names m.ports) xs apart))

-- ---- what a unit has of them

called_so : (f : NameId → NameId) (names : List NameId) (x : NamedSignal) → called_by (map f names) (signal_as f x) ≡ number_as f (called_by names x)
called_so f [] x = refl
called_so f (n ∷ ns) x = if_moved (number_as f) (is_outermost x.block) x.name.name.0 n.0 _ _ refl refl

behind_so : (f : NameId → NameId) (names : List NameId) (x : NamedSignal) → names_behind (map f names) (signal_as f x) ≡ map f (names_behind names x)
behind_so f [] x = refl
behind_so f (n ∷ ns) x = if_moved (map f) (is_outermost x.block) (n ∷ ns) ns _ _ refl refl

pub same_signals : (f : NameId → NameId) (m : ℕ) (names : List NameId) (xs : List NamedSignal)
    → unit_signals (number_as f m) (map f names) (map (signal_as f) xs) ≡ map (unit_signal_as f) (unit_signals m names xs)
same_signals f m names [] = refl
same_signals f m names (x ∷ xs) =
    ap₂ (λ (n : ℕ) (ns : List NameId). signal_called (number_as f m) n (signal_as f x) ∷ unit_signals (number_as f m) ns (map (signal_as f) xs))
    (called_so f names x) (behind_so f names x)
    ∙ ap (λ (ys : List Signal). unit_signal_as f (signal_called m (called_by names x) x) ∷ ys) (same_signals f m (names_behind names x) xs)

pub same_declarations : (f : NameId → NameId) (xs : List NamedSignal) → declarations_of (map (signal_as f) xs) ≡ declarations_of xs
same_declarations f [] = refl
same_declarations f (x ∷ xs) = ap (λ (ds : List SignalDeclaration). declaration_of_signal x ∷ ds) (same_declarations f xs)

pub same_clock : (f : NameId → NameId) (clock : Option NameId) (n : NameId) → KeepsApart f → is_clock (option_map f clock) (f n) ≡ is_clock clock n
same_clock f None n apart = refl
same_clock f (Some c) n apart = same_test f c n apart

inputs_so : (f : NameId → NameId) (k : ℕ) (clock : Option NameId) (xs : List NamedSignal) → KeepsApart f
    → data_inputs_from k (option_map f clock) (map (signal_as f) xs) ≡ data_inputs_from k clock xs
inputs_so f k clock [] apart = refl
inputs_so f k clock (x ∷ xs) apart =
    ap₂ (λ (b : Bool) (ks : List ℕ). if is_input x.kind && not b then k ∷ ks else ks) (same_clock f clock x.name.name apart)
    (inputs_so f (suc k) clock xs apart)

pub same_inputs : (f : NameId → NameId) (clock : Option NameId) (xs : List NamedSignal) → KeepsApart f
    → data_inputs (option_map f clock) (map (signal_as f) xs) ≡ data_inputs clock xs
same_inputs f clock xs apart = inputs_so f 0 clock xs apart

register_so : (f : NameId → NameId) (settled : Bool) (x : Option NamedSignal)
    → is_register_at settled (option_map (signal_as f) x) ≡ is_register_at settled x
register_so f settled None = refl
register_so f settled (Some x) = refl

pub same_registers : (f : NameId → NameId) (settled : ℕ → Bool) (t : SignalTable) → registers settled (table_as f t) ≡ registers settled t
same_registers f settled t =
    ap (λ (test : ℕ → Bool). filter test t.declared)
    (fun_ext (λ k. ap (is_register_at (settled k)) (slice_get-map (signal_as f) t.signals k) ∙ register_so f (settled k) (slice_get t.signals k)))
