-- Modules under names, their parameters and their ports, under other names.
use Rattle.std.proofs.Common.{◌≡◌, ℕ, ◌==◌, Bool, true, false, if◌then◌else◌, List, [], ◌∷◌, ◌++◌, map, Option, Some, refl, sym, ◌∙◌, ap, ap₂}
use Rattle.std.proofs.lemmas.List.{map-append}
use Rattle.std.specs.Option.{option_map}
use Rattle.ls_text.specs.declared.name_id.NameId.{NameId}
use Rattle.verilog_ast.specs.declared.identifier.Identifier.{Identifier}
use Rattle.verilog_ast.specs.Declarations.{PortDeclaration, InputPort, OutputPort, NextPort, PortList, NoPorts, NamedPorts, DeclaredPorts, assigned_name, header_parameter_name}
use Rattle.verilog_ast.specs.Items as i
use Rattle.verilog_ast.specs.Items.{ModuleItem, ModuleDeclaration}
use Rattle.verilog_ast.specs.Renamed.{renamed_identifier}
use Rattle.verilog_ast.specs.Renaming.{parameter_as, header_parameter_as, port_as, ports_as, item_as, declaration_as}
use Rattle.module_names.specs.Listings.{is_listed, names_behind}
use Rattle.module_names.specs.Modules.{module_named, item_parameters, parameters_of, port_name, header_ports, is_input, name_if, declared_inputs, header_inputs, item_inputs, inputs_of, is_input_of}
use Rattle.elaborate.specs.Renaming.{KeepsApart, number_as}
use Rattle.elaborate.proofs.RenamedNames.{names_so, same_number}

pub same_behind : (f : NameId → NameId) (ns : List Identifier) → names_behind (map (renamed_identifier f) ns) ≡ map (renamed_identifier f) (names_behind ns)
same_behind f [] = refl
same_behind f (n ∷ ns) = refl

-- ---- by name

pub same_listed : (f : NameId → NameId) (name : ℕ) (ns : List Identifier) → KeepsApart f → is_listed (number_as f name) (map (renamed_identifier f) ns) ≡ is_listed name ns
same_listed f name [] apart = refl
same_listed f name (n ∷ ns) apart =
    ap₂ (λ (b c : Bool). if b then true else c) (same_number f name n.name.0 apart) (same_listed f name ns apart)

found_moves : (f : NameId → NameId) (b : Bool) (m : ModuleDeclaration) (o : Option ModuleDeclaration)
    → (if b then Some (declaration_as f m) else option_map (declaration_as f) o) ≡ option_map (declaration_as f) (if b then Some m else o)
found_moves f true m o = refl
found_moves f false m o = refl

pub same_named : (f : NameId → NameId) (name : ℕ) (ms : List ModuleDeclaration) → KeepsApart f
    → module_named (number_as f name) (map (declaration_as f) ms) ≡ option_map (declaration_as f) (module_named name ms)
same_named f name [] apart = refl
same_named f name (m ∷ ms) apart =
    ap₂ (λ (b : Bool) (o : Option ModuleDeclaration). if b then Some (declaration_as f m) else o) (same_number f name m.name.name.0 apart) (same_named f name ms apart)
    ∙ found_moves f (name == m.name.name.0) m (module_named name ms)

-- ---- lists of names

append_so : (f : NameId → NameId) (xs ys ps qs : List Identifier) → ps ≡ map (renamed_identifier f) xs → qs ≡ map (renamed_identifier f) ys
    → (ps ++ qs) ≡ map (renamed_identifier f) (xs ++ ys)
append_so f xs ys ps qs first rest = ap₂ (λ (a b : List Identifier). a ++ b) first rest ∙ sym (map-append (renamed_identifier f) xs ys)

same_item_parameters : (f : NameId → NameId) (x : ModuleItem) → item_parameters (item_as f x) ≡ map (renamed_identifier f) (item_parameters x)
same_item_parameters f (i.Items x xs) = append_so f _ _ _ _ (same_item_parameters f x) (same_item_parameters f xs)
same_item_parameters f (i.Parameters at k ps) = names_so f assigned_name (parameter_as f) (λ p. refl) ps
same_item_parameters f (i.Inputs at net k ns) = refl
same_item_parameters f (i.Outputs at net k xs) = refl
same_item_parameters f (i.LocalParameters at k ps) = refl
same_item_parameters f (i.Wires at k xs) = refl
same_item_parameters f (i.Regs at k xs) = refl
same_item_parameters f (i.Genvars at ns) = refl
same_item_parameters f (i.Assigns at xs) = refl
same_item_parameters f (i.Combinational at x) = refl
same_item_parameters f (i.Clocked at n x) = refl
same_item_parameters f (i.Instances n overrides xs) = refl
same_item_parameters f (i.Region at xs) = refl
same_item_parameters f (i.Loop at h label xs) = refl
same_item_parameters f (i.Conditional xs) = refl
same_item_parameters f (i.Branch at c label xs) = refl
same_item_parameters f i.NoItem = refl

pub same_parameters : (f : NameId → NameId) (m : ModuleDeclaration) → parameters_of (declaration_as f m) ≡ map (renamed_identifier f) (parameters_of m)
same_parameters f m =
    append_so f _ _ _ _ (names_so f header_parameter_name (header_parameter_as f) (λ p. refl) m.parameters) (same_item_parameters f m.items)

-- ---- ports

pub same_port_name : (f : NameId → NameId) (p : PortDeclaration) → port_name (port_as f p) ≡ renamed_identifier f (port_name p)
same_port_name f (InputPort at net k n) = refl
same_port_name f (OutputPort at net k x) = refl
same_port_name f (NextPort x) = refl

pub same_ports : (f : NameId → NameId) (ps : PortList) → header_ports (ports_as f ps) ≡ map (renamed_identifier f) (header_ports ps)
same_ports f NoPorts = refl
same_ports f (NamedPorts ns) = refl
same_ports f (DeclaredPorts ps) = names_so f port_name (port_as f) (same_port_name f) ps

same_direction : (f : NameId → NameId) (before : Bool) (p : PortDeclaration) → is_input before (port_as f p) ≡ is_input before p
same_direction f before (InputPort at net k n) = refl
same_direction f before (OutputPort at net k x) = refl
same_direction f before (NextPort x) = refl

name_moves : (f : NameId → NameId) (b : Bool) (p : PortDeclaration) → name_if b (port_as f p) ≡ map (renamed_identifier f) (name_if b p)
name_moves f true p = ap (λ (n : Identifier). n ∷ []) (same_port_name f p)
name_moves f false p = refl

same_declared_inputs : (f : NameId → NameId) (before : Bool) (ps : List PortDeclaration)
    → declared_inputs before (map (port_as f) ps) ≡ map (renamed_identifier f) (declared_inputs before ps)
same_declared_inputs f before [] = refl
same_declared_inputs f before (p ∷ ps) =
    ap (λ (b : Bool). name_if b (port_as f p) ++ declared_inputs b (map (port_as f) ps)) (same_direction f before p)
    ∙ append_so f _ _ _ _ (name_moves f (is_input before p) p) (same_declared_inputs f (is_input before p) ps)

same_header_inputs : (f : NameId → NameId) (ps : PortList) → header_inputs (ports_as f ps) ≡ map (renamed_identifier f) (header_inputs ps)
same_header_inputs f NoPorts = refl
same_header_inputs f (NamedPorts ns) = refl
same_header_inputs f (DeclaredPorts ps) = same_declared_inputs f true ps

same_item_inputs : (f : NameId → NameId) (x : ModuleItem) → item_inputs (item_as f x) ≡ map (renamed_identifier f) (item_inputs x)
same_item_inputs f (i.Items x xs) = append_so f _ _ _ _ (same_item_inputs f x) (same_item_inputs f xs)
same_item_inputs f (i.Inputs at net k ns) = refl
same_item_inputs f (i.Parameters at k ps) = refl
same_item_inputs f (i.Outputs at net k xs) = refl
same_item_inputs f (i.LocalParameters at k ps) = refl
same_item_inputs f (i.Wires at k xs) = refl
same_item_inputs f (i.Regs at k xs) = refl
same_item_inputs f (i.Genvars at ns) = refl
same_item_inputs f (i.Assigns at xs) = refl
same_item_inputs f (i.Combinational at x) = refl
same_item_inputs f (i.Clocked at n x) = refl
same_item_inputs f (i.Instances n overrides xs) = refl
same_item_inputs f (i.Region at xs) = refl
same_item_inputs f (i.Loop at h label xs) = refl
same_item_inputs f (i.Conditional xs) = refl
same_item_inputs f (i.Branch at c label xs) = refl
same_item_inputs f i.NoItem = refl

pub same_input_of : (f : NameId → NameId) (m : ModuleDeclaration) (name : ℕ) → KeepsApart f → is_input_of (declaration_as f m) (number_as f name) ≡ is_input_of m name
same_input_of f m name apart =
    ap (is_listed (number_as f name)) (append_so f _ _ _ _ (same_header_inputs f m.ports) (same_item_inputs f m.items)) ∙ same_listed f name (inputs_of m) apart
