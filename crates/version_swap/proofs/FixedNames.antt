-- A plain tree under other names is the tree itself, where its names stay what they are.
use Rattle.std.proofs.Common.{◌≡◌, List, [], ◌∷◌, ◌++◌, map, refl, ap, ap₂, ◌∙◌}
use Rattle.std.specs.Prelude.{Option, Some, None, ⊤, flat_map}
use Rattle.std.specs.Option.{option_map}
use Rattle.ls_text.specs.declared.name_id.NameId.{NameId}
use Rattle.verilog_ast.specs.declared.identifier.Identifier.{Identifier}
use Rattle.verilog_ast.specs.Names.{names_of_option, names_of_identifiers, names_of_optional_label}
use Rattle.verilog_ast.specs.NamesWithin.{names_in_expression, names_in_target, names_in_label, names_in_statement, names_in_range, names_in_kind, names_in_declared, names_in_declared_reg, names_in_parameter, names_in_header_parameter, names_in_port, names_in_ports, names_in_by_name, names_in_by_order, names_in_connections, names_in_instance, names_in_assignment, names_in_head, names_in_item, names_in_declaration}
use Rattle.verilog_ast.specs.Renamed.{renamed_identifier}
use Rattle.verilog_ast.specs.Renaming.{expression_as, target_as, label_as, statement_as, range_as, kind_as, declared_as, declared_reg_as, parameter_as, header_parameter_as, port_as, ports_as, by_name_as, by_order_as, connections_as, instance_as, assignment_as, head_as, item_as, declaration_as}
use Rattle.verilog_ast.specs.Expressions.{Expression, Literal, Whole, BitSelect, PartSelect, UpwardSelect, DownwardSelect, Unary, Binary, Conditional, Concatenation, Replication, Bracketed, NoPart, Parts, Target, Reference, Joined, NoTarget, Targets}
use Rattle.verilog_ast.specs.Statements.{CaseLabel, DontCare, Compared, Statement, Block, If, IfElse, Case, Assignment, Null, Default, Match, NoStatement, Statements}
use Rattle.verilog_ast.specs.Declarations.{RangeBounds, Kind, Declared, DeclaredReg, ParameterAssignment, HeaderParameterDeclaration, PortDeclaration, InputPort, OutputPort, NextPort, PortList, NoPorts, NamedPorts, DeclaredPorts}
use Rattle.verilog_ast.specs.Items as i
use Rattle.verilog_ast.specs.Items.{ConnectionByName, ConnectionByOrder, ConnectionList, ByName, ByOrder, ModuleInstance, ContinuousAssignment, LoopHead, ModuleItem, ModuleDeclaration}

module _ (f : NameId → NameId) where
  abbrev pub AreFixed : List NameId → Type 0
  AreFixed [] = ⊤
  AreFixed (n ∷ ns) = (f n ≡ n) × AreFixed ns

  front : (ns ms : List NameId) → AreFixed (ns ++ ms) → AreFixed ns
  front [] ms h = tt
  front (n ∷ ns) ms h = (h.0, front ns ms h.1)

  back : (ns ms : List NameId) → AreFixed (ns ++ ms) → AreFixed ms
  back [] ms h = h
  back (n ∷ ns) ms h = back ns ms h.1

  fixed_name : (n : Identifier) → f n.name ≡ n.name → renamed_identifier f n ≡ n
  fixed_name n h = ap (λ (x : NameId). the_name x) h
    where
      the_name : NameId → Identifier
      the_name x = record { at = n.at; name = x }

  -- of a list, and of what may be missing
  module _ {X : Type 0} (names : X → List NameId) (moved : X → X) (same : (x : X) → AreFixed (names x) → moved x ≡ x) where
    fixed_all : (xs : List X) → AreFixed (flat_map names xs) → map moved xs ≡ xs
    fixed_all [] h = refl
    fixed_all (x ∷ xs) h =
        ap₂ (λ (y : X) (ys : List X). y ∷ ys) (same x (front (names x) (flat_map names xs) h)) (fixed_all xs (back (names x) (flat_map names xs) h))

    fixed_option : (x : Option X) → AreFixed (names_of_option names x) → option_map moved x ≡ x
    fixed_option None h = refl
    fixed_option (Some x) h = ap Some (same x h)

  fixed_names : (ns : List Identifier) → AreFixed (names_of_identifiers ns) → map (renamed_identifier f) ns ≡ ns
  fixed_names [] h = refl
  fixed_names (n ∷ ns) h = ap₂ (λ (y : Identifier) (ys : List Identifier). y ∷ ys) (fixed_name n h.0) (fixed_names ns h.1)

  fixed_label : (n : Option Identifier) → AreFixed (names_of_optional_label n) → option_map (renamed_identifier f) n ≡ n
  fixed_label None h = refl
  fixed_label (Some n) h = ap Some (fixed_name n h.0)

  -- ---- expressions

  fixed_expression : (x : Expression) → AreFixed (names_in_expression x) → expression_as f x ≡ x
  fixed_expression (Literal at x) h = refl
  fixed_expression (Whole n) h = ap Whole (fixed_name n h.0)
  fixed_expression (BitSelect n x) h = ap₂ BitSelect (fixed_name n h.0) (fixed_expression x h.1)
  fixed_expression (PartSelect n x y) h =
      let ns = names_in_expression x in let ms = names_in_expression y in
      ap (λ (m : Identifier). PartSelect m (expression_as f x) (expression_as f y)) (fixed_name n h.0)
      ∙ ap₂ (PartSelect n) (fixed_expression x (front ns ms h.1)) (fixed_expression y (back ns ms h.1))
  fixed_expression (UpwardSelect n x y) h =
      let ns = names_in_expression x in let ms = names_in_expression y in
      ap (λ (m : Identifier). UpwardSelect m (expression_as f x) (expression_as f y)) (fixed_name n h.0)
      ∙ ap₂ (UpwardSelect n) (fixed_expression x (front ns ms h.1)) (fixed_expression y (back ns ms h.1))
  fixed_expression (DownwardSelect n x y) h =
      let ns = names_in_expression x in let ms = names_in_expression y in
      ap (λ (m : Identifier). DownwardSelect m (expression_as f x) (expression_as f y)) (fixed_name n h.0)
      ∙ ap₂ (DownwardSelect n) (fixed_expression x (front ns ms h.1)) (fixed_expression y (back ns ms h.1))
  fixed_expression (Unary at op x) h = ap (Unary at op) (fixed_expression x h)
  fixed_expression (Binary op x y) h =
      let ns = names_in_expression x in let ms = names_in_expression y in
      ap₂ (Binary op) (fixed_expression x (front ns ms h)) (fixed_expression y (back ns ms h))
  fixed_expression (Conditional x y z) h =
      let ns = names_in_expression x in let ms = names_in_expression y in let ks = names_in_expression z in
      let rest = back ns (ms ++ ks) h in
      ap (λ (e : Expression). Conditional e (expression_as f y) (expression_as f z)) (fixed_expression x (front ns (ms ++ ks) h))
      ∙ ap₂ (Conditional x) (fixed_expression y (front ms ks rest)) (fixed_expression z (back ms ks rest))
  fixed_expression (Concatenation at xs) h = ap (Concatenation at) (fixed_expression xs h)
  fixed_expression (Replication at x ys) h =
      let ns = names_in_expression x in let ms = names_in_expression ys in
      ap₂ (Replication at) (fixed_expression x (front ns ms h)) (fixed_expression ys (back ns ms h))
  fixed_expression (Bracketed at x) h = ap (Bracketed at) (fixed_expression x h)
  fixed_expression NoPart h = refl
  fixed_expression (Parts x xs) h =
      let ns = names_in_expression x in let ms = names_in_expression xs in
      ap₂ Parts (fixed_expression x (front ns ms h)) (fixed_expression xs (back ns ms h))

  fixed_target : (x : Target) → AreFixed (names_in_target x) → target_as f x ≡ x
  fixed_target (Reference x) h = ap Reference (fixed_expression x h)
  fixed_target (Joined at xs) h = ap (Joined at) (fixed_target xs h)
  fixed_target NoTarget h = refl
  fixed_target (Targets x xs) h =
      let ns = names_in_target x in let ms = names_in_target xs in
      ap₂ Targets (fixed_target x (front ns ms h)) (fixed_target xs (back ns ms h))

  -- ---- statements

  fixed_case : (x : CaseLabel) → AreFixed (names_in_label x) → label_as f x ≡ x
  fixed_case (DontCare at x) h = refl
  fixed_case (Compared x) h = ap Compared (fixed_expression x h)

  fixed_statement : (x : Statement) → AreFixed (names_in_statement x) → statement_as f x ≡ x
  fixed_statement (Block at l xs) h =
      let ns = names_of_optional_label l in let ms = names_in_statement xs in
      ap₂ (Block at) (fixed_label l (front ns ms h)) (fixed_statement xs (back ns ms h))
  fixed_statement (If at x y) h =
      let ns = names_in_expression x in let ms = names_in_statement y in
      ap₂ (If at) (fixed_expression x (front ns ms h)) (fixed_statement y (back ns ms h))
  fixed_statement (IfElse at x y z) h =
      let ns = names_in_expression x in let ms = names_in_statement y in let ks = names_in_statement z in
      let rest = back ns (ms ++ ks) h in
      ap (λ (e : Expression). IfElse at e (statement_as f y) (statement_as f z)) (fixed_expression x (front ns (ms ++ ks) h))
      ∙ ap₂ (IfElse at x) (fixed_statement y (front ms ks rest)) (fixed_statement z (back ms ks rest))
  fixed_statement (Case at which x ys) h =
      let ns = names_in_expression x in let ms = names_in_statement ys in
      ap₂ (Case at which) (fixed_expression x (front ns ms h)) (fixed_statement ys (back ns ms h))
  fixed_statement (Assignment x y) h =
      let ns = names_in_target x in let ms = names_in_expression y in
      ap₂ Assignment (fixed_target x (front ns ms h)) (fixed_expression y (back ns ms h))
  fixed_statement (Null at) h = refl
  fixed_statement (Default at x) h = ap (Default at) (fixed_statement x h)
  fixed_statement (Match ls x) h =
      let ns = flat_map names_in_label ls in let ms = names_in_statement x in
      ap₂ Match (fixed_all names_in_label (label_as f) fixed_case ls (front ns ms h)) (fixed_statement x (back ns ms h))
  fixed_statement NoStatement h = refl
  fixed_statement (Statements x xs) h =
      let ns = names_in_statement x in let ms = names_in_statement xs in
      ap₂ Statements (fixed_statement x (front ns ms h)) (fixed_statement xs (back ns ms h))

  -- ---- declarations

  fixed_range : (x : RangeBounds) → AreFixed (names_in_range x) → range_as f x ≡ x
  fixed_range x h =
      let ns = names_in_expression x.high in let ms = names_in_expression x.low in
      ap₂ bounds (fixed_expression x.high (front ns ms h)) (fixed_expression x.low (back ns ms h))
    where
      bounds : Expression → Expression → RangeBounds
      bounds a b = record { high = a; low = b }

  fixed_kind : (x : Kind) → AreFixed (names_in_kind x) → kind_as f x ≡ x
  fixed_kind x h = ap kind (fixed_option names_in_range (range_as f) fixed_range x.range h)
    where
      kind : Option RangeBounds → Kind
      kind r = record { signed = x.signed; range = r }

  fixed_declared : (x : Declared) → AreFixed (names_in_declared x) → declared_as f x ≡ x
  fixed_declared x h = ap₂ declared (fixed_name x.name h.0) (fixed_option names_in_expression (expression_as f) fixed_expression x.value h.1)
    where
      declared : Identifier → Option Expression → Declared
      declared n v = record { name = n; value = v }

  fixed_reg : (x : DeclaredReg) → AreFixed (names_in_declared_reg x) → declared_reg_as f x ≡ x
  fixed_reg x h =
      let ns = names_of_option names_in_range x.addresses in let ms = names_of_option names_in_expression x.value in
      ap (λ (n : Identifier). reg n (option_map (expression_as f) x.value) (option_map (range_as f) x.addresses)) (fixed_name x.name h.0)
      ∙ ap₂ (reg x.name) (fixed_option names_in_expression (expression_as f) fixed_expression x.value (back ns ms h.1))
      (fixed_option names_in_range (range_as f) fixed_range x.addresses (front ns ms h.1))
    where
      reg : Identifier → Option Expression → Option RangeBounds → DeclaredReg
      reg n v a = record { name = n; value = v; addresses = a }

  fixed_parameter : (x : ParameterAssignment) → AreFixed (names_in_parameter x) → parameter_as f x ≡ x
  fixed_parameter x h = ap₂ parameter (fixed_name x.name h.0) (fixed_expression x.value h.1)
    where
      parameter : Identifier → Expression → ParameterAssignment
      parameter n v = record { name = n; value = v }

  fixed_header : (x : HeaderParameterDeclaration) → AreFixed (names_in_header_parameter x) → header_parameter_as f x ≡ x
  fixed_header x h =
      let ns = names_of_option names_in_kind x.kind in let ms = names_in_parameter x.parameter in
      ap₂ header (fixed_option names_in_kind (kind_as f) fixed_kind x.kind (front ns ms h)) (fixed_parameter x.parameter (back ns ms h))
    where
      header : Option Kind → ParameterAssignment → HeaderParameterDeclaration
      header k p = record { kind = k; parameter = p }

  fixed_port : (x : PortDeclaration) → AreFixed (names_in_port x) → port_as f x ≡ x
  fixed_port (InputPort at net x n) h =
      let ns = names_in_kind x in let ms = n.name ∷ [] in
      let last = back ns ms h in ap₂ (InputPort at net) (fixed_kind x (front ns ms h)) (fixed_name n last.0)
  fixed_port (OutputPort at net x y) h =
      let ns = names_in_kind x in let ms = names_in_declared y in
      ap₂ (OutputPort at net) (fixed_kind x (front ns ms h)) (fixed_declared y (back ns ms h))
  fixed_port (NextPort x) h = ap NextPort (fixed_declared x h)

  fixed_ports : (x : PortList) → AreFixed (names_in_ports x) → ports_as f x ≡ x
  fixed_ports NoPorts h = refl
  fixed_ports (NamedPorts xs) h = ap NamedPorts (fixed_names xs h)
  fixed_ports (DeclaredPorts xs) h = ap DeclaredPorts (fixed_all names_in_port (port_as f) fixed_port xs h)

  -- ---- items

  fixed_by_name : (x : ConnectionByName) → AreFixed (names_in_by_name x) → by_name_as f x ≡ x
  fixed_by_name x h = ap₂ connection (fixed_name x.name h.0) (fixed_option names_in_expression (expression_as f) fixed_expression x.value h.1)
    where
      connection : Identifier → Option Expression → ConnectionByName
      connection n v = record { at = x.at; name = n; value = v }

  fixed_by_order : (x : ConnectionByOrder) → AreFixed (names_in_by_order x) → by_order_as f x ≡ x
  fixed_by_order x h = ap connection (fixed_option names_in_expression (expression_as f) fixed_expression x.value h)
    where
      connection : Option Expression → ConnectionByOrder
      connection v = record { at = x.at; value = v }

  fixed_connections : (x : ConnectionList) → AreFixed (names_in_connections x) → connections_as f x ≡ x
  fixed_connections (ByName xs) h = ap ByName (fixed_all names_in_by_name (by_name_as f) fixed_by_name xs h)
  fixed_connections (ByOrder xs) h = ap ByOrder (fixed_all names_in_by_order (by_order_as f) fixed_by_order xs h)

  fixed_instance : (x : ModuleInstance) → AreFixed (names_in_instance x) → instance_as f x ≡ x
  fixed_instance x h = ap₂ instance (fixed_name x.name h.0) (fixed_connections x.connections h.1)
    where
      instance : Identifier → ConnectionList → ModuleInstance
      instance n c = record { name = n; connections = c }

  fixed_assignment : (x : ContinuousAssignment) → AreFixed (names_in_assignment x) → assignment_as f x ≡ x
  fixed_assignment x h =
      let ns = names_in_target x.target in let ms = names_in_expression x.value in
      ap₂ assignment (fixed_target x.target (front ns ms h)) (fixed_expression x.value (back ns ms h))
    where
      assignment : Target → Expression → ContinuousAssignment
      assignment t v = record { target = t; value = v }

  fixed_head : (x : LoopHead) → AreFixed (names_in_head x) → head_as f x ≡ x
  fixed_head x h =
      let ns = names_in_parameter x.start in let ms = names_in_expression x.condition in let ks = names_in_parameter x.step in
      let rest = back ns (ms ++ ks) h in
      ap (λ (s : ParameterAssignment). head s (expression_as f x.condition) (parameter_as f x.step)) (fixed_parameter x.start (front ns (ms ++ ks) h))
      ∙ ap₂ (head x.start) (fixed_expression x.condition (front ms ks rest)) (fixed_parameter x.step (back ms ks rest))
    where
      head : ParameterAssignment → Expression → ParameterAssignment → LoopHead
      head s c t = record { start = s; condition = c; step = t }

  fixed_item : (x : ModuleItem) → AreFixed (names_in_item x) → item_as f x ≡ x
  fixed_item (i.Inputs at net x ns) h =
      ap₂ (i.Inputs at net) (fixed_kind x (front (names_in_kind x) (names_of_identifiers ns) h))
      (fixed_names ns (back (names_in_kind x) (names_of_identifiers ns) h))
  fixed_item (i.Outputs at net x ys) h =
      let ms = flat_map names_in_declared ys in
      ap₂ (i.Outputs at net) (fixed_kind x (front (names_in_kind x) ms h))
      (fixed_all names_in_declared (declared_as f) fixed_declared ys (back (names_in_kind x) ms h))
  fixed_item (i.Parameters at x ys) h =
      let ms = flat_map names_in_parameter ys in
      ap₂ (i.Parameters at) (fixed_kind x (front (names_in_kind x) ms h))
      (fixed_all names_in_parameter (parameter_as f) fixed_parameter ys (back (names_in_kind x) ms h))
  fixed_item (i.LocalParameters at x ys) h =
      let ms = flat_map names_in_parameter ys in
      ap₂ (i.LocalParameters at) (fixed_kind x (front (names_in_kind x) ms h))
      (fixed_all names_in_parameter (parameter_as f) fixed_parameter ys (back (names_in_kind x) ms h))
  fixed_item (i.Wires at x ys) h =
      let ms = flat_map names_in_declared ys in
      ap₂ (i.Wires at) (fixed_kind x (front (names_in_kind x) ms h))
      (fixed_all names_in_declared (declared_as f) fixed_declared ys (back (names_in_kind x) ms h))
  fixed_item (i.Regs at x ys) h =
      let ms = flat_map names_in_declared_reg ys in
      ap₂ (i.Regs at) (fixed_kind x (front (names_in_kind x) ms h))
      (fixed_all names_in_declared_reg (declared_reg_as f) fixed_reg ys (back (names_in_kind x) ms h))
  fixed_item (i.Genvars at ns) h = ap (i.Genvars at) (fixed_names ns h)
  fixed_item (i.Assigns at xs) h = ap (i.Assigns at) (fixed_all names_in_assignment (assignment_as f) fixed_assignment xs h)
  fixed_item (i.Combinational at x) h = ap (i.Combinational at) (fixed_statement x h)
  fixed_item (i.Clocked at n x) h = ap₂ (i.Clocked at) (fixed_name n h.0) (fixed_statement x h.1)
  fixed_item (i.Instances n x ys) h =
      let ns = names_of_option names_in_connections x in let ms = flat_map names_in_instance ys in
      ap (λ (m : Identifier). i.Instances m (option_map (connections_as f) x) (map (instance_as f) ys)) (fixed_name n h.0)
      ∙ ap₂ (i.Instances n) (fixed_option names_in_connections (connections_as f) fixed_connections x (front ns ms h.1))
      (fixed_all names_in_instance (instance_as f) fixed_instance ys (back ns ms h.1))
  fixed_item (i.Region at xs) h = ap (i.Region at) (fixed_item xs h)
  fixed_item (i.Loop at x n ys) h =
      let ns = names_in_head x in let ms = n.name ∷ names_in_item ys in
      let rest = back ns ms h in
      ap (λ (s : LoopHead). i.Loop at s (renamed_identifier f n) (item_as f ys)) (fixed_head x (front ns ms h))
      ∙ ap₂ (i.Loop at x) (fixed_name n rest.0) (fixed_item ys rest.1)
  fixed_item (i.Conditional xs) h = ap i.Conditional (fixed_item xs h)
  fixed_item (i.Branch at x n ys) h =
      let ns = names_of_option names_in_expression x in let ms = n.name ∷ names_in_item ys in
      let rest = back ns ms h in
      ap (λ (c : Option Expression). i.Branch at c (renamed_identifier f n) (item_as f ys))
      (fixed_option names_in_expression (expression_as f) fixed_expression x (front ns ms h))
      ∙ ap₂ (i.Branch at x) (fixed_name n rest.0) (fixed_item ys rest.1)
  fixed_item i.NoItem h = refl
  fixed_item (i.Items x xs) h =
      let ns = names_in_item x in let ms = names_in_item xs in
      ap₂ i.Items (fixed_item x (front ns ms h)) (fixed_item xs (back ns ms h))

  pub fixed_declaration : (x : ModuleDeclaration) → AreFixed (names_in_declaration x) → declaration_as f x ≡ x
  fixed_declaration x h =
      let ns = flat_map names_in_header_parameter x.parameters in let ms = names_in_ports x.ports in let ks = names_in_item x.items in
      let rest = back ns (ms ++ ks) h.1 in
      ap (λ (n : Identifier). module_as n (map (header_parameter_as f) x.parameters) (ports_as f x.ports) (item_as f x.items)) (fixed_name x.name h.0)
      ∙ ap (λ (ps : List HeaderParameterDeclaration). module_as x.name ps (ports_as f x.ports) (item_as f x.items))
      (fixed_all names_in_header_parameter (header_parameter_as f) fixed_header x.parameters (front ns (ms ++ ks) h.1))
      ∙ ap₂ (module_as x.name x.parameters) (fixed_ports x.ports (front ms ks rest)) (fixed_item x.items (back ms ks rest))
    where
      module_as : Identifier → List HeaderParameterDeclaration → PortList → ModuleItem → ModuleDeclaration
      module_as n ps q items = record { name = n; parameters = ps; ports = q; items = items }
