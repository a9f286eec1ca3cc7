-- Clock ports of instances and of a module itself, under other names.
use Rattle.std.proofs.Common.{◌≡◌, ℕ, Bool, true, false, if◌then◌else◌, List, [], ◌∷◌, ◌++◌, map, Option, Some, None, Result, Ok, refl, sym, ◌∙◌, ap}
use Rattle.std.proofs.lemmas.List.{map-append}
use Rattle.std.specs.Option.{option_map}
use Rattle.ls_text.specs.declared.fault.Fault.{Fault}
use Rattle.ls_text.specs.declared.name_id.NameId.{NameId}
use Rattle.verilog_ast.specs.declared.identifier.Identifier.{Identifier}
use Rattle.verilog_ast.specs.Expressions.{Expression, Literal, Whole, BitSelect, PartSelect, UpwardSelect, DownwardSelect, Unary, Binary, Conditional, Concatenation, Replication, Bracketed, NoPart, Parts}
use Rattle.verilog_ast.specs.Declarations.{PortDeclaration}
use Rattle.verilog_ast.specs.Items as i
use Rattle.verilog_ast.specs.Items.{ConnectionByName, ConnectionByOrder, ConnectionList, ByName, ByOrder, ModuleInstance, ModuleItem, ModuleDeclaration}
use Rattle.verilog_ast.specs.Renamed.{renamed_identifier}
use Rattle.verilog_ast.specs.Renaming.{expression_as, declared_as, declared_reg_as, port_as, by_name_as, by_order_as, connections_as, instance_as, assignment_as, item_as, declaration_as}
use Rattle.width_rules.specs.Renaming.{MeansSame}
use Rattle.width_rules.specs.Scopes.{Scope}
use Rattle.gen_unroll.specs.Reaches.{Reach, in_reach}
use Rattle.gen_unroll.specs.Steps.{ModuleStep, Listed, Port, Parameter, Item, Labelled, Opened, Closed}
use Rattle.ls_text.specs.Answers.{◌>>=◌}
use Rattle.module_names.specs.Listings.{is_listed, names_behind}
use Rattle.module_names.specs.Modules.{module_named, port_name, header_ports}
use Rattle.clock_rules.specs.Clocks.{clock_free, declared_free, reg_free, assignment_free, take_clock, connect, connection, clock_by_name, next_port, clock_by_order, clock_of, clocks_of, clocks_in, unless_misused, clock_item}
use Rattle.elaborate.specs.Clocks.{clock_step, clock_steps, is_one_bit_input, own_port, own_clock, declared_port, top_clock}
use Rattle.elaborate.specs.Tables.{Table}
use Rattle.elaborate.specs.Findings.{clock_as, table_as}
use Rattle.elaborate.specs.Renaming.{KeepsApart, SameReach, number_as, found_as, answer_as, step_as}
use Rattle.elaborate.proofs.RenamedAnswers.{bind_so, found_so, value_so, if_found, if_answer}
use Rattle.elaborate.proofs.RenamedClocks.{same_clock, same_posedge, same_free, same_all, same_statement, same_value_free, same_assignment, same_port}
use Rattle.elaborate.proofs.RenamedModules.{same_behind, same_listed, same_named, same_port_name, same_ports, same_input_of}
use Rattle.elaborate.proofs.RenamedNames.{same_reach, same_number}
use Rattle.elaborate.proofs.RenamedTables.{same_declared}

-- ---- instances

taken_so : (f : NameId → NameId) (m : ModuleDeclaration) (port : Option Identifier) (n : Identifier) (k : Option ℕ) → KeepsApart f
    → take_clock (declaration_as f m) (option_map (renamed_identifier f) port) (renamed_identifier f n) (clock_as f k) ≡ found_as f (clock_as f) (take_clock m port n k)
taken_so f m None n k apart = refl
taken_so f m (Some p) n (Some k) apart = refl
taken_so f m (Some p) n None apart = if_found f (clock_as f) _ _ _ _ _ _ (same_input_of f m p.name.0 apart) refl refl

unmentioned : (f : NameId → NameId) (scope other : Scope) (e : Expression) (k : Option ℕ) → MeansSame f scope other
    → (clock_free other (expression_as f e) >>= λ _. Ok (clock_as f k)) ≡ found_as f (clock_as f) (clock_free scope e >>= λ _. Ok k)
unmentioned f scope other e k same = value_so f (clock_as f) _ _ _ _ (same_free f scope other e same) (λ _. refl)

connect_so : (f : NameId → NameId) (m : ModuleDeclaration) (scope other : Scope) (port : Option Identifier) (e : Expression) (k : Option ℕ) → KeepsApart f → MeansSame f scope other
    → connect (declaration_as f m) other (option_map (renamed_identifier f) port) (expression_as f e) (clock_as f k) ≡ found_as f (clock_as f) (connect m scope port e k)
connect_so f m scope other port (Whole n) k apart same =
    if_found f (clock_as f) _ _ _ _ _ _ (same_clock f scope other n same) (taken_so f m port n k apart) refl
connect_so f m scope other port (Literal at x) k apart same = unmentioned f scope other (Literal at x) k same
connect_so f m scope other port (BitSelect n x) k apart same = unmentioned f scope other (BitSelect n x) k same
connect_so f m scope other port (PartSelect n x y) k apart same = unmentioned f scope other (PartSelect n x y) k same
connect_so f m scope other port (UpwardSelect n x y) k apart same = unmentioned f scope other (UpwardSelect n x y) k same
connect_so f m scope other port (DownwardSelect n x y) k apart same = unmentioned f scope other (DownwardSelect n x y) k same
connect_so f m scope other port (Unary at op x) k apart same = unmentioned f scope other (Unary at op x) k same
connect_so f m scope other port (Binary op x y) k apart same = unmentioned f scope other (Binary op x y) k same
connect_so f m scope other port (Conditional c x y) k apart same = unmentioned f scope other (Conditional c x y) k same
connect_so f m scope other port (Concatenation at xs) k apart same = unmentioned f scope other (Concatenation at xs) k same
connect_so f m scope other port (Replication at c xs) k apart same = unmentioned f scope other (Replication at c xs) k same
connect_so f m scope other port (Bracketed at x) k apart same = unmentioned f scope other (Bracketed at x) k same
connect_so f m scope other port NoPart k apart same = unmentioned f scope other NoPart k same
connect_so f m scope other port (Parts x xs) k apart same = unmentioned f scope other (Parts x xs) k same

connection_so : (f : NameId → NameId) (m : ModuleDeclaration) (scope other : Scope) (port : Option Identifier) (e : Option Expression) (k : Option ℕ) → KeepsApart f → MeansSame f scope other
    → connection (declaration_as f m) other (option_map (renamed_identifier f) port) (option_map (expression_as f) e) (clock_as f k) ≡ found_as f (clock_as f) (connection m scope port e k)
connection_so f m scope other port None k apart same = refl
connection_so f m scope other port (Some e) k apart same = connect_so f m scope other port e k apart same

by_name_so : (f : NameId → NameId) (m : ModuleDeclaration) (scope other : Scope) (xs : List ConnectionByName) (k : Option ℕ) → KeepsApart f → MeansSame f scope other
    → clock_by_name (declaration_as f m) other (map (by_name_as f) xs) (clock_as f k) ≡ found_as f (clock_as f) (clock_by_name m scope xs k)
by_name_so f m scope other [] k apart same = refl
by_name_so f m scope other (x ∷ xs) k apart same =
    found_so f (clock_as f) (clock_as f) _ _ _ _ (connection_so f m scope other (Some x.name) x.value k apart same) (λ next. by_name_so f m scope other xs next apart same)

next_port_so : (f : NameId → NameId) (ps : List Identifier) → next_port (map (renamed_identifier f) ps) ≡ option_map (renamed_identifier f) (next_port ps)
next_port_so f [] = refl
next_port_so f (p ∷ ps) = refl

by_order_so : (f : NameId → NameId) (m : ModuleDeclaration) (scope other : Scope) (ps : List Identifier) (xs : List ConnectionByOrder) (k : Option ℕ) → KeepsApart f → MeansSame f scope other
    → clock_by_order (declaration_as f m) other (map (renamed_identifier f) ps) (map (by_order_as f) xs) (clock_as f k) ≡ found_as f (clock_as f) (clock_by_order m scope ps xs k)
by_order_so f m scope other ps [] k apart same = refl
by_order_so f m scope other ps (x ∷ xs) k apart same =
    found_so f (clock_as f) (clock_as f) _ _ _ _
    (ap (λ (p : Option Identifier). connection (declaration_as f m) other p (option_map (expression_as f) x.value) (clock_as f k)) (next_port_so f ps)
    ∙ connection_so f m scope other (next_port ps) x.value k apart same)
    (λ next. ap (λ (qs : List Identifier). clock_by_order (declaration_as f m) other qs (map (by_order_as f) xs) (clock_as f next)) (same_behind f ps)
    ∙ by_order_so f m scope other (names_behind ps) xs next apart same)

clock_of_so : (f : NameId → NameId) (m : ModuleDeclaration) (scope other : Scope) (xs : ConnectionList) → KeepsApart f → MeansSame f scope other
    → clock_of (declaration_as f m) other (connections_as f xs) ≡ found_as f (clock_as f) (clock_of m scope xs)
clock_of_so f m scope other (ByName xs) apart same = by_name_so f m scope other xs None apart same
clock_of_so f m scope other (ByOrder xs) apart same =
    ap (λ (ps : List Identifier). clock_by_order (declaration_as f m) other ps (map (by_order_as f) xs) None) (same_ports f m.ports)
    ∙ by_order_so f m scope other (header_ports m.ports) xs None apart same

clocks_of_so : (f : NameId → NameId) (m : ModuleDeclaration) (scope other : Scope) (xs : List ModuleInstance) (ks : List (Option ℕ)) → KeepsApart f → MeansSame f scope other
    → clocks_of (declaration_as f m) other (map (instance_as f) xs) (map (clock_as f) ks) ≡ found_as f (map (clock_as f)) (clocks_of m scope xs ks)
clocks_of_so f m scope other [] ks apart same = refl
clocks_of_so f m scope other (x ∷ xs) ks apart same =
    found_so f (clock_as f) (map (clock_as f)) _ _ _ _ (clock_of_so f m scope other x.connections apart same)
    (λ k. ap (clocks_of (declaration_as f m) other (map (instance_as f) xs)) (sym (map-append (clock_as f) ks (k ∷ [])))
    ∙ clocks_of_so f m scope other xs (ks ++ k ∷ []) apart same)

clocks_in_so : (f : NameId → NameId) (m : Option ModuleDeclaration) (scope other : Scope) (xs : List ModuleInstance) (ks : List (Option ℕ)) → KeepsApart f → MeansSame f scope other
    → clocks_in (option_map (declaration_as f) m) other (map (instance_as f) xs) (map (clock_as f) ks) ≡ found_as f (map (clock_as f)) (clocks_in m scope xs ks)
clocks_in_so f None scope other xs ks apart same = refl
clocks_in_so f (Some m) scope other xs ks apart same = clocks_of_so f m scope other xs ks apart same

-- ---- the module itself

own_port_so : (f : NameId → NameId) (clock : Option ℕ) (t : Table) (p : Identifier) → KeepsApart f
    → own_port (clock_as f clock) (table_as f t) (renamed_identifier f p) ≡ answer_as f (own_port clock t p)
own_port_so f None t p apart = refl
own_port_so f (Some name) t p apart =
    if_answer f _ _ _ _ _ _ (same_number f name p.name.0 apart)
    (if_answer f _ _ _ _ _ _ (ap is_one_bit_input (same_declared f (record { block = None; name = p.name.0 }) t apart)) refl refl)
    refl

pub same_own_clock : (f : NameId → NameId) (clock : Option ℕ) (ps : List Identifier) (t : Table) → KeepsApart f
    → own_clock (clock_as f clock) (map (renamed_identifier f) ps) (table_as f t) ≡ answer_as f (own_clock clock ps t)
same_own_clock f clock ps t apart =
    same_all f (renamed_identifier f) (own_port clock t) (own_port (clock_as f clock) (table_as f t)) (λ p. own_port_so f clock t p apart) ps

declared_port_so : (f : NameId → NameId) (clock : Option ℕ) (t : Table) (scope other : Scope) (p : PortDeclaration) → KeepsApart f → MeansSame f scope other
    → declared_port (clock_as f clock) (table_as f t) other (port_as f p) ≡ answer_as f (declared_port clock t scope p)
declared_port_so f clock t scope other p apart same =
    bind_so f _ _ _ _ (ap (own_port (clock_as f clock) (table_as f t)) (same_port_name f p) ∙ own_port_so f clock t (port_name p) apart)
    (λ _. same_port f scope other p same)

-- ---- steps

unless_so : (f : NameId → NameId) (r q : Result (Unit {0}) Fault) (ks : List (Option ℕ)) → q ≡ answer_as f r
    → unless_misused q (map (clock_as f) ks) ≡ found_as f (map (clock_as f)) (unless_misused r ks)
unless_so f r q ks same = value_so f (map (clock_as f)) r q _ _ same (λ _. refl)

item_so : (f : NameId → NameId) (ms : List ModuleDeclaration) (scope other : Scope) (x : ModuleItem) (ks : List (Option ℕ)) → KeepsApart f → MeansSame f scope other
    → clock_item (map (declaration_as f) ms) other (item_as f x) (map (clock_as f) ks) ≡ found_as f (map (clock_as f)) (clock_item ms scope x ks)
item_so f ms scope other (i.Outputs at net k xs) ks apart same =
    unless_so f _ _ ks (same_all f (declared_as f) (declared_free scope) (declared_free other) (λ x. same_value_free f scope other x.value same) xs)
item_so f ms scope other (i.Wires at k xs) ks apart same =
    unless_so f _ _ ks (same_all f (declared_as f) (declared_free scope) (declared_free other) (λ x. same_value_free f scope other x.value same) xs)
item_so f ms scope other (i.Regs at k xs) ks apart same =
    unless_so f _ _ ks (same_all f (declared_reg_as f) (reg_free scope) (reg_free other) (λ x. same_value_free f scope other x.value same) xs)
item_so f ms scope other (i.Assigns at xs) ks apart same =
    unless_so f _ _ ks (same_all f (assignment_as f) (assignment_free scope) (assignment_free other) (λ x. same_assignment f scope other x same) xs)
item_so f ms scope other (i.Combinational at x) ks apart same = unless_so f _ _ ks (same_statement f scope other x same)
item_so f ms scope other (i.Clocked at n x) ks apart same =
    unless_so f _ _ ks (bind_so f _ _ _ _ (same_posedge f scope other n same) (λ _. same_statement f scope other x same))
item_so f ms scope other (i.Instances n overrides xs) ks apart same =
    ap (λ (m : Option ModuleDeclaration). clocks_in m other (map (instance_as f) xs) (map (clock_as f) ks)) (same_named f n.name.0 ms apart)
    ∙ clocks_in_so f (module_named n.name.0 ms) scope other xs ks apart same
item_so f ms scope other (i.Inputs at net k ns) ks apart same = refl
item_so f ms scope other (i.Parameters at k ps) ks apart same = refl
item_so f ms scope other (i.LocalParameters at k ps) ks apart same = refl
item_so f ms scope other (i.Genvars at ns) ks apart same = refl
item_so f ms scope other (i.Region at xs) ks apart same = refl
item_so f ms scope other (i.Loop at h label xs) ks apart same = refl
item_so f ms scope other (i.Conditional xs) ks apart same = refl
item_so f ms scope other (i.Branch at c label xs) ks apart same = refl
item_so f ms scope other i.NoItem ks apart same = refl
item_so f ms scope other (i.Items x xs) ks apart same = refl

step_so : (f : NameId → NameId) (ms : List ModuleDeclaration) (clock : Option ℕ) (t : Table) (scope other : Scope) (s : ModuleStep) (ks : List (Option ℕ)) → KeepsApart f → MeansSame f scope other
    → clock_step (map (declaration_as f) ms) (clock_as f clock) (table_as f t) other (step_as f s) (map (clock_as f) ks) ≡ found_as f (map (clock_as f)) (clock_step ms clock t scope s ks)
step_so f ms clock t scope other (Listed n) ks apart same = unless_so f _ _ ks (own_port_so f clock t n apart)
step_so f ms clock t scope other (Port p) ks apart same = unless_so f _ _ ks (declared_port_so f clock t scope other p apart same)
step_so f ms clock t scope other (Parameter s n v) ks apart same = refl
step_so f ms clock t scope other (Item x) ks apart same = item_so f ms scope other x ks apart same
step_so f ms clock t scope other (Labelled n) ks apart same = refl
step_so f ms clock t scope other (Opened b items) ks apart same = refl
step_so f ms clock t scope other Closed ks apart same = refl

pub same_clock_steps : (f : NameId → NameId) (ms : List ModuleDeclaration) (clock : Option ℕ) (t : Table) (here there : Reach) (steps : List ModuleStep) (ks : List (Option ℕ))
    → KeepsApart f → SameReach f here there
    → clock_steps (map (declaration_as f) ms) (clock_as f clock) (table_as f t) there (map (step_as f) steps) (map (clock_as f) ks)
    ≡ found_as f (map (clock_as f)) (clock_steps ms clock t here steps ks)
same_clock_steps f ms clock t here there [] ks apart same = refl
same_clock_steps f ms clock t here there (s ∷ ss) ks apart same =
    found_so f (map (clock_as f)) (map (clock_as f)) _ _ _ _ (step_so f ms clock t here.scope there.scope s ks apart same.names)
    (λ more. same_clock_steps f ms clock t (in_reach s here) (in_reach (step_as f s) there) ss more apart (same_reach f s here there apart same))

-- ---- the top

one_or_none : (f : NameId → NameId) (b : Bool) (clock : ℕ) → (if b then Some (number_as f clock) else None) ≡ clock_as f (if b then Some clock else None)
one_or_none f true clock = refl
one_or_none f false clock = refl

pub same_top_clock : (f : NameId → NameId) (clock : ℕ) (m : ModuleDeclaration) → KeepsApart f → top_clock (number_as f clock) (declaration_as f m) ≡ clock_as f (top_clock clock m)
same_top_clock f clock m apart =
    ap (λ (b : Bool). if b then Some (number_as f clock) else None)
    (ap (is_listed (number_as f clock)) (same_ports f m.ports) ∙ same_listed f clock (header_ports m.ports) apart)
    ∙ one_or_none f (is_listed clock (header_ports m.ports)) clock
