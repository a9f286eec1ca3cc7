-- Items without a fault, sized where all names in reach fit the widths of signals, have widths that agree with theirs.
use Rattle.std.proofs.Common.{◌≡◌, ℕ, Bool, true, false, cond, List, [], ◌∷◌, ◌++◌, map, refl}
use Rattle.std.specs.Prelude.{⊤, Option, Some, None}
use Rattle.std.specs.Option.{option_map}
use Rattle.std.proofs.lemmas.Bool.{and_from}
use Rattle.ls_text.specs.declared.place.Place.{Place}
use Rattle.typed_ir.specs.Nodes.{are_lanes, is_legal_node, known_lanes}
use Rattle.typed_ir.specs.Orders.{Each}
use Rattle.typed_ir.specs.Stmts.{SizedStmt, is_sized, is_legal, is_clocked}
use Rattle.typed_ir.proofs.Lists.{each_append}
use Rattle.typed_ir.specs.Items.{SizedBody, Node, Clocked, Initial, PlacedItem, node_in, nodes_in, block_in, blocks_in}
use Rattle.typed_ir.specs.Trees.{UnitNode, is_legal_unit_node, is_legal_block}
use Rattle.verilog_ast.specs.declared.expression.Expr.{Expr}
use Rattle.verilog_ast.specs.declared.header_port.HeaderPort.{HeaderPort}
use Rattle.verilog_ast.specs.declared.header_port.HeaderPort.TheVariants as port
use Rattle.verilog_ast.specs.declared.identifier.Identifier.{Identifier}
use Rattle.verilog_ast.specs.declared.plain_item.PlainItem.{PlainItem}
use Rattle.verilog_ast.specs.declared.plain_item.PlainItem.TheVariants as plain
use Rattle.verilog_ast.specs.declared.reg_variable.RegVariable.{RegVariable}
use Rattle.verilog_ast.specs.declared.variable.Variable.{Variable}
use Rattle.verilog_ast.specs.Items as i
use Rattle.verilog_ast.specs.Items.{ContinuousAssignment, ModuleItem}
use Rattle.verilog_ast.specs.Statements.{Statement}
use Rattle.verilog_ast.specs.Views.{expression_of, declared_of, declared_reg_of, port_of, plain_item_of}
use Rattle.width_rules.specs.declared.writer.Writer.TheVariants as writer
use Rattle.width_rules.specs.Scopes.{Scope}
use Rattle.statement_rules.specs.Drives.{sized_drive, assign_faults}
use Rattle.statement_rules.specs.Statements.{sized_statement, statement_faults}
use Rattle.statement_rules.specs.Targets.{parts}
use Rattle.statement_rules.proofs.Clocked.{stays_clocked}
use Rattle.statement_rules.specs.Fitting.{FitsScope, FitsDrive, FitDrives}
use Rattle.statement_rules.specs.Written.{IsWritten, IsStatementWritten, AreAssignsWritten}
use Rattle.statement_rules.proofs.Drives.{drives_fit}
use Rattle.statement_rules.proofs.FittingStatements.{legal}
use Rattle.statement_rules.proofs.Trees.{expression_is_written, statement_is_written, assigns_are_written}
use Rattle.gen_unroll.specs.declared.step.Step.{Step}
use Rattle.gen_unroll.specs.declared.step.Step.TheVariants as step
use Rattle.gen_unroll.specs.Steps.{ModuleStep, Listed, Port, Parameter, Item, Labelled, Opened, Closed}
use Rattle.gen_unroll.specs.Views.{step_of}
use Rattle.statement_rules.specs.declared.value_kind.ValueKind.{ValueKind}
use Rattle.statement_rules.specs.declared.value_kind.ValueKind.TheVariants as kind
use Rattle.statement_rules.specs.DeclaredValues.{DeclaredValue, kind_of_net, value_if, values_of, reg_values_of, port_values, as_assignment, is_net_value, declaration_faults}
use Rattle.statement_rules.specs.SizedItems.{drive_item, initial_item, value_item, combinational_item, clocked_item, plain_items, plain_faults}
use Rattle.statement_rules.proofs.Driven.{nets_driven}
use Rattle.unit_build.proofs.ConnectedTargets.{lanes_known}

-- ---- items whose texts are written as a parser writes them

abbrev pub AreValuesWritten : List DeclaredValue → Type 0
AreValuesWritten xs = Each (λ (x : DeclaredValue). IsWritten x.value) xs

abbrev pub IsItemWritten : ModuleItem → Type 0
IsItemWritten (i.Outputs at n k xs) = AreValuesWritten (values_of (kind_of_net n) xs)
IsItemWritten (i.Wires at k xs) = AreValuesWritten (values_of kind.Net xs)
IsItemWritten (i.Regs at k xs) = AreValuesWritten (reg_values_of xs)
IsItemWritten (i.Assigns at xs) = AreAssignsWritten xs
IsItemWritten (i.Combinational at body) = IsStatementWritten body
IsItemWritten (i.Clocked at n body) = IsStatementWritten body
IsItemWritten other = ⊤

abbrev pub IsStepWritten : ModuleStep → Type 0
IsStepWritten (Listed n) = ⊤
IsStepWritten (Port p) = AreValuesWritten (port_values p)
IsStepWritten (Parameter s n v) = ⊤
IsStepWritten (Item x) = IsItemWritten x
IsStepWritten (Labelled n) = ⊤
IsStepWritten (Opened b items) = ⊤
IsStepWritten Closed = ⊤

value_written : (k : ValueKind) (n : Identifier) (e : Option Expr) → AreValuesWritten (value_if k n (option_map expression_of e))
value_written k n None = tt
value_written k n (Some e) = (expression_is_written e, tt)

pub values_written : (k : ValueKind) (xs : List Variable) → AreValuesWritten (values_of k (map declared_of xs))
values_written k [] = tt
values_written k (x ∷ xs) =
    each_append (λ (v : DeclaredValue). IsWritten v.value) (value_if k x.name (option_map expression_of x.value)) (values_of k (map declared_of xs))
    (value_written k x.name x.value) (values_written k xs)

reg_values_written : (xs : List RegVariable) → AreValuesWritten (reg_values_of (map declared_reg_of xs))
reg_values_written [] = tt
reg_values_written (x ∷ xs) =
    each_append (λ (v : DeclaredValue). IsWritten v.value) (value_if kind.Variable x.name (option_map expression_of x.value)) (reg_values_of (map declared_reg_of xs))
    (value_written kind.Variable x.name x.value) (reg_values_written xs)

pub port_written : (p : HeaderPort) → AreValuesWritten (port_values (port_of p))
port_written (port.Input at net x n) = tt
port_written (port.Output at net x y) = value_written (kind_of_net net) y.name y.value
port_written (port.Next x) = value_written kind.AsDeclared x.name x.value

pub item_written : (x : PlainItem) → IsItemWritten (plain_item_of x)
item_written (plain.Wire at x ys) = values_written kind.Net ys
item_written (plain.Reg at x ys) = reg_values_written ys
item_written (plain.LocalParameter at x ys) = tt
item_written (plain.Genvar at xs) = tt
item_written (plain.Assign at xs) = assigns_are_written xs
item_written (plain.Combinational at x) = statement_is_written x
item_written (plain.Clocked at n x) = statement_is_written x
item_written (plain.Instances n x ys) = tt

-- the steps of the code are
pub step_written : (s : Step) → IsStepWritten (step_of s)
step_written (step.Listed n) = tt
step_written (step.Port p) = port_written p.now
step_written (step.Parameter s n v) = tt
step_written (step.Inputs at net k ns) = tt
step_written (step.Outputs at net k xs) = values_written (kind_of_net net) xs.now
step_written (step.Item x) = item_written x.now
step_written (step.Label n) = tt
step_written (step.Open b xs) = tt
step_written step.Close = tt

-- ---- widths that agree

-- of a node with those of signals and of the instances' ports, of a clocked block with those of signals
abbrev pub IsLegalBody : List ℕ → (ℕ → List ℕ) → SizedBody → Type 0
IsLegalBody widths kids (Node node) = is_legal_unit_node widths kids node ≡ true
IsLegalBody widths kids (Clocked st) = is_legal_block widths st ≡ true
IsLegalBody widths kids (Initial s) = ⊤

abbrev pub IsLegalItem : List ℕ → (ℕ → List ℕ) → PlacedItem → Type 0
IsLegalItem widths kids x = IsLegalBody widths kids x.body

abbrev pub AreLegalItems : List ℕ → (ℕ → List ℕ) → List PlacedItem → Type 0
AreLegalItems widths kids xs = Each (IsLegalItem widths kids) xs

drive_legal : (scope : Scope) (widths : List ℕ) (kids : ℕ → List ℕ) (x : ContinuousAssignment) → FitsDrive (sized_drive scope x) widths → IsLegalItem widths kids (drive_item scope x)
unfolding is_legal_node
drive_legal scope widths kids x fits =
    and_from (are_lanes (known_lanes (parts scope 0 x.target)) widths) (is_sized (sized_drive scope x).value widths)
    (lanes_known (parts scope 0 x.target) widths fits.targets) fits.value

drives_legal : (scope : Scope) (widths : List ℕ) (kids : ℕ → List ℕ) (xs : List ContinuousAssignment) → FitDrives scope xs widths → AreLegalItems widths kids (map (drive_item scope) xs)
drives_legal scope widths kids [] fits = tt
drives_legal scope widths kids (x ∷ xs) fits = (drive_legal scope widths kids x fits.0, drives_legal scope widths kids xs fits.1)

-- a value either drives a net, or stands at the beginning
value_legal : (scope : Scope) (widths : List ℕ) (kids : ℕ → List ℕ) (x : DeclaredValue) (net : Bool) → FitsScope scope widths → IsWritten x.value
    → (net ≡ true → assign_faults scope (as_assignment x ∷ []) ≡ []) → IsLegalItem widths kids (cond net (drive_item scope (as_assignment x)) (initial_item scope x))
value_legal scope widths kids x true ok w none =
    drive_legal scope widths kids (as_assignment x) (drives_fit scope widths (as_assignment x ∷ []) ok ((tt, w), tt) (none refl)).0
value_legal scope widths kids x false ok w none = tt

values_each : (scope : Scope) (widths : List ℕ) (kids : ℕ → List ℕ) (xs : List DeclaredValue) → FitsScope scope widths → AreValuesWritten xs
    → Each (λ x. is_net_value scope x ≡ true → assign_faults scope (as_assignment x ∷ []) ≡ []) xs → AreLegalItems widths kids (map (value_item scope) xs)
values_each scope widths kids [] ok w none = tt
values_each scope widths kids (x ∷ xs) ok w none =
    (value_legal scope widths kids x (is_net_value scope x) ok w.0 none.0, values_each scope widths kids xs ok w.1 none.1)

-- of a declaration
pub values_legal : (scope : Scope) (widths : List ℕ) (kids : ℕ → List ℕ) (xs : List DeclaredValue) → FitsScope scope widths → AreValuesWritten xs
    → declaration_faults scope xs ≡ [] → AreLegalItems widths kids (map (value_item scope) xs)
values_legal scope widths kids xs ok w none = values_each scope widths kids xs ok w (nets_driven scope xs none)

combinational_legal : (scope : Scope) (widths : List ℕ) (kids : ℕ → List ℕ) (x : Statement) → FitsScope scope widths → IsStatementWritten x
    → statement_faults scope writer.Combinational x ≡ [] → (at : Place) → IsLegalItem widths kids (combinational_item scope at x)
unfolding is_legal_node
combinational_legal scope widths kids x ok w none at = legal scope widths writer.Combinational x ok w none

clocked_legal : (scope : Scope) (widths : List ℕ) (kids : ℕ → List ℕ) (x : Statement) → FitsScope scope widths → IsStatementWritten x
    → statement_faults scope writer.Clocked x ≡ [] → (at : Place) → IsLegalItem widths kids (clocked_item scope at x)
clocked_legal scope widths kids x ok w none at =
    let st = sized_statement scope writer.Clocked x in
    and_from (is_legal st widths) (is_clocked st) (legal scope widths writer.Clocked x ok w none) (stays_clocked scope writer.Clocked x st refl refl)

-- of a declaration, of assignments or of a block
pub plain_legal : (scope : Scope) (widths : List ℕ) (kids : ℕ → List ℕ) (x : ModuleItem) → FitsScope scope widths → IsItemWritten x → plain_faults scope x ≡ []
    → AreLegalItems widths kids (plain_items scope x)
plain_legal scope widths kids (i.Outputs at n k xs) ok w none = values_legal scope widths kids (values_of (kind_of_net n) xs) ok w none
plain_legal scope widths kids (i.Wires at k xs) ok w none = values_legal scope widths kids (values_of kind.Net xs) ok w none
plain_legal scope widths kids (i.Regs at k xs) ok w none = values_legal scope widths kids (reg_values_of xs) ok w none
plain_legal scope widths kids (i.Assigns at xs) ok w none = drives_legal scope widths kids xs (drives_fit scope widths xs ok w none)
plain_legal scope widths kids (i.Combinational at body) ok w none = (combinational_legal scope widths kids body ok w none at, tt)
plain_legal scope widths kids (i.Clocked at n body) ok w none = (clocked_legal scope widths kids body ok w none at, tt)
plain_legal scope widths kids other ok w none = tt

-- ---- nodes and blocks of items

pub nodes_legal : (widths : List ℕ) (kids : ℕ → List ℕ) (xs : List PlacedItem) → AreLegalItems widths kids xs
    → Each (λ (n : UnitNode). is_legal_unit_node widths kids n ≡ true) (nodes_in xs)
nodes_legal widths kids [] h = tt
nodes_legal widths kids (x ∷ xs) h = by x.body h.0 (nodes_legal widths kids xs h.1)
  where
    by : (b : SizedBody) → IsLegalBody widths kids b → Each (λ (n : UnitNode). is_legal_unit_node widths kids n ≡ true) (nodes_in xs)
        → Each (λ (n : UnitNode). is_legal_unit_node widths kids n ≡ true) (node_in b ++ nodes_in xs)
    by (Node node) one rest = (one, rest)
    by (Clocked st) one rest = rest
    by (Initial s) one rest = rest

pub blocks_legal : (widths : List ℕ) (kids : ℕ → List ℕ) (xs : List PlacedItem) → AreLegalItems widths kids xs
    → Each (λ (st : SizedStmt). is_legal_block widths st ≡ true) (blocks_in xs)
blocks_legal widths kids [] h = tt
blocks_legal widths kids (x ∷ xs) h = by x.body h.0 (blocks_legal widths kids xs h.1)
  where
    by : (b : SizedBody) → IsLegalBody widths kids b → Each (λ (st : SizedStmt). is_legal_block widths st ≡ true) (blocks_in xs)
        → Each (λ (st : SizedStmt). is_legal_block widths st ≡ true) (block_in b ++ blocks_in xs)
    by (Node node) one rest = rest
    by (Clocked st) one rest = (one, rest)
    by (Initial s) one rest = rest
