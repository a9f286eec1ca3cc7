-- The items of a module but for instances: their sized items with places, and what may be wrong with one (IEEE Std 1364-2005, 6.1, 9.2, 9.9).
use Rattle.std.specs.Prelude.{if◌then◌else◌, List, [], ◌∷◌, map}
use Rattle.ls_text.specs.declared.fault.Fault.{Fault}
use Rattle.ls_text.specs.declared.place.Place.{Place}
use Rattle.typed_ir.specs.Nodes.{Drive, Block, known_lanes}
use Rattle.typed_ir.specs.Trees.{Own}
use Rattle.typed_ir.specs.Items.{PlacedItem, Node, Clocked, Initial}
use Rattle.verilog_ast.specs.Items as i
use Rattle.verilog_ast.specs.Items.{ContinuousAssignment, ModuleItem}
use Rattle.verilog_ast.specs.Statements.{Statement}
use Rattle.verilog_ast.specs.Places.{target_place}
use Rattle.width_rules.specs.declared.writer.Writer.TheVariants as writer
use Rattle.width_rules.specs.Scopes.{Scope}
use Rattle.statement_rules.specs.Drives.{assign_faults}
use Rattle.statement_rules.specs.Statements.{assigned, sized_statement, statement_faults}
use Rattle.statement_rules.specs.Targets.{target_length, parts}
use Rattle.width_rules.specs.Forms.{target_form, statement_shown}
use Rattle.width_rules.specs.Mentions.{numbered, statement_reads, statement_targets}
use Rattle.width_rules.specs.Names.{target_names}
use Rattle.statement_rules.specs.declared.value_kind.ValueKind.TheVariants as kind
use Rattle.statement_rules.specs.DeclaredValues.{kind_of_net, DeclaredValue, InitialValue, values_of, reg_values_of, as_assignment, is_net_value, signal_in, declaration_faults, declaration_initials}

-- ---- continuous assignments (6.1)

abbrev pub drive_item : Scope → ContinuousAssignment → PlacedItem
drive_item scope x = record {
  body = Node (Own (Drive (target_form scope x.target) (known_lanes (parts scope 0 x.target)) (assigned scope (target_length scope x.target) x.value)));
  at = target_place x.target;
  targets = numbered 0 (target_names x.target);
  reads = [];
}

-- ---- declarations with values (6.1.1, 6.2.1)

abbrev pub initial_item : Scope → DeclaredValue → PlacedItem
initial_item scope x = record {
  body = Initial (signal_in (scope x.name.name.0));
  at = x.name.at;
  targets = numbered 0 (x.name ∷ []);
  reads = [];
}

abbrev pub value_item : Scope → DeclaredValue → PlacedItem
value_item scope x = if is_net_value scope x then drive_item scope (as_assignment x) else initial_item scope x

-- ---- blocks (9.2, 9.9)

abbrev pub combinational_item : Scope → Place → Statement → PlacedItem
combinational_item scope at body = record {
  body = Node (Own (Block (statement_shown scope body) (sized_statement scope writer.Combinational body)));
  at = at;
  targets = statement_targets 0 body;
  reads = statement_reads scope 0 body;
}

abbrev pub clocked_item : Scope → Place → Statement → PlacedItem
clocked_item scope at body = record {
  body = Clocked (sized_statement scope writer.Clocked body);
  at = at;
  targets = statement_targets 0 body;
  reads = statement_reads scope 0 body;
}

-- ---- items; instances have theirs elsewhere

abbrev pub plain_items : Scope → ModuleItem → List PlacedItem
plain_items scope (i.Outputs at n k xs) = map (value_item scope) (values_of (kind_of_net n) xs)
plain_items scope (i.Wires at k xs) = map (value_item scope) (values_of kind.Net xs)
plain_items scope (i.Regs at k xs) = map (value_item scope) (reg_values_of xs)
plain_items scope (i.Assigns at xs) = map (drive_item scope) xs
plain_items scope (i.Combinational at body) = combinational_item scope at body ∷ []
plain_items scope (i.Clocked at n body) = clocked_item scope at body ∷ []
plain_items scope other = []

abbrev pub plain_initials : Scope → ModuleItem → List InitialValue
plain_initials scope (i.Outputs at n k xs) = declaration_initials scope (values_of (kind_of_net n) xs)
plain_initials scope (i.Wires at k xs) = declaration_initials scope (values_of kind.Net xs)
plain_initials scope (i.Regs at k xs) = declaration_initials scope (reg_values_of xs)
plain_initials scope other = []

abbrev pub plain_faults : Scope → ModuleItem → List Fault
plain_faults scope (i.Outputs at n k xs) = declaration_faults scope (values_of (kind_of_net n) xs)
plain_faults scope (i.Wires at k xs) = declaration_faults scope (values_of kind.Net xs)
plain_faults scope (i.Regs at k xs) = declaration_faults scope (reg_values_of xs)
plain_faults scope (i.Assigns at xs) = assign_faults scope xs
plain_faults scope (i.Combinational at body) = statement_faults scope writer.Combinational body
plain_faults scope (i.Clocked at n body) = statement_faults scope writer.Clocked body
plain_faults scope other = []
