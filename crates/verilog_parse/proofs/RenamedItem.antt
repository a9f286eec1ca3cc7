-- An item without a generate construct that stands for tokens stands under other names for the tokens under these.
use Rattle.std.proofs.Common.{◌≢◌, List, map}
use Rattle.ls_text.specs.declared.name_id.NameId.{NameId}
use Rattle.verilog_lex.specs.declared.token.Token.{Token}
use Rattle.verilog_lex.specs.declared.kind.Kind.{Kind}
use Rattle.verilog_lex.specs.declared.kind.Kind.TheVariants as k
use Rattle.verilog_ast.specs.Renamed.{renamed_continuous, renamed_plain_item}
use Rattle.verilog_expr.specs.Renamed.{retokens}
use Rattle.verilog_expr.proofs.RenamedTokens.{at_next, takes_so}
use Rattle.verilog_expr.proofs.RenamedSpells.{spells_so}
use Rattle.verilog_parse.specs.Items.{Phrase, Spells, APlainItem, AnEvent, Trigger, EdgeEnd, Assignments, AssignmentsBehind, OtherAssignments, AContinuous, wire_item, reg_item, local_item, genvar_item, assign_item, always_item, instances_item, at_all, at_bracket, at_inputs, at_edge, edge_end, assignments, assignments_behind, no_assignment, another_assignment, continuous}
use Rattle.verilog_decl.proofs.RenamedDeclaration.{declaration_so}
use Rattle.verilog_stmt.proofs.RenamedStatement.{statement_so}

abbrev pub renamed_phrase : (NameId → NameId) → Phrase → Phrase
renamed_phrase f (APlainItem x) = APlainItem (renamed_plain_item f x)
renamed_phrase f (AnEvent x y) = AnEvent x (renamed_plain_item f y)
renamed_phrase f (Trigger x y) = Trigger x (renamed_plain_item f y)
renamed_phrase f EdgeEnd = EdgeEnd
renamed_phrase f (Assignments x) = Assignments (map (renamed_continuous f) x)
renamed_phrase f (AssignmentsBehind x y) = AssignmentsBehind (renamed_continuous f x) (map (renamed_continuous f) y)
renamed_phrase f (OtherAssignments x) = OtherAssignments (map (renamed_continuous f) x)
renamed_phrase f (AContinuous x) = AContinuous (renamed_continuous f x)

pub item_so : (f : NameId → NameId) {phrase : Phrase} {s r : List Token} → Spells phrase s r
    → Spells (renamed_phrase f phrase) (retokens f s) (retokens f r)
item_so f (wire_item h i j o) = wire_item (takes_so f h) (declaration_so f i) (declaration_so f j) (takes_so f o)
item_so f (reg_item h i j o) = reg_item (takes_so f h) (declaration_so f i) (declaration_so f j) (takes_so f o)
item_so f (local_item h i j o) = local_item (takes_so f h) (declaration_so f i) (declaration_so f j) (takes_so f o)
item_so f (genvar_item h i j) = genvar_item (takes_so f h) (declaration_so f i) (takes_so f j)
item_so f (assign_item h i j) = assign_item (takes_so f h) (item_so f i) (takes_so f j)
item_so f (always_item h i j) = always_item (takes_so f h) (takes_so f i) (item_so f j)
item_so f (instances_item h i j o) = instances_item (takes_so f h) (declaration_so f i) (declaration_so f j) (takes_so f o)
item_so f (at_all h i) = at_all (takes_so f h) (statement_so f i)
item_so f (at_bracket h i) = at_bracket (takes_so f h) (item_so f i)
item_so f (at_inputs h i j) = at_inputs (takes_so f h) (takes_so f i) (statement_so f j)
item_so f (at_edge h i j o) = at_edge (takes_so f h) (takes_so f i) (item_so f j) (statement_so f o)
item_so f (edge_end h) = edge_end (takes_so f h)
item_so f (assignments h i) = assignments (item_so f h) (item_so f i)
item_so f (assignments_behind h) = assignments_behind (item_so f h)
item_so f (no_assignment {s = s} h) = no_assignment (at_next f s (λ (kind : Kind). kind ≢ k.Comma) h)
item_so f (another_assignment h i j) = another_assignment (takes_so f h) (item_so f i) (item_so f j)
item_so f (continuous h i j) = continuous (statement_so f h) (takes_so f i) (spells_so f j)
