-- An item without a generate construct that stands for tokens stands without places for the tokens without theirs.
use Rattle.std.proofs.Common.{◌≢◌, List, map}
use Rattle.verilog_lex.specs.declared.token.Token.{Token}
use Rattle.verilog_lex.specs.declared.kind.Kind.{Kind}
use Rattle.verilog_lex.specs.declared.kind.Kind.TheVariants as k
use Rattle.verilog_ast.specs.Places.{no_place}
use Rattle.version_swap.proofs.BareForms.{bare_continuous, bare_plain_item, bare_tokens}
use Rattle.version_swap.proofs.BareTokens.{at_next, takes_so}
use Rattle.version_swap.proofs.BareSpells.{spells_so}
use Rattle.verilog_parse.specs.Items.{Phrase, Spells, APlainItem, AnEvent, Trigger, EdgeEnd, Assignments, AssignmentsBehind, OtherAssignments, AContinuous, wire_item, reg_item, local_item, genvar_item, assign_item, always_item, instances_item, at_all, at_bracket, at_inputs, at_edge, edge_end, assignments, assignments_behind, no_assignment, another_assignment, continuous}
use Rattle.version_swap.proofs.BareDeclaration.{declaration_so}
use Rattle.version_swap.proofs.BareStatement.{statement_so}

abbrev pub bare_phrase : Phrase → Phrase
bare_phrase (APlainItem x) = APlainItem (bare_plain_item x)
bare_phrase (AnEvent x y) = AnEvent no_place (bare_plain_item y)
bare_phrase (Trigger x y) = Trigger no_place (bare_plain_item y)
bare_phrase EdgeEnd = EdgeEnd
bare_phrase (Assignments x) = Assignments (map bare_continuous x)
bare_phrase (AssignmentsBehind x y) = AssignmentsBehind (bare_continuous x) (map bare_continuous y)
bare_phrase (OtherAssignments x) = OtherAssignments (map bare_continuous x)
bare_phrase (AContinuous x) = AContinuous (bare_continuous x)

pub item_so : {phrase : Phrase} {s r : List Token} → Spells phrase s r
    → Spells (bare_phrase phrase) (bare_tokens s) (bare_tokens r)
item_so (wire_item h i j o) = wire_item (takes_so h) (declaration_so i) (declaration_so j) (takes_so o)
item_so (reg_item h i j o) = reg_item (takes_so h) (declaration_so i) (declaration_so j) (takes_so o)
item_so (local_item h i j o) = local_item (takes_so h) (declaration_so i) (declaration_so j) (takes_so o)
item_so (genvar_item h i j) = genvar_item (takes_so h) (declaration_so i) (takes_so j)
item_so (assign_item h i j) = assign_item (takes_so h) (item_so i) (takes_so j)
item_so (always_item h i j) = always_item (takes_so h) (takes_so i) (item_so j)
item_so (instances_item h i j o) = instances_item (takes_so h) (declaration_so i) (declaration_so j) (takes_so o)
item_so (at_all h i) = at_all (takes_so h) (statement_so i)
item_so (at_bracket h i) = at_bracket (takes_so h) (item_so i)
item_so (at_inputs h i j) = at_inputs (takes_so h) (takes_so i) (statement_so j)
item_so (at_edge h i j o) = at_edge (takes_so h) (takes_so i) (item_so j) (statement_so o)
item_so (edge_end h) = edge_end (takes_so h)
item_so (assignments h i) = assignments (item_so h) (item_so i)
item_so (assignments_behind h) = assignments_behind (item_so h)
item_so (no_assignment {s = s} h) = no_assignment (at_next s (λ (kind : Kind). kind ≢ k.Comma) h)
item_so (another_assignment h i j) = another_assignment (takes_so h) (item_so i) (item_so j)
item_so (continuous h i j) = continuous (statement_so h) (takes_so i) (spells_so j)
