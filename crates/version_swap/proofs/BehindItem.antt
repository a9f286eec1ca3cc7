-- An item without a generate construct that ends before the last tokens stands there whatever is behind these.
use Rattle.std.proofs.Common.{◌≢◌, List}
use Rattle.verilog_lex.specs.declared.token.Token.{Token}
use Rattle.verilog_lex.specs.declared.kind.Kind.{Kind}
use Rattle.verilog_lex.specs.declared.kind.Kind.TheVariants as k
use Rattle.verilog_parse.specs.Items.{Phrase, Spells, wire_item, reg_item, local_item, genvar_item, assign_item, always_item, instances_item, at_all, at_bracket, at_inputs, at_edge, edge_end, assignments, assignments_behind, no_assignment, another_assignment, continuous}
use Rattle.version_swap.proofs.Behind.{IsBefore, Behind, stays, at_behind, token_behind}
use Rattle.version_swap.proofs.BehindDeclaration.{declaration_behind}
use Rattle.version_swap.proofs.BehindStatement.{statement_behind}
use Rattle.version_swap.proofs.BehindExpression.{expression_behind}

pub item_behind : {r e : List Token} {phrase : Phrase} {s a p : List Token} → Spells phrase s a → IsBefore r e a p
    → Behind r e (Spells phrase) s p
item_behind (wire_item h i j o) b =
    let o' = token_behind o b in let j' = declaration_behind j o'.before in let i' = declaration_behind i j'.before in
    let h' = token_behind h i'.before in record { start = h'.start; before = h'.before; tree = wire_item h'.tree i'.tree j'.tree o'.tree }
item_behind (reg_item h i j o) b =
    let o' = token_behind o b in let j' = declaration_behind j o'.before in let i' = declaration_behind i j'.before in
    let h' = token_behind h i'.before in record { start = h'.start; before = h'.before; tree = reg_item h'.tree i'.tree j'.tree o'.tree }
item_behind (local_item h i j o) b =
    let o' = token_behind o b in let j' = declaration_behind j o'.before in let i' = declaration_behind i j'.before in
    let h' = token_behind h i'.before in record { start = h'.start; before = h'.before; tree = local_item h'.tree i'.tree j'.tree o'.tree }
item_behind (genvar_item h i j) b =
    let j' = token_behind j b in let i' = declaration_behind i j'.before in let h' = token_behind h i'.before in
    record { start = h'.start; before = h'.before; tree = genvar_item h'.tree i'.tree j'.tree }
item_behind (assign_item h i j) b =
    let j' = token_behind j b in let i' = item_behind i j'.before in let h' = token_behind h i'.before in
    record { start = h'.start; before = h'.before; tree = assign_item h'.tree i'.tree j'.tree }
item_behind (always_item h i j) b =
    let j' = item_behind j b in let i' = token_behind i j'.before in let h' = token_behind h i'.before in
    record { start = h'.start; before = h'.before; tree = always_item h'.tree i'.tree j'.tree }
item_behind (instances_item h i j o) b =
    let o' = token_behind o b in let j' = declaration_behind j o'.before in let i' = declaration_behind i j'.before in
    let h' = token_behind h i'.before in record { start = h'.start; before = h'.before; tree = instances_item h'.tree i'.tree j'.tree o'.tree }
item_behind (at_all h i) b =
    let i' = statement_behind i b in let h' = token_behind h i'.before in
    record { start = h'.start; before = h'.before; tree = at_all h'.tree i'.tree }
item_behind (at_bracket h i) b =
    let i' = item_behind i b in let h' = token_behind h i'.before in
    record { start = h'.start; before = h'.before; tree = at_bracket h'.tree i'.tree }
item_behind (at_inputs h i j) b =
    let j' = statement_behind j b in let i' = token_behind i j'.before in let h' = token_behind h i'.before in
    record { start = h'.start; before = h'.before; tree = at_inputs h'.tree i'.tree j'.tree }
item_behind (at_edge h i j o) b =
    let o' = statement_behind o b in let j' = item_behind j o'.before in let i' = token_behind i j'.before in let h' = token_behind h i'.before in
    record { start = h'.start; before = h'.before; tree = at_edge h'.tree i'.tree j'.tree o'.tree }
item_behind (edge_end h) b = let h' = token_behind h b in record { start = h'.start; before = h'.before; tree = edge_end h'.tree }
item_behind (assignments h i) b =
    let i' = item_behind i b in let h' = item_behind h i'.before in
    record { start = h'.start; before = h'.before; tree = assignments h'.tree i'.tree }
item_behind (assignments_behind h) b =
    let h' = item_behind h b in record { start = h'.start; before = h'.before; tree = assignments_behind h'.tree }
item_behind (no_assignment h) b = stays b (no_assignment (at_behind (λ (kind : Kind). kind ≢ k.Comma) b h))
item_behind (another_assignment h i j) b =
    let j' = item_behind j b in let i' = item_behind i j'.before in let h' = token_behind h i'.before in
    record { start = h'.start; before = h'.before; tree = another_assignment h'.tree i'.tree j'.tree }
item_behind (continuous h i j) b =
    let j' = expression_behind j b in let i' = token_behind i j'.before in let h' = statement_behind h i'.before in
    record { start = h'.start; before = h'.before; tree = continuous h'.tree i'.tree j'.tree }
