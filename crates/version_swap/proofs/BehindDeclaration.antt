-- A declaration that ends before the last tokens stands there whatever is behind these.
use Rattle.std.proofs.Common.{◌≢◌, ◌≡◌, sym, subst, List, true, false}
use Rattle.ls_text.specs.declared.place.Place.{Place}
use Rattle.verilog_lex.specs.declared.token.Token.{Token}
use Rattle.verilog_lex.specs.declared.kind.Kind.{Kind}
use Rattle.verilog_lex.specs.declared.kind.Kind.TheVariants as k
use Rattle.verilog_expr.specs.Grammar.{begins_expression}
use Rattle.verilog_decl.specs.Declarations.{Phrase, Spells, AnOrdered, shape, not_signed, is_signed, no_range, a_range, no_wire, a_wire, no_net, net_wire, net_reg, names, names_behind, no_name, another_name, variable, no_value, a_value, variables, variables_behind, no_variable, another_variable, reg_variable, reg_variables, reg_variables_behind, no_reg_variable, another_reg_variable, parameter, parameters, parameters_behind, no_parameter, another_parameter, no_override, an_override, instances, instances_behind, no_instance, another_instance, instance_, by_name, by_order, named, named_behind, no_named, another_named, ordered, ordered_behind, no_ordered, another_ordered, no_expression, an_expression}
use Rattle.version_swap.proofs.Behind.{IsBefore, Behind, stays, at_behind, token_behind}
use Rattle.version_swap.proofs.BehindExpression.{expression_behind}

pub declaration_behind : {r e : List Token} {phrase : Phrase} {s a p : List Token} → Spells phrase s a → IsBefore r e a p
    → Behind r e (Spells phrase) s p
declaration_behind (shape h i) b =
    let i' = declaration_behind i b in let h' = declaration_behind h i'.before in
    record { start = h'.start; before = h'.before; tree = shape h'.tree i'.tree }
declaration_behind (not_signed h) b = stays b (not_signed (at_behind (λ (kind : Kind). kind ≢ k.Signed) b h))
declaration_behind (is_signed h) b = let h' = token_behind h b in record { start = h'.start; before = h'.before; tree = is_signed h'.tree }
declaration_behind (no_range h) b = stays b (no_range (at_behind (λ (kind : Kind). kind ≢ k.LeftBracket) b h))
declaration_behind (a_range h i) b =
    let i' = expression_behind i b in
    record { start = i'.start; before = i'.before; tree = a_range (at_behind (λ (kind : Kind). k.LeftBracket ≡ kind) i'.before h) i'.tree }
declaration_behind (no_wire h) b = stays b (no_wire (at_behind (λ (kind : Kind). kind ≢ k.Wire) b h))
declaration_behind (a_wire h) b = let h' = token_behind h b in record { start = h'.start; before = h'.before; tree = a_wire h'.tree }
declaration_behind (no_net h i) b =
    stays b (no_net (at_behind (λ (kind : Kind). kind ≢ k.Wire) b h) (at_behind (λ (kind : Kind). kind ≢ k.Reg) b i))
declaration_behind (net_wire h) b = let h' = token_behind h b in record { start = h'.start; before = h'.before; tree = net_wire h'.tree }
declaration_behind (net_reg h) b = let h' = token_behind h b in record { start = h'.start; before = h'.before; tree = net_reg h'.tree }
declaration_behind (names h i) b =
    let i' = declaration_behind i b in let h' = token_behind h i'.before in
    record { start = h'.start; before = h'.before; tree = names h'.tree i'.tree }
declaration_behind (names_behind h) b =
    let h' = declaration_behind h b in record { start = h'.start; before = h'.before; tree = names_behind h'.tree }
declaration_behind (no_name h) b = stays b (no_name (at_behind (λ (kind : Kind). kind ≢ k.Comma) b h))
declaration_behind (another_name h i j) b =
    let j' = declaration_behind j b in let i' = token_behind i j'.before in let h' = token_behind h i'.before in
    record { start = h'.start; before = h'.before; tree = another_name h'.tree i'.tree j'.tree }
declaration_behind (variable h i) b =
    let i' = declaration_behind i b in let h' = token_behind h i'.before in
    record { start = h'.start; before = h'.before; tree = variable h'.tree i'.tree }
declaration_behind (no_value h) b = stays b (no_value (at_behind (λ (kind : Kind). kind ≢ k.Equal) b h))
declaration_behind (a_value h i) b =
    let i' = expression_behind i b in let h' = token_behind h i'.before in
    record { start = h'.start; before = h'.before; tree = a_value h'.tree i'.tree }
declaration_behind (variables h i) b =
    let i' = declaration_behind i b in let h' = declaration_behind h i'.before in
    record { start = h'.start; before = h'.before; tree = variables h'.tree i'.tree }
declaration_behind (variables_behind h) b =
    let h' = declaration_behind h b in record { start = h'.start; before = h'.before; tree = variables_behind h'.tree }
declaration_behind (no_variable h) b = stays b (no_variable (at_behind (λ (kind : Kind). kind ≢ k.Comma) b h))
declaration_behind (another_variable h i j) b =
    let j' = declaration_behind j b in let i' = declaration_behind i j'.before in let h' = token_behind h i'.before in
    record { start = h'.start; before = h'.before; tree = another_variable h'.tree i'.tree j'.tree }
declaration_behind (reg_variable h) b =
    let h' = declaration_behind h b in record { start = h'.start; before = h'.before; tree = reg_variable h'.tree }
declaration_behind (reg_variables h i) b =
    let i' = declaration_behind i b in let h' = declaration_behind h i'.before in
    record { start = h'.start; before = h'.before; tree = reg_variables h'.tree i'.tree }
declaration_behind (reg_variables_behind h) b =
    let h' = declaration_behind h b in record { start = h'.start; before = h'.before; tree = reg_variables_behind h'.tree }
declaration_behind (no_reg_variable h) b = stays b (no_reg_variable (at_behind (λ (kind : Kind). kind ≢ k.Comma) b h))
declaration_behind (another_reg_variable h i j) b =
    let j' = declaration_behind j b in let i' = declaration_behind i j'.before in let h' = token_behind h i'.before in
    record { start = h'.start; before = h'.before; tree = another_reg_variable h'.tree i'.tree j'.tree }
declaration_behind (parameter h i j) b =
    let j' = expression_behind j b in let i' = token_behind i j'.before in let h' = token_behind h i'.before in
    record { start = h'.start; before = h'.before; tree = parameter h'.tree i'.tree j'.tree }
declaration_behind (parameters h i) b =
    let i' = declaration_behind i b in let h' = declaration_behind h i'.before in
    record { start = h'.start; before = h'.before; tree = parameters h'.tree i'.tree }
declaration_behind (parameters_behind h) b =
    let h' = declaration_behind h b in record { start = h'.start; before = h'.before; tree = parameters_behind h'.tree }
declaration_behind (no_parameter h) b = stays b (no_parameter (at_behind (λ (kind : Kind). kind ≢ k.Comma) b h))
declaration_behind (another_parameter h i j) b =
    let j' = declaration_behind j b in let i' = declaration_behind i j'.before in let h' = token_behind h i'.before in
    record { start = h'.start; before = h'.before; tree = another_parameter h'.tree i'.tree j'.tree }
declaration_behind (no_override h) b = stays b (no_override (at_behind (λ (kind : Kind). kind ≢ k.Hash) b h))
declaration_behind (an_override h i j o) b =
    let o' = token_behind o b in let j' = declaration_behind j o'.before in let i' = token_behind i j'.before in
    let h' = token_behind h i'.before in record { start = h'.start; before = h'.before; tree = an_override h'.tree i'.tree j'.tree o'.tree }
declaration_behind (instances h i) b =
    let i' = declaration_behind i b in let h' = declaration_behind h i'.before in
    record { start = h'.start; before = h'.before; tree = instances h'.tree i'.tree }
declaration_behind (instances_behind h) b =
    let h' = declaration_behind h b in record { start = h'.start; before = h'.before; tree = instances_behind h'.tree }
declaration_behind (no_instance h) b = stays b (no_instance (at_behind (λ (kind : Kind). kind ≢ k.Comma) b h))
declaration_behind (another_instance h i j) b =
    let j' = declaration_behind j b in let i' = declaration_behind i j'.before in let h' = token_behind h i'.before in
    record { start = h'.start; before = h'.before; tree = another_instance h'.tree i'.tree j'.tree }
declaration_behind (instance_ h i j o) b =
    let o' = token_behind o b in let j' = declaration_behind j o'.before in let i' = token_behind i j'.before in
    let h' = token_behind h i'.before in record { start = h'.start; before = h'.before; tree = instance_ h'.tree i'.tree j'.tree o'.tree }
declaration_behind (by_name h i j) b =
    let j' = declaration_behind j b in let i' = declaration_behind i j'.before in
    record { start = i'.start; before = i'.before; tree = by_name (at_behind (λ (kind : Kind). k.Dot ≡ kind) i'.before h) i'.tree j'.tree }
declaration_behind (by_order h i j) b =
    let j' = declaration_behind j b in let i' = declaration_behind i j'.before in
    record { start = i'.start; before = i'.before; tree = by_order (at_behind (λ (kind : Kind). kind ≢ k.Dot) i'.before h) i'.tree j'.tree }
declaration_behind (named h i j o q) b =
    let q' = token_behind q b in let o' = declaration_behind o q'.before in let j' = token_behind j o'.before in
    let i' = token_behind i j'.before in let h' = token_behind h i'.before in
    record { start = h'.start; before = h'.before; tree = named h'.tree i'.tree j'.tree o'.tree q'.tree }
declaration_behind (named_behind h) b =
    let h' = declaration_behind h b in record { start = h'.start; before = h'.before; tree = named_behind h'.tree }
declaration_behind (no_named h) b = stays b (no_named (at_behind (λ (kind : Kind). kind ≢ k.Comma) b h))
declaration_behind (another_named h i j) b =
    let j' = declaration_behind j b in let i' = declaration_behind i j'.before in let h' = token_behind h i'.before in
    record { start = h'.start; before = h'.before; tree = another_named h'.tree i'.tree j'.tree }
declaration_behind {p = p} (ordered {x = x} h) b =
    let h' = declaration_behind h b in
    record {
      start = h'.start;
      before = h'.before;
      tree = subst (λ (z : Place). Spells (AnOrdered (record { at = z; value = x })) h'.start p) (sym h'.before.place) (ordered h'.tree);
    }
declaration_behind (ordered_behind h) b =
    let h' = declaration_behind h b in record { start = h'.start; before = h'.before; tree = ordered_behind h'.tree }
declaration_behind (no_ordered h) b = stays b (no_ordered (at_behind (λ (kind : Kind). kind ≢ k.Comma) b h))
declaration_behind (another_ordered h i j) b =
    let j' = declaration_behind j b in let i' = declaration_behind i j'.before in let h' = token_behind h i'.before in
    record { start = h'.start; before = h'.before; tree = another_ordered h'.tree i'.tree j'.tree }
declaration_behind (no_expression h) b = stays b (no_expression (at_behind (λ (kind : Kind). begins_expression kind ≡ false) b h))
declaration_behind (an_expression h i) b =
    let i' = expression_behind i b in
    record {
      start = i'.start;
      before = i'.before;
      tree = an_expression
          (at_behind (λ (kind : Kind). begins_expression kind ≡ true) i'.before h) i'.tree;
    }
