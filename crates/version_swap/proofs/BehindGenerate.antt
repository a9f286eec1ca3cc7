-- An item of a generate block that ends before the last tokens stands there whatever is behind these.
use Rattle.std.proofs.Common.{◌≢◌, ◌≡◌, List, true, false}
use Rattle.verilog_lex.specs.declared.token.Token.{Token}
use Rattle.verilog_lex.specs.declared.kind.Kind.{Kind}
use Rattle.verilog_lex.specs.declared.kind.Kind.TheVariants as k
use Rattle.verilog_expr.specs.Grammar.{begins_generate_item}
use Rattle.verilog_parse.specs.Generates.{Phrase, Spells, no_item, another_item, loop_item, if_item, plain_item, generate_loop, loop_head, block, branch, otherwise, branches_behind, no_branch, another_branch, last_branch}
use Rattle.version_swap.proofs.Behind.{IsBefore, Behind, stays, at_behind, token_behind}
use Rattle.version_swap.proofs.BehindItem.{item_behind}
use Rattle.version_swap.proofs.BehindDeclaration.{declaration_behind}
use Rattle.version_swap.proofs.BehindExpression.{expression_behind}

pub generate_behind : {r e : List Token} {phrase : Phrase} {s a p : List Token} → Spells phrase s a → IsBefore r e a p
    → Behind r e (Spells phrase) s p
generate_behind (no_item h) b = stays b (no_item (at_behind (λ (kind : Kind). begins_generate_item kind ≡ false) b h))
generate_behind (another_item h i j) b =
    let j' = generate_behind j b in let i' = generate_behind i j'.before in
    record {
      start = i'.start;
      before = i'.before;
      tree = another_item
          (at_behind (λ (kind : Kind). begins_generate_item kind ≡ true) i'.before h) i'.tree j'.tree;
    }
generate_behind (loop_item h i) b =
    let i' = generate_behind i b in
    record { start = i'.start; before = i'.before; tree = loop_item (at_behind (λ (kind : Kind). k.For ≡ kind) i'.before h) i'.tree }
generate_behind (if_item h i j) b =
    let j' = generate_behind j b in let i' = generate_behind i j'.before in
    record { start = i'.start; before = i'.before; tree = if_item (at_behind (λ (kind : Kind). k.If ≡ kind) i'.before h) i'.tree j'.tree }
generate_behind (plain_item h i j) b =
    let j' = item_behind j b in
    record {
      start = j'.start;
      before = j'.before;
      tree = plain_item (at_behind (λ (kind : Kind). kind ≢ k.For) j'.before h)
          (at_behind (λ (kind : Kind). kind ≢ k.If) j'.before i) j'.tree;
    }
generate_behind (generate_loop h i j o q) b =
    let q' = generate_behind q b in let o' = token_behind o q'.before in let j' = generate_behind j o'.before in
    let i' = token_behind i j'.before in let h' = token_behind h i'.before in
    record { start = h'.start; before = h'.before; tree = generate_loop h'.tree i'.tree j'.tree o'.tree q'.tree }
generate_behind (loop_head h i j o q) b =
    let q' = declaration_behind q b in let o' = token_behind o q'.before in let j' = expression_behind j o'.before in
    let i' = token_behind i j'.before in let h' = declaration_behind h i'.before in
    record { start = h'.start; before = h'.before; tree = loop_head h'.tree i'.tree j'.tree o'.tree q'.tree }
generate_behind (block h i j o q) b =
    let q' = token_behind q b in let o' = generate_behind o q'.before in let j' = token_behind j o'.before in let i' = token_behind i j'.before in
    let h' = token_behind h i'.before in record { start = h'.start; before = h'.before; tree = block h'.tree i'.tree j'.tree o'.tree q'.tree }
generate_behind (branch h i j o q) b =
    let q' = generate_behind q b in let o' = token_behind o q'.before in let j' = expression_behind j o'.before in
    let i' = token_behind i j'.before in let h' = token_behind h i'.before in
    record { start = h'.start; before = h'.before; tree = branch h'.tree i'.tree j'.tree o'.tree q'.tree }
generate_behind (otherwise h) b = let h' = generate_behind h b in record { start = h'.start; before = h'.before; tree = otherwise h'.tree }
generate_behind (branches_behind h) b =
    let h' = generate_behind h b in record { start = h'.start; before = h'.before; tree = branches_behind h'.tree }
generate_behind (no_branch h) b = stays b (no_branch (at_behind (λ (kind : Kind). kind ≢ k.Else) b h))
generate_behind (another_branch h i j o) b =
    let o' = generate_behind o b in let j' = generate_behind j o'.before in let h' = token_behind h j'.before in
    record {
      start = h'.start;
      before = h'.before;
      tree = another_branch h'.tree
          (at_behind (λ (kind : Kind). k.If ≡ kind) j'.before i) j'.tree o'.tree;
    }
generate_behind (last_branch h i j) b =
    let j' = generate_behind j b in let h' = token_behind h j'.before in
    record { start = h'.start; before = h'.before; tree = last_branch h'.tree (at_behind (λ (kind : Kind). kind ≢ k.If) j'.before i) j'.tree }
