-- A statement that ends before the last tokens stands there whatever is behind these.
use Rattle.std.proofs.Common.{◌≢◌, ◌≡◌, List, true, false}
use Rattle.verilog_lex.specs.declared.token.Token.{Token}
use Rattle.verilog_lex.specs.declared.kind.Kind.{Kind}
use Rattle.verilog_lex.specs.declared.kind.Kind.TheVariants as k
use Rattle.verilog_expr.specs.Grammar.{begins_arm, begins_statement}
use Rattle.verilog_stmt.specs.Statements.{Phrase, Spells, target_name, target_braces, braces, targets_behind, no_target, another_target, empty, block, if_, case_, casez_, assign_name, assign_braces, no_statement, another_statement, branch, if_alone, if_else, choice, arms_behind, no_arm, another_arm, default, matching, colon, no_colon, case_label, casez_value, casez_pattern, labels_behind, no_other_label, another_label, no_label, a_label, assigns, blocking, nonblocking}
use Rattle.version_swap.proofs.Behind.{IsBefore, Behind, stays, at_behind, token_behind}
use Rattle.version_swap.proofs.BehindExpression.{expression_behind}

pub statement_behind : {r e : List Token} {phrase : Phrase} {s a p : List Token} → Spells phrase s a → IsBefore r e a p
    → Behind r e (Spells phrase) s p
statement_behind (target_name h i) b =
    let i' = expression_behind i b in let h' = token_behind h i'.before in
    record { start = h'.start; before = h'.before; tree = target_name h'.tree i'.tree }
statement_behind (target_braces h i) b =
    let i' = statement_behind i b in let h' = token_behind h i'.before in
    record { start = h'.start; before = h'.before; tree = target_braces h'.tree i'.tree }
statement_behind (braces h i j) b =
    let j' = token_behind j b in let i' = statement_behind i j'.before in let h' = statement_behind h i'.before in
    record { start = h'.start; before = h'.before; tree = braces h'.tree i'.tree j'.tree }
statement_behind (targets_behind h) b =
    let h' = statement_behind h b in record { start = h'.start; before = h'.before; tree = targets_behind h'.tree }
statement_behind (no_target h) b = stays b (no_target (at_behind (λ (kind : Kind). kind ≢ k.Comma) b h))
statement_behind (another_target h i j) b =
    let j' = statement_behind j b in let i' = statement_behind i j'.before in let h' = token_behind h i'.before in
    record { start = h'.start; before = h'.before; tree = another_target h'.tree i'.tree j'.tree }
statement_behind (empty h) b = let h' = token_behind h b in record { start = h'.start; before = h'.before; tree = empty h'.tree }
statement_behind (block h i j o) b =
    let o' = token_behind o b in let j' = statement_behind j o'.before in let i' = statement_behind i j'.before in
    let h' = token_behind h i'.before in record { start = h'.start; before = h'.before; tree = block h'.tree i'.tree j'.tree o'.tree }
statement_behind (if_ h i) b =
    let i' = statement_behind i b in let h' = token_behind h i'.before in
    record { start = h'.start; before = h'.before; tree = if_ h'.tree i'.tree }
statement_behind (case_ h i) b =
    let i' = statement_behind i b in let h' = token_behind h i'.before in
    record { start = h'.start; before = h'.before; tree = case_ h'.tree i'.tree }
statement_behind (casez_ h i) b =
    let i' = statement_behind i b in let h' = token_behind h i'.before in
    record { start = h'.start; before = h'.before; tree = casez_ h'.tree i'.tree }
statement_behind (assign_name h i j) b =
    let j' = statement_behind j b in let i' = expression_behind i j'.before in let h' = token_behind h i'.before in
    record { start = h'.start; before = h'.before; tree = assign_name h'.tree i'.tree j'.tree }
statement_behind (assign_braces h i j) b =
    let j' = statement_behind j b in let i' = statement_behind i j'.before in let h' = token_behind h i'.before in
    record { start = h'.start; before = h'.before; tree = assign_braces h'.tree i'.tree j'.tree }
statement_behind (no_statement h) b = stays b (no_statement (at_behind (λ (kind : Kind). begins_statement kind ≡ false) b h))
statement_behind (another_statement h i j) b =
    let j' = statement_behind j b in let i' = statement_behind i j'.before in
    record {
      start = i'.start;
      before = i'.before;
      tree = another_statement
          (at_behind (λ (kind : Kind). begins_statement kind ≡ true) i'.before h) i'.tree j'.tree;
    }
statement_behind (branch h i j o q) b =
    let q' = statement_behind q b in let o' = statement_behind o q'.before in let j' = token_behind j o'.before in
    let i' = expression_behind i j'.before in let h' = token_behind h i'.before in
    record { start = h'.start; before = h'.before; tree = branch h'.tree i'.tree j'.tree o'.tree q'.tree }
statement_behind (if_alone h) b = stays b (if_alone (at_behind (λ (kind : Kind). kind ≢ k.Else) b h))
statement_behind (if_else h i) b =
    let i' = statement_behind i b in let h' = token_behind h i'.before in
    record { start = h'.start; before = h'.before; tree = if_else h'.tree i'.tree }
statement_behind (choice h i j o q w) b =
    let w' = token_behind w b in let q' = statement_behind q w'.before in let o' = statement_behind o q'.before in
    let j' = token_behind j o'.before in let i' = expression_behind i j'.before in let h' = token_behind h i'.before in
    record { start = h'.start; before = h'.before; tree = choice h'.tree i'.tree j'.tree o'.tree q'.tree w'.tree }
statement_behind (arms_behind h) b = let h' = statement_behind h b in record { start = h'.start; before = h'.before; tree = arms_behind h'.tree }
statement_behind (no_arm {which = which} h) b = stays b (no_arm (at_behind (λ (kind : Kind). begins_arm which kind ≡ false) b h))
statement_behind (another_arm {which = which} h i j) b =
    let j' = statement_behind j b in let i' = statement_behind i j'.before in
    record {
      start = i'.start;
      before = i'.before;
      tree = another_arm
          (at_behind (λ (kind : Kind). begins_arm which kind ≡ true) i'.before h) i'.tree j'.tree;
    }
statement_behind (default h i j) b =
    let j' = statement_behind j b in let i' = statement_behind i j'.before in let h' = token_behind h i'.before in
    record { start = h'.start; before = h'.before; tree = default h'.tree i'.tree j'.tree }
statement_behind (matching h i j o q) b =
    let q' = statement_behind q b in let o' = token_behind o q'.before in let j' = statement_behind j o'.before in
    let i' = statement_behind i j'.before in
    record {
      start = i'.start;
      before = i'.before;
      tree = matching
          (at_behind (λ (kind : Kind). kind ≢ k.Default) i'.before h) i'.tree j'.tree o'.tree q'.tree;
    }
statement_behind (colon h) b = let h' = token_behind h b in record { start = h'.start; before = h'.before; tree = colon h'.tree }
statement_behind (no_colon h) b = stays b (no_colon (at_behind (λ (kind : Kind). kind ≢ k.Colon) b h))
statement_behind (case_label h) b = let h' = expression_behind h b in record { start = h'.start; before = h'.before; tree = case_label h'.tree }
statement_behind (casez_value h i) b =
    let i' = expression_behind i b in
    record { start = i'.start; before = i'.before; tree = casez_value (at_behind (λ (kind : Kind). kind ≢ k.Wild) i'.before h) i'.tree }
statement_behind (casez_pattern h) b = let h' = token_behind h b in record { start = h'.start; before = h'.before; tree = casez_pattern h'.tree }
statement_behind (labels_behind h) b =
    let h' = statement_behind h b in record { start = h'.start; before = h'.before; tree = labels_behind h'.tree }
statement_behind (no_other_label h) b = stays b (no_other_label (at_behind (λ (kind : Kind). kind ≢ k.Comma) b h))
statement_behind (another_label h i j) b =
    let j' = statement_behind j b in let i' = statement_behind i j'.before in let h' = token_behind h i'.before in
    record { start = h'.start; before = h'.before; tree = another_label h'.tree i'.tree j'.tree }
statement_behind (no_label h) b = stays b (no_label (at_behind (λ (kind : Kind). kind ≢ k.Colon) b h))
statement_behind (a_label h i) b =
    let i' = token_behind i b in let h' = token_behind h i'.before in
    record { start = h'.start; before = h'.before; tree = a_label h'.tree i'.tree }
statement_behind (assigns h i j) b =
    let j' = token_behind j b in let i' = expression_behind i j'.before in let h' = statement_behind h i'.before in
    record { start = h'.start; before = h'.before; tree = assigns h'.tree i'.tree j'.tree }
statement_behind (blocking h) b = let h' = token_behind h b in record { start = h'.start; before = h'.before; tree = blocking h'.tree }
statement_behind (nonblocking h) b = let h' = token_behind h b in record { start = h'.start; before = h'.before; tree = nonblocking h'.tree }
