-- An expression that ends before the last tokens stands there whatever is behind these.
use Rattle.std.proofs.Common.{◌≢◌, ◌≡◌, List, None}
use Rattle.verilog_lex.specs.declared.token.Token.{Token}
use Rattle.verilog_lex.specs.declared.kind.Kind.{Kind}
use Rattle.verilog_lex.specs.declared.kind.Kind.TheVariants as k
use Rattle.verilog_expr.specs.Tokens.{binary_operator}
use Rattle.verilog_expr.specs.Spells.{Phrase, Spells, plain, conditional, one, binary, number, unary, read, bracketed, braced, concatenation, replication, behind, no_other, another, whole, select, bit, part, upward, downward, range}
use Rattle.version_swap.proofs.Behind.{IsBefore, Behind, stays, at_behind, token_behind}

pub expression_behind : {r e : List Token} {phrase : Phrase} {s a p : List Token} → Spells phrase s a → IsBefore r e a p
    → Behind r e (Spells phrase) s p
expression_behind (plain h i j) b =
    let h' = expression_behind h b in
    record {
      start = h'.start;
      before = h'.before;
      tree = plain h'.tree (at_behind (λ (kind : Kind). binary_operator kind ≡ None) b i)
          (at_behind (λ (kind : Kind). kind ≢ k.Question) b j);
    }
expression_behind (conditional h i j o q) b =
    let q' = expression_behind q b in let o' = token_behind o q'.before in let j' = expression_behind j o'.before in
    let i' = token_behind i j'.before in let h' = expression_behind h i'.before in
    record { start = h'.start; before = h'.before; tree = conditional h'.tree i'.tree j'.tree o'.tree q'.tree }
expression_behind (one h) b = let h' = expression_behind h b in record { start = h'.start; before = h'.before; tree = one h'.tree }
expression_behind (binary h i j o q) b =
    let q' = expression_behind q b in let o' = token_behind o q'.before in let i' = expression_behind i o'.before in
    record { start = i'.start; before = i'.before; tree = binary h i'.tree j o'.tree q'.tree }
expression_behind (number h) b = let h' = token_behind h b in record { start = h'.start; before = h'.before; tree = number h'.tree }
expression_behind (unary h i j) b =
    let j' = expression_behind j b in let i' = token_behind i j'.before in
    record { start = i'.start; before = i'.before; tree = unary h i'.tree j'.tree }
expression_behind (read h i) b =
    let i' = expression_behind i b in let h' = token_behind h i'.before in
    record { start = h'.start; before = h'.before; tree = read h'.tree i'.tree }
expression_behind (bracketed h i j) b =
    let j' = token_behind j b in let i' = expression_behind i j'.before in let h' = token_behind h i'.before in
    record { start = h'.start; before = h'.before; tree = bracketed h'.tree i'.tree j'.tree }
expression_behind (braced h i j) b =
    let j' = expression_behind j b in let i' = expression_behind i j'.before in let h' = token_behind h i'.before in
    record { start = h'.start; before = h'.before; tree = braced h'.tree i'.tree j'.tree }
expression_behind (concatenation h i j) b =
    let j' = token_behind j b in let i' = expression_behind i j'.before in
    record {
      start = i'.start;
      before = i'.before;
      tree = concatenation
          (at_behind (λ (kind : Kind). kind ≢ k.LeftBrace) i'.before h) i'.tree j'.tree;
    }
expression_behind (replication h i j o q) b =
    let q' = token_behind q b in let o' = token_behind o q'.before in let j' = expression_behind j o'.before in
    let i' = expression_behind i j'.before in let h' = token_behind h i'.before in
    record { start = h'.start; before = h'.before; tree = replication h'.tree i'.tree j'.tree o'.tree q'.tree }
expression_behind (behind h) b = let h' = expression_behind h b in record { start = h'.start; before = h'.before; tree = behind h'.tree }
expression_behind (no_other h) b = stays b (no_other (at_behind (λ (kind : Kind). kind ≢ k.Comma) b h))
expression_behind (another h i j) b =
    let j' = expression_behind j b in let i' = expression_behind i j'.before in let h' = token_behind h i'.before in
    record { start = h'.start; before = h'.before; tree = another h'.tree i'.tree j'.tree }
expression_behind (whole h i) b =
    stays b (whole (at_behind (λ (kind : Kind). kind ≢ k.LeftBracket) b h) (at_behind (λ (kind : Kind). kind ≢ k.Dot) b i))
expression_behind (select h i j o q) b =
    let o' = token_behind o b in let j' = expression_behind j o'.before in let i' = expression_behind i j'.before in
    let h' = token_behind h i'.before in
    record { start = h'.start; before = h'.before; tree = select h'.tree i'.tree j'.tree o'.tree (at_behind (λ (kind : Kind). kind ≢ k.Dot) b q) }
expression_behind (bit h i j) b =
    stays b (bit (at_behind (λ (kind : Kind). kind ≢ k.Colon) b h) (at_behind (λ (kind : Kind). kind ≢ k.PlusColon) b i)
    (at_behind (λ (kind : Kind). kind ≢ k.MinusColon) b j))
expression_behind (part h i) b =
    let i' = expression_behind i b in let h' = token_behind h i'.before in
    record { start = h'.start; before = h'.before; tree = part h'.tree i'.tree }
expression_behind (upward h i) b =
    let i' = expression_behind i b in let h' = token_behind h i'.before in
    record { start = h'.start; before = h'.before; tree = upward h'.tree i'.tree }
expression_behind (downward h i) b =
    let i' = expression_behind i b in let h' = token_behind h i'.before in
    record { start = h'.start; before = h'.before; tree = downward h'.tree i'.tree }
expression_behind (range h i j o q) b =
    let q' = token_behind q b in let o' = expression_behind o q'.before in let j' = token_behind j o'.before in
    let i' = expression_behind i j'.before in let h' = token_behind h i'.before in
    record { start = h'.start; before = h'.before; tree = range h'.tree i'.tree j'.tree o'.tree q'.tree }
