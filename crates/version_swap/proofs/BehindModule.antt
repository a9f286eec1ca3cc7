-- A part of a module that ends before the last tokens stands there whatever is behind these.
use Rattle.std.proofs.Common.{◌≢◌, ◌≡◌, List, true, false}
use Rattle.verilog_lex.specs.declared.token.Token.{Token}
use Rattle.verilog_lex.specs.declared.kind.Kind.{Kind}
use Rattle.verilog_lex.specs.declared.kind.Kind.TheVariants as k
use Rattle.verilog_expr.specs.Grammar.{begins_item}
use Rattle.verilog_parse.specs.Modules.{Phrase, Spells, module_, no_item, another_item, input_item, output_item, parameter_item, region, other_item}
use Rattle.version_swap.proofs.Behind.{IsBefore, Behind, stays, at_behind, token_behind}
use Rattle.version_swap.proofs.BehindHeader.{header_behind}
use Rattle.version_swap.proofs.BehindDeclaration.{declaration_behind}
use Rattle.version_swap.proofs.BehindGenerate.{generate_behind}

pub module_behind : {r e : List Token} {phrase : Phrase} {s a p : List Token} → Spells phrase s a → IsBefore r e a p
    → Behind r e (Spells phrase) s p
module_behind (module_ h i j o q) b =
    let q' = token_behind q b in let o' = module_behind o q'.before in let j' = header_behind j o'.before in let i' = token_behind i j'.before in
    let h' = token_behind h i'.before in record { start = h'.start; before = h'.before; tree = module_ h'.tree i'.tree j'.tree o'.tree q'.tree }
module_behind (no_item h) b = stays b (no_item (at_behind (λ (kind : Kind). begins_item kind ≡ false) b h))
module_behind (another_item h i j) b =
    let j' = module_behind j b in let i' = module_behind i j'.before in
    record {
      start = i'.start;
      before = i'.before;
      tree = another_item
          (at_behind (λ (kind : Kind). begins_item kind ≡ true) i'.before h) i'.tree j'.tree;
    }
module_behind (input_item h i j o q) b =
    let q' = token_behind q b in let o' = declaration_behind o q'.before in let j' = declaration_behind j o'.before in
    let i' = declaration_behind i j'.before in let h' = token_behind h i'.before in
    record { start = h'.start; before = h'.before; tree = input_item h'.tree i'.tree j'.tree o'.tree q'.tree }
module_behind (output_item h i j o q) b =
    let q' = token_behind q b in let o' = declaration_behind o q'.before in let j' = declaration_behind j o'.before in
    let i' = declaration_behind i j'.before in let h' = token_behind h i'.before in
    record { start = h'.start; before = h'.before; tree = output_item h'.tree i'.tree j'.tree o'.tree q'.tree }
module_behind (parameter_item h i j o) b =
    let o' = token_behind o b in let j' = declaration_behind j o'.before in let i' = declaration_behind i j'.before in
    let h' = token_behind h i'.before in record { start = h'.start; before = h'.before; tree = parameter_item h'.tree i'.tree j'.tree o'.tree }
module_behind (region h i j) b =
    let j' = token_behind j b in let i' = generate_behind i j'.before in let h' = token_behind h i'.before in
    record { start = h'.start; before = h'.before; tree = region h'.tree i'.tree j'.tree }
module_behind (other_item h i j o q) b =
    let q' = generate_behind q b in
    record {
      start = q'.start;
      before = q'.before;
      tree = other_item (at_behind (λ (kind : Kind). kind ≢ k.Input) q'.before h)
          (at_behind (λ (kind : Kind). kind ≢ k.Output) q'.before i) (at_behind (λ (kind : Kind). kind ≢ k.Parameter) q'.before j)
          (at_behind (λ (kind : Kind). kind ≢ k.Generate) q'.before o) q'.tree;
    }
