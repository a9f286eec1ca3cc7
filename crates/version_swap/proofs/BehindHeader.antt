-- A header that ends before the last tokens stands there whatever is behind these.
use Rattle.std.proofs.Common.{◌≢◌, ◌≡◌, List}
use Rattle.verilog_lex.specs.declared.token.Token.{Token}
use Rattle.verilog_lex.specs.declared.kind.Kind.{Kind}
use Rattle.verilog_lex.specs.declared.kind.Kind.TheVariants as k
use Rattle.verilog_decl.specs.Headers.{Phrase, Spells, header, no_parameters, some_parameters, shaped, with_shape, without_shape, header_parameters_behind, no_header_parameter, another_header_parameter, no_ports, some_ports, empty_list, name_list, input_list, output_list, declared, header_ports_behind, no_header_port, another_header_port, input_port, output_port, next_name, next_port}
use Rattle.version_swap.proofs.Behind.{IsBefore, Behind, stays, at_behind, token_behind}
use Rattle.version_swap.proofs.BehindDeclaration.{declaration_behind}

pub header_behind : {r e : List Token} {phrase : Phrase} {s a p : List Token} → Spells phrase s a → IsBefore r e a p
    → Behind r e (Spells phrase) s p
header_behind (header h i j) b =
    let j' = token_behind j b in let i' = header_behind i j'.before in let h' = header_behind h i'.before in
    record { start = h'.start; before = h'.before; tree = header h'.tree i'.tree j'.tree }
header_behind (no_parameters h) b = stays b (no_parameters (at_behind (λ (kind : Kind). kind ≢ k.Hash) b h))
header_behind (some_parameters h i j o q) b =
    let q' = token_behind q b in let o' = header_behind o q'.before in let j' = header_behind j o'.before in let i' = token_behind i j'.before in
    let h' = token_behind h i'.before in
    record { start = h'.start; before = h'.before; tree = some_parameters h'.tree i'.tree j'.tree o'.tree q'.tree }
header_behind (shaped h i j) b =
    let j' = declaration_behind j b in let i' = declaration_behind i j'.before in let h' = token_behind h i'.before in
    record { start = h'.start; before = h'.before; tree = shaped h'.tree i'.tree j'.tree }
header_behind (with_shape h i) b =
    let i' = header_behind i b in
    record { start = i'.start; before = i'.before; tree = with_shape (at_behind (λ (kind : Kind). k.Parameter ≡ kind) i'.before h) i'.tree }
header_behind (without_shape h i) b =
    let i' = declaration_behind i b in
    record { start = i'.start; before = i'.before; tree = without_shape (at_behind (λ (kind : Kind). kind ≢ k.Parameter) i'.before h) i'.tree }
header_behind (header_parameters_behind h) b =
    let h' = header_behind h b in record { start = h'.start; before = h'.before; tree = header_parameters_behind h'.tree }
header_behind (no_header_parameter h) b = stays b (no_header_parameter (at_behind (λ (kind : Kind). kind ≢ k.Comma) b h))
header_behind (another_header_parameter h i j) b =
    let j' = header_behind j b in let i' = header_behind i j'.before in let h' = token_behind h i'.before in
    record { start = h'.start; before = h'.before; tree = another_header_parameter h'.tree i'.tree j'.tree }
header_behind (no_ports h) b = stays b (no_ports (at_behind (λ (kind : Kind). kind ≢ k.LeftParen) b h))
header_behind (some_ports h i j) b =
    let j' = token_behind j b in let i' = header_behind i j'.before in let h' = token_behind h i'.before in
    record { start = h'.start; before = h'.before; tree = some_ports h'.tree i'.tree j'.tree }
header_behind (empty_list h i j) b =
    stays b (empty_list (at_behind (λ (kind : Kind). kind ≢ k.Word) b h) (at_behind (λ (kind : Kind). kind ≢ k.Input) b i)
    (at_behind (λ (kind : Kind). kind ≢ k.Output) b j))
header_behind (name_list h i) b =
    let i' = declaration_behind i b in
    record { start = i'.start; before = i'.before; tree = name_list (at_behind (λ (kind : Kind). k.Word ≡ kind) i'.before h) i'.tree }
header_behind (input_list h i) b =
    let i' = header_behind i b in
    record { start = i'.start; before = i'.before; tree = input_list (at_behind (λ (kind : Kind). k.Input ≡ kind) i'.before h) i'.tree }
header_behind (output_list h i) b =
    let i' = header_behind i b in
    record { start = i'.start; before = i'.before; tree = output_list (at_behind (λ (kind : Kind). k.Output ≡ kind) i'.before h) i'.tree }
header_behind (declared h i) b =
    let i' = header_behind i b in let h' = header_behind h i'.before in
    record { start = h'.start; before = h'.before; tree = declared h'.tree i'.tree }
header_behind (header_ports_behind h) b =
    let h' = header_behind h b in record { start = h'.start; before = h'.before; tree = header_ports_behind h'.tree }
header_behind (no_header_port h) b = stays b (no_header_port (at_behind (λ (kind : Kind). kind ≢ k.Comma) b h))
header_behind (another_header_port h i j) b =
    let j' = header_behind j b in let i' = header_behind i j'.before in let h' = token_behind h i'.before in
    record { start = h'.start; before = h'.before; tree = another_header_port h'.tree i'.tree j'.tree }
header_behind (input_port h i j o) b =
    let o' = token_behind o b in let j' = declaration_behind j o'.before in let i' = declaration_behind i j'.before in
    let h' = token_behind h i'.before in record { start = h'.start; before = h'.before; tree = input_port h'.tree i'.tree j'.tree o'.tree }
header_behind (output_port h i j o) b =
    let o' = declaration_behind o b in let j' = declaration_behind j o'.before in let i' = declaration_behind i j'.before in
    let h' = token_behind h i'.before in record { start = h'.start; before = h'.before; tree = output_port h'.tree i'.tree j'.tree o'.tree }
header_behind (next_name h i) b =
    let i' = declaration_behind i b in
    record { start = i'.start; before = i'.before; tree = next_name (at_behind (λ (kind : Kind). k.Word ≡ kind) i'.before h) i'.tree }
header_behind (next_port h i) b =
    let i' = header_behind i b in
    record { start = i'.start; before = i'.before; tree = next_port (at_behind (λ (kind : Kind). kind ≢ k.Word) i'.before h) i'.tree }
