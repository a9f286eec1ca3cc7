-- A header that stands for tokens stands without places for the tokens without theirs.
use Rattle.std.proofs.Common.{◌≡◌, ◌≢◌, List, map}
use Rattle.verilog_lex.specs.declared.token.Token.{Token}
use Rattle.verilog_lex.specs.declared.kind.Kind.{Kind}
use Rattle.verilog_lex.specs.declared.kind.Kind.TheVariants as k
use Rattle.version_swap.proofs.BareForms.{bare_header_parameter, bare_header_port, bare_ports, bare_tokens}
use Rattle.version_swap.proofs.BareTokens.{at_next, takes_so}
use Rattle.verilog_decl.specs.Headers.{Phrase, Spells, AHeader, ParameterHeader, AShapedParameter, AHeaderParameter, HeaderParametersBehind, OtherHeaderParameters, PortHeader, PortList, DeclaredPorts, HeaderPortsBehind, OtherHeaderPorts, AHeaderPort, NextHeaderPort, header, no_parameters, some_parameters, shaped, with_shape, without_shape, header_parameters_behind, no_header_parameter, another_header_parameter, no_ports, some_ports, empty_list, name_list, input_list, output_list, declared, header_ports_behind, no_header_port, another_header_port, input_port, output_port, next_name, next_port}
use Rattle.version_swap.proofs.BareDeclaration.{declaration_so}

abbrev pub bare_phrase : Phrase → Phrase
bare_phrase (AHeader x y) = AHeader (map bare_header_parameter x) (bare_ports y)
bare_phrase (ParameterHeader x) = ParameterHeader (map bare_header_parameter x)
bare_phrase (AShapedParameter x) = AShapedParameter (bare_header_parameter x)
bare_phrase (AHeaderParameter x) = AHeaderParameter (bare_header_parameter x)
bare_phrase (HeaderParametersBehind x y) = HeaderParametersBehind (bare_header_parameter x) (map bare_header_parameter y)
bare_phrase (OtherHeaderParameters x) = OtherHeaderParameters (map bare_header_parameter x)
bare_phrase (PortHeader x) = PortHeader (bare_ports x)
bare_phrase (PortList x) = PortList (bare_ports x)
bare_phrase (DeclaredPorts x) = DeclaredPorts (map bare_header_port x)
bare_phrase (HeaderPortsBehind x y) = HeaderPortsBehind (bare_header_port x) (map bare_header_port y)
bare_phrase (OtherHeaderPorts x) = OtherHeaderPorts (map bare_header_port x)
bare_phrase (AHeaderPort x) = AHeaderPort (bare_header_port x)
bare_phrase (NextHeaderPort x) = NextHeaderPort (bare_header_port x)

pub header_so : {phrase : Phrase} {s r : List Token} → Spells phrase s r
    → Spells (bare_phrase phrase) (bare_tokens s) (bare_tokens r)
header_so (header h i j) = header (header_so h) (header_so i) (takes_so j)
header_so (no_parameters {s = s} h) = no_parameters (at_next s (λ (kind : Kind). kind ≢ k.Hash) h)
header_so (some_parameters h i j o q) = some_parameters (takes_so h) (takes_so i) (header_so j) (header_so o) (takes_so q)
header_so (shaped h i j) = shaped (takes_so h) (declaration_so i) (declaration_so j)
header_so (with_shape {s = s} h i) = with_shape (at_next s (λ (kind : Kind). k.Parameter ≡ kind) h) (header_so i)
header_so (without_shape {s = s} h i) = without_shape (at_next s (λ (kind : Kind). kind ≢ k.Parameter) h) (declaration_so i)
header_so (header_parameters_behind h) = header_parameters_behind (header_so h)
header_so (no_header_parameter {s = s} h) = no_header_parameter (at_next s (λ (kind : Kind). kind ≢ k.Comma) h)
header_so (another_header_parameter h i j) = another_header_parameter (takes_so h) (header_so i) (header_so j)
header_so (no_ports {s = s} h) = no_ports (at_next s (λ (kind : Kind). kind ≢ k.LeftParen) h)
header_so (some_ports h i j) = some_ports (takes_so h) (header_so i) (takes_so j)
header_so (empty_list {s = s} h i j) =
    empty_list (at_next s (λ (kind : Kind). kind ≢ k.Word) h) (at_next s (λ (kind : Kind). kind ≢ k.Input) i)
    (at_next s (λ (kind : Kind). kind ≢ k.Output) j)
header_so (name_list {s = s} h i) = name_list (at_next s (λ (kind : Kind). k.Word ≡ kind) h) (declaration_so i)
header_so (input_list {s = s} h i) = input_list (at_next s (λ (kind : Kind). k.Input ≡ kind) h) (header_so i)
header_so (output_list {s = s} h i) = output_list (at_next s (λ (kind : Kind). k.Output ≡ kind) h) (header_so i)
header_so (declared h i) = declared (header_so h) (header_so i)
header_so (header_ports_behind h) = header_ports_behind (header_so h)
header_so (no_header_port {s = s} h) = no_header_port (at_next s (λ (kind : Kind). kind ≢ k.Comma) h)
header_so (another_header_port h i j) = another_header_port (takes_so h) (header_so i) (header_so j)
header_so (input_port h i j o) = input_port (takes_so h) (declaration_so i) (declaration_so j) (takes_so o)
header_so (output_port h i j o) = output_port (takes_so h) (declaration_so i) (declaration_so j) (declaration_so o)
header_so (next_name {s = s} h i) = next_name (at_next s (λ (kind : Kind). k.Word ≡ kind) h) (declaration_so i)
header_so (next_port {s = s} h i) = next_port (at_next s (λ (kind : Kind). kind ≢ k.Word) h) (header_so i)
