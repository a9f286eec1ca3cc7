-- A header that stands for tokens stands under other names for the tokens under these.
use Rattle.std.proofs.Common.{◌≡◌, ◌≢◌, List, map}
use Rattle.ls_text.specs.declared.name_id.NameId.{NameId}
use Rattle.verilog_lex.specs.declared.token.Token.{Token}
use Rattle.verilog_lex.specs.declared.kind.Kind.{Kind}
use Rattle.verilog_lex.specs.declared.kind.Kind.TheVariants as k
use Rattle.verilog_ast.specs.Renamed.{renamed_header_parameter, renamed_header_port, renamed_ports}
use Rattle.verilog_expr.specs.Renamed.{retokens}
use Rattle.verilog_expr.proofs.RenamedTokens.{at_next, takes_so}
use Rattle.verilog_decl.specs.Headers.{Phrase, Spells, AHeader, ParameterHeader, AShapedParameter, AHeaderParameter, HeaderParametersBehind, OtherHeaderParameters, PortHeader, PortList, DeclaredPorts, HeaderPortsBehind, OtherHeaderPorts, AHeaderPort, NextHeaderPort, header, no_parameters, some_parameters, shaped, with_shape, without_shape, header_parameters_behind, no_header_parameter, another_header_parameter, no_ports, some_ports, empty_list, name_list, input_list, output_list, declared, header_ports_behind, no_header_port, another_header_port, input_port, output_port, next_name, next_port}
use Rattle.verilog_decl.proofs.RenamedDeclaration.{declaration_so}

abbrev pub renamed_phrase : (NameId → NameId) → Phrase → Phrase
renamed_phrase f (AHeader x y) = AHeader (map (renamed_header_parameter f) x) (renamed_ports f y)
renamed_phrase f (ParameterHeader x) = ParameterHeader (map (renamed_header_parameter f) x)
renamed_phrase f (AShapedParameter x) = AShapedParameter (renamed_header_parameter f x)
renamed_phrase f (AHeaderParameter x) = AHeaderParameter (renamed_header_parameter f x)
renamed_phrase f (HeaderParametersBehind x y) = HeaderParametersBehind (renamed_header_parameter f x) (map (renamed_header_parameter f) y)
renamed_phrase f (OtherHeaderParameters x) = OtherHeaderParameters (map (renamed_header_parameter f) x)
renamed_phrase f (PortHeader x) = PortHeader (renamed_ports f x)
renamed_phrase f (PortList x) = PortList (renamed_ports f x)
renamed_phrase f (DeclaredPorts x) = DeclaredPorts (map (renamed_header_port f) x)
renamed_phrase f (HeaderPortsBehind x y) = HeaderPortsBehind (renamed_header_port f x) (map (renamed_header_port f) y)
renamed_phrase f (OtherHeaderPorts x) = OtherHeaderPorts (map (renamed_header_port f) x)
renamed_phrase f (AHeaderPort x) = AHeaderPort (renamed_header_port f x)
renamed_phrase f (NextHeaderPort x) = NextHeaderPort (renamed_header_port f x)

pub header_so : (f : NameId → NameId) {phrase : Phrase} {s r : List Token} → Spells phrase s r
    → Spells (renamed_phrase f phrase) (retokens f s) (retokens f r)
header_so f (header h i j) = header (header_so f h) (header_so f i) (takes_so f j)
header_so f (no_parameters {s = s} h) = no_parameters (at_next f s (λ (kind : Kind). kind ≢ k.Hash) h)
header_so f (some_parameters h i j o q) = some_parameters (takes_so f h) (takes_so f i) (header_so f j) (header_so f o) (takes_so f q)
header_so f (shaped h i j) = shaped (takes_so f h) (declaration_so f i) (declaration_so f j)
header_so f (with_shape {s = s} h i) = with_shape (at_next f s (λ (kind : Kind). k.Parameter ≡ kind) h) (header_so f i)
header_so f (without_shape {s = s} h i) = without_shape (at_next f s (λ (kind : Kind). kind ≢ k.Parameter) h) (declaration_so f i)
header_so f (header_parameters_behind h) = header_parameters_behind (header_so f h)
header_so f (no_header_parameter {s = s} h) = no_header_parameter (at_next f s (λ (kind : Kind). kind ≢ k.Comma) h)
header_so f (another_header_parameter h i j) = another_header_parameter (takes_so f h) (header_so f i) (header_so f j)
header_so f (no_ports {s = s} h) = no_ports (at_next f s (λ (kind : Kind). kind ≢ k.LeftParen) h)
header_so f (some_ports h i j) = some_ports (takes_so f h) (header_so f i) (takes_so f j)
header_so f (empty_list {s = s} h i j) =
    empty_list (at_next f s (λ (kind : Kind). kind ≢ k.Word) h) (at_next f s (λ (kind : Kind). kind ≢ k.Input) i)
    (at_next f s (λ (kind : Kind). kind ≢ k.Output) j)
header_so f (name_list {s = s} h i) = name_list (at_next f s (λ (kind : Kind). k.Word ≡ kind) h) (declaration_so f i)
header_so f (input_list {s = s} h i) = input_list (at_next f s (λ (kind : Kind). k.Input ≡ kind) h) (header_so f i)
header_so f (output_list {s = s} h i) = output_list (at_next f s (λ (kind : Kind). k.Output ≡ kind) h) (header_so f i)
header_so f (declared h i) = declared (header_so f h) (header_so f i)
header_so f (header_ports_behind h) = header_ports_behind (header_so f h)
header_so f (no_header_port {s = s} h) = no_header_port (at_next f s (λ (kind : Kind). kind ≢ k.Comma) h)
header_so f (another_header_port h i j) = another_header_port (takes_so f h) (header_so f i) (header_so f j)
header_so f (input_port h i j o) = input_port (takes_so f h) (declaration_so f i) (declaration_so f j) (takes_so f o)
header_so f (output_port h i j o) = output_port (takes_so f h) (declaration_so f i) (declaration_so f j) (declaration_so f o)
header_so f (next_name {s = s} h i) = next_name (at_next f s (λ (kind : Kind). k.Word ≡ kind) h) (declaration_so f i)
header_so f (next_port {s = s} h i) = next_port (at_next f s (λ (kind : Kind). kind ≢ k.Word) h) (header_so f i)
