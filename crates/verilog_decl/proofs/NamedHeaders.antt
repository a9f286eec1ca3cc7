-- The names of a header are names of its tokens.
use Rattle.std.proofs.Common.{ℕ, List, flat_map}
use Rattle.verilog_lex.specs.declared.token.Token.{Token}
use Rattle.verilog_ast.specs.Names.{names_of_header_parameter, names_of_header_port, names_of_ports}
use Rattle.verilog_ast.proofs.Within.{IsWithin, no_name, one_name, ◌⊕◌}
use Rattle.verilog_expr.proofs.Named.{AreWithin, took}
use Rattle.verilog_decl.proofs.NamedDeclarations.{declaration}
use Rattle.verilog_decl.specs.Headers as p

-- The names of a phrase are below the bound, where those of what stands before it are.
abbrev pub IsNamed : ℕ → p.Phrase → Type 0
IsNamed n (p.AHeader xs y) = IsWithin n (flat_map names_of_header_parameter xs) × IsWithin n (names_of_ports y)
IsNamed n (p.ParameterHeader xs) = IsWithin n (flat_map names_of_header_parameter xs)
IsNamed n (p.AShapedParameter x) = IsWithin n (names_of_header_parameter x)
IsNamed n (p.AHeaderParameter x) = IsWithin n (names_of_header_parameter x)
IsNamed n (p.HeaderParametersBehind x xs) = IsWithin n (names_of_header_parameter x) → IsWithin n (flat_map names_of_header_parameter xs)
IsNamed n (p.OtherHeaderParameters xs) = IsWithin n (flat_map names_of_header_parameter xs)
IsNamed n (p.PortHeader x) = IsWithin n (names_of_ports x)
IsNamed n (p.PortList x) = IsWithin n (names_of_ports x)
IsNamed n (p.DeclaredPorts xs) = IsWithin n (flat_map names_of_header_port xs)
IsNamed n (p.HeaderPortsBehind x xs) = IsWithin n (names_of_header_port x) → IsWithin n (flat_map names_of_header_port xs)
IsNamed n (p.OtherHeaderPorts xs) = IsWithin n (flat_map names_of_header_port xs)
IsNamed n (p.AHeaderPort x) = IsWithin n (names_of_header_port x)
IsNamed n (p.NextHeaderPort x) = IsWithin n (names_of_header_port x)

pub header : {n : ℕ} {q : p.Phrase} {s r : List Token} → p.Spells q s r → AreWithin n s → IsNamed n q × AreWithin n r
header (p.header h i t) w = let a = header h w in let b = header i a.1 in let c = took t b.1 in ((a.0, b.0), c.1)
header (p.no_parameters free) w = (no_name, w)
header (p.some_parameters t u h i v) w =
    let a = took t w in let b = took u a.1 in let c = header h b.1 in let d = header i c.1 in let e = took v d.1 in (d.0 c.0, e.1)
header (p.shaped t h i) w = let a = took t w in let b = declaration h a.1 in let c = declaration i b.1 in (b.0 ⊕ c.0, c.1)
header (p.with_shape is h) w = let a = header h w in (a.0, a.1)
header (p.without_shape free h) w = let a = declaration h w in (a.0, a.1)
header (p.header_parameters_behind h) w = let a = header h w in (λ x. x ⊕ a.0, a.1)
header (p.no_header_parameter free) w = (no_name, w)
header (p.another_header_parameter t h i) w = let a = took t w in let b = header h a.1 in let c = header i b.1 in (b.0 ⊕ c.0, c.1)
header (p.no_ports free) w = (no_name, w)
header (p.some_ports t h u) w = let a = took t w in let b = header h a.1 in let c = took u b.1 in (b.0, c.1)
header (p.empty_list free clear bare) w = (no_name, w)
header (p.name_list is h) w = let a = declaration h w in (a.0, a.1)
header (p.input_list is h) w = let a = header h w in (a.0, a.1)
header (p.output_list is h) w = let a = header h w in (a.0, a.1)
header (p.declared h i) w = let a = header h w in let b = header i a.1 in (b.0 a.0, b.1)
header (p.header_ports_behind h) w = let a = header h w in (λ x. x ⊕ a.0, a.1)
header (p.no_header_port free) w = (no_name, w)
header (p.another_header_port t h i) w = let a = took t w in let b = header h a.1 in let c = header i b.1 in (b.0 ⊕ c.0, c.1)
header (p.input_port t h i u) w = let a = took t w in let b = declaration h a.1 in let c = declaration i b.1 in let d = took u c.1 in (c.0 ⊕ one_name d.0, d.1)
header (p.output_port t h i j) w = let a = took t w in let b = declaration h a.1 in let c = declaration i b.1 in let d = declaration j c.1 in (c.0 ⊕ d.0, d.1)
header (p.next_name is h) w = let a = declaration h w in (a.0, a.1)
header (p.next_port free h) w = let a = header h w in (a.0, a.1)
