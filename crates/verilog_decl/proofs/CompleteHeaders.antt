-- The machine takes what a header is spelled as, unless too much is open.
use Rattle.std.proofs.Common.{◌+◌, ℕ, List, [], ◌∷◌, refl}
use Rattle.verilog_lex.specs.declared.token.Token.{Token}
use Rattle.verilog_expr.specs.Grammar as g
use Rattle.verilog_expr.specs.Grammar.{N}
use Rattle.verilog_expr.proofs.Entries as e
use Rattle.verilog_expr.proofs.Complete.{Gets, gets_end, gets_token, gets_at, gets_skip, enters, ◌⊳◌}
use Rattle.verilog_decl.proofs.Complete.{seen, declaration}
use Rattle.verilog_decl.specs.Headers as h

abbrev MeetsHeader : h.Phrase → ℕ → List Token → List Token → Type 0
MeetsHeader (h.AHeader xs y) w a r = Gets (N g.AHeader w ∷ []) a r
MeetsHeader (h.ParameterHeader xs) w a r = Gets (N g.ParameterHeader w ∷ []) a r
MeetsHeader (h.AShapedParameter x) w a r = Gets (N g.AShapedParameter w ∷ []) a r
MeetsHeader (h.AHeaderParameter x) w a r = Gets (N g.AHeaderParameter w ∷ []) a r
MeetsHeader (h.HeaderParametersBehind x xs) w a r = Gets (N g.MoreHeaderParameters w ∷ []) a r
MeetsHeader (h.OtherHeaderParameters xs) w a r = Gets (N g.MoreHeaderParameters w ∷ []) a r
MeetsHeader (h.PortHeader x) w a r = Gets (N g.PortHeader w ∷ []) a r
MeetsHeader (h.PortList x) w a r = Gets (N g.PortList w ∷ []) a r
MeetsHeader (h.DeclaredPorts xs) w a r = Gets (N g.DeclaredPorts w ∷ []) a r
MeetsHeader (h.HeaderPortsBehind x xs) w a r = Gets (N g.MoreHeaderPorts w ∷ []) a r
MeetsHeader (h.OtherHeaderPorts xs) w a r = Gets (N g.MoreHeaderPorts w ∷ []) a r
MeetsHeader (h.AHeaderPort x) w a r = Gets (N g.AHeaderPort w ∷ []) a r
MeetsHeader (h.NextHeaderPort x) w a r = Gets (N g.NextHeaderPort w ∷ []) a r

pub header : {p : h.Phrase} {a r : List Token} → h.Spells p a r → (w : ℕ) → MeetsHeader p w a r
header (h.header x y t) w = enters refl (header x w ⊳ header y w ⊳ gets_token t ⊳ gets_end)
header (h.no_parameters free) w = gets_skip (e.parameter_header_skips w _ free) gets_end
header (h.some_parameters t u x xs v) w = gets_at t refl (gets_token t ⊳ gets_token u ⊳ header x (w + 1) ⊳ header xs (w + 1) ⊳ gets_token v ⊳ gets_end)
header (h.shaped t x y) w = enters refl (gets_token t ⊳ declaration x w ⊳ declaration y w ⊳ gets_end)
header (h.with_shape is x) w = seen is refl (header x w ⊳ gets_end)
header (h.without_shape free x) w = enters (e.header_parameter_alone w _ free) (declaration x w ⊳ gets_end)
header (h.header_parameters_behind xs) w = header xs w
header (h.no_header_parameter free) w = gets_skip (e.more_header_parameters_skips w _ free) gets_end
header (h.another_header_parameter t x xs) w = gets_at t refl (gets_token t ⊳ header x w ⊳ header xs w ⊳ gets_end)
header (h.no_ports free) w = gets_skip (e.port_header_skips w _ free) gets_end
header (h.some_ports t x u) w = gets_at t refl (gets_token t ⊳ header x (w + 1) ⊳ gets_token u ⊳ gets_end)
header (h.empty_list a c d) w = gets_skip (e.port_list_skips w _ a c d) gets_end
header (h.name_list is x) w = seen is refl (declaration x w ⊳ gets_end)
header (h.input_list is x) w = seen is refl (header x w ⊳ gets_end)
header (h.output_list is x) w = seen is refl (header x w ⊳ gets_end)
header (h.declared x xs) w = enters refl (header x w ⊳ header xs w ⊳ gets_end)
header (h.header_ports_behind xs) w = header xs w
header (h.no_header_port free) w = gets_skip (e.more_header_ports_skip w _ free) gets_end
header (h.another_header_port t x xs) w = gets_at t refl (gets_token t ⊳ header x w ⊳ header xs w ⊳ gets_end)
header (h.input_port t x y u) w = gets_at t refl (gets_token t ⊳ declaration x w ⊳ declaration y w ⊳ gets_token u ⊳ gets_end)
header (h.output_port t x y z) w = gets_at t refl (gets_token t ⊳ declaration x w ⊳ declaration y w ⊳ declaration z w ⊳ gets_end)
header (h.next_name is x) w = seen is refl (declaration x w ⊳ gets_end)
header (h.next_port free x) w = enters (e.next_header_port_declared w _ free) (header x w ⊳ gets_end)
