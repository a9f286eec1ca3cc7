-- Signals by their parts.
use Rattle.std.specs.Prelude.{ℕ, Bool, true, false, Option}
use Rattle.verilog_ast.specs.declared.identifier.Identifier.{Identifier}
use Rattle.verilog_ast.specs.declared.port_net.PortNet.{PortNet}
use Rattle.typed_ir.specs.declared.signal_kind.SignalKind.{SignalKind}
use Rattle.gen_unroll.specs.Declarations.{BitRange}
use Rattle.gen_unroll.specs.Signals.{NamedSignal, kind_of_net}

-- a port
abbrev pub port_signal : Option ℕ → SignalKind → PortNet → Option BitRange → Bool → Identifier → ℕ → NamedSignal
port_signal here k by range signed n order =
    record { block = here; name = n; kind = k; range = range; signed = signed; port = true; net = by; order = order }

-- what `wire` or `reg` declares
abbrev pub net_signal : Option ℕ → PortNet → Option BitRange → Bool → Identifier → ℕ → NamedSignal
net_signal here by range signed n order =
    record { block = here; name = n; kind = kind_of_net by; range = range; signed = signed; port = false; net = by; order = order }
