use Rattle.std.proofs.Common.{◌≡◌, ◌++◌, drop}
use Rattle.std.specs.List.{flat_map}
use Rattle.module_registry.specs.KeyTexts.{port_line}
use Rattle.module_registry.proofs.key_texts.push_ports.Given as goal

abbrev pub invariant-loop-port : goal.invariant-loop-port
invariant-loop-port l =
    l.text.items ++ flat_map (port_line l.names) (drop l.port-index l.ports) ≡ l.fn.text.items ++ flat_map (port_line l.names) l.ports
