use Rattle.std.proofs.Common.{◌≡◌, ◌++◌, map, drop}
use Rattle.elaborate.specs.Ports.{port_outlines}
use Rattle.elaborate.specs.Views.{port_of, table_of}
use Rattle.elaborate.proofs.visiting.port_shapes.Given as goal

abbrev pub invariant-loop-port : goal.invariant-loop-port
invariant-loop-port l =
    map port_of l.shapes.items ++ port_outlines (drop l.port-index l.ports) (table_of l.table) ≡ port_outlines l.ports (table_of l.table)
