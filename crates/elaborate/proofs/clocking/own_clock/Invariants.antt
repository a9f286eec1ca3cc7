use Rattle.std.proofs.Common.{◌≡◌, drop}
use Rattle.clock_rules.specs.Clocks.{all_free}
use Rattle.elaborate.specs.Clocks.{own_port}
use Rattle.clock_rules.specs.Views.{clock_view}
use Rattle.elaborate.specs.Views.{table_of}
use Rattle.elaborate.proofs.clocking.own_clock.Given as goal

abbrev pub invariant-loop-port : goal.invariant-loop-port
invariant-loop-port l =
    all_free (own_port (clock_view l.clock) (table_of l.table)) (drop l.port-index l.ports)
    ≡ all_free (own_port (clock_view l.clock) (table_of l.table)) l.ports
