use Rattle.std.proofs.Common.{◌≡◌, map, drop}
use Rattle.verilog_ast.specs.Views.{instance_of, declaration_of}
use Rattle.width_rules.specs.Entries.{scope_of}
use Rattle.clock_rules.specs.Clocks.{clocks_of}
use Rattle.clock_rules.specs.Views.{clocks_view}
use Rattle.clock_rules.proofs.clocking.clocks_of.Given as goal

abbrev pub invariant-loop-instance : goal.invariant-loop-instance
invariant-loop-instance l =
    clocks_of (declaration_of l.of.body.now) (scope_of l.scope) (map instance_of (drop l.instance-index l.instances)) (clocks_view l.clocks.items) ≡ clocks_of (declaration_of l.of.body.now) (scope_of l.scope) (map instance_of l.instances) (clocks_view l.initial.clocks.items)
