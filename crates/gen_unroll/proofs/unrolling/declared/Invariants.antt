use Rattle.std.proofs.Common.{◌≡◌, ◌++◌, map, drop}
use Rattle.verilog_ast.specs.Views.{port_of}
use Rattle.width_rules.specs.Entries.{around}
use Rattle.gen_unroll.specs.Steps.{Port}
use Rattle.gen_unroll.specs.Views.{steps_of, state_of}
use Rattle.gen_unroll.proofs.unrolling.declared.Given as goal

abbrev pub invariant-loop-port : goal.invariant-loop-port
invariant-loop-port l = record {
  steps : steps_of l.w ++ map Port (map port_of (drop l.port-index l.ports)) ≡ steps_of l.initial.w ++ map Port (map port_of l.ports);
  state : state_of l.w ≡ state_of l.initial.w;
  kept : around l.w.scope ≡ around l.initial.w.scope;
}
