use Rattle.std.proofs.Common.{◌≡◌, map, drop}
use Rattle.verilog_ast.specs.Views.{port_of}
use Rattle.gen_unroll.specs.Declarations.{port_name}
use Rattle.gen_unroll.specs.Numbers.{ports_onto}
use Rattle.gen_unroll.specs.NumberingViews.{numbered_in, IsNumbered}
use Rattle.gen_unroll.specs.TableViews.{signals_of}
use Rattle.gen_unroll.proofs.heading.add_declared.Given as goal

abbrev pub invariant-loop-port : goal.invariant-loop-port
invariant-loop-port l = record {
  left : ports_onto (map port_name (map port_of (drop l.port-index l.ports))) (signals_of l.table) (numbered_in l.numbering)
      ≡ ports_onto (map port_name (map port_of l.ports)) (signals_of l.table) (numbered_in l.initial.numbering);
  numbered : IsNumbered l.numbering;
}
