use Rattle.std.proofs.Common.{◌≡◌, ◌++◌, map, drop}
use Rattle.verilog_ast.specs.Views.{parameter_of}
use Rattle.gen_unroll.specs.Overriding.{sort_of_each}
use Rattle.gen_unroll.proofs.overriding.add_parameters.Given as goal

abbrev pub invariant-loop : goal.invariant-loop
invariant-loop l =
    l.sorts.items ++ sort_of_each l.sort (map parameter_of (drop l.index l.all)) ≡ l.fn.sorts.items ++ sort_of_each l.sort (map parameter_of l.all)
