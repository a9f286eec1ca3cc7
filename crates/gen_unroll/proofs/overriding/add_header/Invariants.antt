use Rattle.std.proofs.Common.{◌≡◌, ◌++◌, map, drop}
use Rattle.verilog_ast.specs.Views.{header_parameter_of}
use Rattle.gen_unroll.specs.declared.parameter_sort.ParameterSort.TheVariants as sort
use Rattle.gen_unroll.specs.Overriding.{sort_of_each}
use Rattle.gen_unroll.proofs.overriding.add_header.Given as goal

abbrev pub invariant-loop : goal.invariant-loop
invariant-loop l =
    l.sorts.items ++ sort_of_each sort.Overridable (map header_parameter_of (drop l.index l.all))
    ≡ l.fn.sorts.items ++ sort_of_each sort.Overridable (map header_parameter_of l.all)
