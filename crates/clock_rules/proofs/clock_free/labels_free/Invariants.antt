use Rattle.std.proofs.Common.{◌≡◌, map, drop}
use Rattle.verilog_ast.specs.Views.{label_of}
use Rattle.width_rules.specs.Entries.{scope_of}
use Rattle.clock_rules.specs.Clocks.{all_free, label_free}
use Rattle.clock_rules.proofs.clock_free.labels_free.Given as goal

abbrev pub invariant-loop-label : goal.invariant-loop-label
invariant-loop-label l =
    all_free (label_free (scope_of l.scope)) (map label_of (drop l.label-index l.labels)) ≡ all_free (label_free (scope_of l.scope)) (map label_of l.labels)
