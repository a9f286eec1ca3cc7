use Rattle.std.proofs.Common.{map, drop}
use Rattle.verilog_ast.specs.Views.{label_of}
use Rattle.width_rules.specs.Entries.{scope_of}
use Rattle.width_rules.specs.Adding.{NamesLeft}
use Rattle.width_rules.specs.Mentions.{listing_of, labels_names}
use Rattle.width_rules.proofs.asking.list_labels.Given as goal

abbrev pub invariant-loop-label : goal.invariant-loop-label
invariant-loop-label l =
    NamesLeft l.initial.list.items l.list.items l.from l.next (labels_names (listing_of (scope_of l.scope) l.asked) (map label_of l.labels))
    (labels_names (listing_of (scope_of l.scope) l.asked) (map label_of (drop l.label-index l.labels)))
