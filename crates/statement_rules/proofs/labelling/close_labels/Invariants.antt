use Rattle.std.proofs.Common.{◌≡◌, ◌++◌, map}
use Rattle.std.specs.Vec.Iter.{into_iter_items}
use Rattle.typed_ir.specs.Statements.{item_of}
use Rattle.statement_rules.specs.Cases.{label_form, closed_label}
use Rattle.statement_rules.proofs.labelling.close_labels.Given as goal

abbrev pub invariant-loop-label : goal.invariant-loop-label
invariant-loop-label l =
    map item_of l.items.items ++ map (closed_label l.length l.signed) (map label_form (into_iter_items l.label-iterator))
    ≡ map (closed_label l.length l.signed) (map label_form l.fn.labels.items)
