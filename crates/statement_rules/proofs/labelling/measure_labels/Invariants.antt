use Rattle.std.proofs.Common.{◌≡◌, ◌≤◌, ◌++◌, ◌&&◌, max, map, drop}
use Rattle.verilog_ast.specs.Views.{label_of}
use Rattle.statement_rules.specs.Cases.{label_form, open_label}
use Rattle.width_rules.specs.Entries.{scope_of}
use Rattle.statement_rules.specs.Statements.{labels_length, labels_signed, labels_faults}
use Rattle.statement_rules.proofs.labelling.measure_labels.Given as goal

abbrev pub invariant-loop-label : goal.invariant-loop-label
invariant-loop-label l = record {
  ahead : labels_faults (scope_of l.scope) (map label_of (drop l.label-index l.labels)) ≡ labels_faults (scope_of l.scope) (map label_of l.labels);
  kept : map label_form l.list.items ++ map (open_label (scope_of l.scope)) (map label_of (drop l.label-index l.labels))
      ≡ map (open_label (scope_of l.scope)) (map label_of l.labels);
  longest : max l.length (labels_length (scope_of l.scope) (map label_of (drop l.label-index l.labels))) ≡ labels_length (scope_of l.scope) (map label_of l.labels);
  signs : (l.signed && labels_signed (scope_of l.scope) (map label_of (drop l.label-index l.labels))) ≡ labels_signed (scope_of l.scope) (map label_of l.labels);
  few : l.length ≤ 128;
}
