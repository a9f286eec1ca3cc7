use denote.Shadow.{shadow}
use denote.Text.{Utf8}
use Rattle.row_tables.proofs.table.Table.read.Given as goal

abbrev pub invariant-loop-line : goal.invariant-loop-line
invariant-loop-line l =
    (goal.iterator-loop-line).can_next l.line-iterator ×
    (goal.iterator-loop-line).is_finite l.line-iterator ×
    shadow (Utf8 l.text)
