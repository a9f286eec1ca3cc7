use Rattle.std.proofs.Common.{◌-◌}
use Rattle.row_tables.proofs.texts.texts_of.Given as goal

abbrev pub decreases-loop-id : goal.decreases-loop-id
decreases-loop-id l = l.last.0 - l.id
