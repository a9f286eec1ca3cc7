use Rattle.typed_ir.specs.RunLaws.{seg_more}
use Rattle.typed_ir.proofs.Runs.{seg_same}
use Rattle.typed_ir.proofs.laws.runs_join.Goals as goal

pub returns-clause-more : goal.returns-clause-more
returns-clause-more c = seg_more

pub returns-clause-same : goal.returns-clause-same
returns-clause-same c = seg_same
