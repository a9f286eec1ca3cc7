use Rattle.verilog_pre.proofs.BodyTurns.{whole_body, only_body}
use Rattle.verilog_pre.proofs.laws.bodies_are_stretches.Goals as goal

pub returns-clause-whole : goal.returns-clause-whole
returns-clause-whole c = whole_body

pub returns-clause-only : goal.returns-clause-only
returns-clause-only c = only_body
