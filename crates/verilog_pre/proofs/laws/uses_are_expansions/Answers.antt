use Rattle.verilog_pre.proofs.Expanded.{whole_use, only_use}
use Rattle.verilog_pre.proofs.laws.uses_are_expansions.Goals as goal

pub returns-clause-whole : goal.returns-clause-whole
returns-clause-whole c = whole_use

pub returns-clause-only : goal.returns-clause-only
returns-clause-only c = only_use
