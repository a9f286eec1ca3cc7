use Rattle.verilog_pre.proofs.Obeys.{whole_directive, only_directive}
use Rattle.verilog_pre.proofs.laws.directives_are_obeyed.Goals as goal

pub returns-clause-whole : goal.returns-clause-whole
returns-clause-whole c = whole_directive

pub returns-clause-only : goal.returns-clause-only
returns-clause-only c = only_directive
