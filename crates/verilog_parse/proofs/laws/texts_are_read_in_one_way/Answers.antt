use Rattle.verilog_parse.proofs.OneText.{one_text, one_fault, not_both}
use Rattle.verilog_expr.specs.Shown.{at_fault}
use Rattle.verilog_parse.proofs.Wholes.{spelled_only}
use Rattle.verilog_parse.proofs.laws.texts_are_read_in_one_way.Goals as goal

pub returns-clause-modules : goal.returns-clause-modules
returns-clause-modules c = one_text

pub returns-clause-fault : goal.returns-clause-fault
returns-clause-fault c = one_fault

pub returns-clause-either : goal.returns-clause-either
returns-clause-either c = not_both

pub returns-clause-spelled : goal.returns-clause-spelled
returns-clause-spelled c s fault spelled (at_fault {f = f} run shown) = spelled_only s f fault spelled run shown
