use Rattle.std.proofs.Common.{rules}
use Rattle.verilog_expr.proofs.Runs.{reads_err, fails_then, fails_here}
use Rattle.verilog_parse.proofs.modules.input_item.Goals as goal

pub returns-in_err-all-clause-machine : goal.returns-in_err-all-clause-machine
returns-in_err-all-clause-machine c = search (rules, reads_err, fails_then, fails_here) depth 16

pub returns-in_err-expect-clause-machine : goal.returns-in_err-expect-clause-machine
returns-in_err-expect-clause-machine c = search (rules, reads_err, fails_then, fails_here) depth 16
