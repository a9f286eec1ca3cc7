use Rattle.std.proofs.Common.{rules}
use Rattle.verilog_expr.proofs.Runs.{runs}
use Rattle.verilog_expr.proofs.Entries.{entries}
use Rattle.verilog_expr.proofs.parser.Parser.read_range.Goals as goal

pub returns-in_err-expect-3-clause-machine : goal.returns-in_err-expect-3-clause-machine
returns-in_err-expect-3-clause-machine c = search (rules, runs, entries) depth 14
