use Rattle.std.proofs.Common.{rules}
use Rattle.verilog_expr.proofs.Runs.{runs}
use Rattle.verilog_expr.proofs.Entries.{module_entries}
use Rattle.verilog_parse.proofs.modules.module.Goals as goal

pub returns-in_err-expect-3-clause-machine : goal.returns-in_err-expect-3-clause-machine
returns-in_err-expect-3-clause-machine c = search (rules, runs, module_entries) depth 16
