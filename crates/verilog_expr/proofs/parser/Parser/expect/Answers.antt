use Rattle.std.proofs.Common.{rules}
use Rattle.verilog_expr.specs.Machine.{takes, heavy, ends}
use Rattle.verilog_expr.specs.Reads.{at_fault}
use Rattle.verilog_expr.specs.Tokens.{taken}
use Rattle.verilog_expr.proofs.Runs.{other_kind}
use Rattle.verilog_expr.proofs.parser.Parser.expect.Goals as goal

pub returns-in_default-clause-machine : goal.returns-in_default-clause-machine
returns-in_default-clause-machine c = search (rules, other_kind)

pub returns-then-weight-gt-MAX_WEIGHT-clause-machine :
    goal.returns-then-weight-gt-MAX_WEIGHT-clause-machine
returns-then-weight-gt-MAX_WEIGHT-clause-machine c = search (rules, at_fault, heavy)

pub returns-clause-machine : goal.returns-clause-machine
returns-clause-machine c = takes {token = c.in-Some.token} {rest = c.in-Some.rest.now} (search rules) (search rules) (search rules) ends

pub returns-clause-takes : goal.returns-clause-takes
returns-clause-takes c = search (rules, taken)
