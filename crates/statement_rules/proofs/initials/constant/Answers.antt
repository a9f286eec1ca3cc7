use Rattle.typed_ir.specs.Forms.{sized}
use Rattle.verilog_ast.specs.Views.{expression_of}
use Rattle.width_rules.specs.Entries.{scope_of}
use Rattle.width_rules.specs.Opened.{opened}
use Rattle.statement_rules.proofs.Constants.{reads_none}
use Rattle.statement_rules.proofs.initials.constant.Goals as goal

pub value-found-requires-clause-fits : goal.value-found-requires-clause-fits
value-found-requires-clause-fits c =
    reads_none (scope_of c.args.scope.now) (expression_of c.args.value.now) (opened c.in_ok-m.m.form) c.max-length.result c.in_ok-m.m.signed
    (sized c.in_ok-typed.typed.form) c.in_ok-m.ensures.faultless c.in_ok-m.ensures.form c.in_ok-typed.ensures.form
