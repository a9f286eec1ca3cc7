use Rattle.std.proofs.Common.{ap}
use Rattle.typed_ir.specs.Statements.{stmt_of}
use Rattle.typed_ir.specs.Items.{Clocked}
use Rattle.verilog_ast.specs.Views.{statement_of}
use Rattle.width_rules.specs.declared.writer.Writer.TheVariants as writer
use Rattle.width_rules.specs.Entries.{scope_of}
use Rattle.width_rules.specs.Mentions.{statement_reads, statement_targets}
use Rattle.statement_rules.specs.Statements.{sized_statement}
use Rattle.statement_rules.proofs.Placed.{placed_is}
use Rattle.statement_rules.proofs.blocking.size_clocked.Goals as goal

pub returns-clause-item : goal.returns-clause-item
returns-clause-item c =
    let scope = scope_of c.args.scope.now in
    let st = statement_of c.args.body.now in
    let places = c.in_ok-places.places in
    placed_is (Clocked (stmt_of c.in_ok-body.body)) (Clocked (sized_statement scope writer.Clocked st)) places.at c.args.at
    places.targets.items (statement_targets 0 st) places.reads.items (statement_reads scope 0 st)
    (ap Clocked c.in_ok-body.ensures.form) c.in_ok-places.ensures.at c.in_ok-places.ensures.targets c.in_ok-places.ensures.reads
