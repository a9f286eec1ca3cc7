use Rattle.std.proofs.Common.{◌∙◌, ap, ap₂}
use Rattle.typed_ir.specs.declared.shown_target.ShownTarget.{ShownTarget}
use Rattle.typed_ir.specs.Nodes.{Block}
use Rattle.typed_ir.specs.Statements.{stmt_of}
use Rattle.typed_ir.specs.Stmts.{SizedStmt}
use Rattle.typed_ir.specs.Items.{Node}
use Rattle.typed_ir.specs.Trees.{Own}
use Rattle.verilog_ast.specs.Views.{statement_of}
use Rattle.width_rules.specs.declared.writer.Writer.TheVariants as writer
use Rattle.width_rules.specs.Entries.{scope_of}
use Rattle.width_rules.specs.Forms.{first_number, statement_shown}
use Rattle.width_rules.specs.Mentions.{statement_reads, statement_targets}
use Rattle.width_rules.proofs.Shown.{shown_with}
use Rattle.statement_rules.specs.Statements.{sized_statement}
use Rattle.statement_rules.proofs.Placed.{placed_is}
use Rattle.statement_rules.proofs.blocking.size_combinational.Goals as goal

pub returns-clause-item : goal.returns-clause-item
returns-clause-item c =
    let scope = scope_of c.args.scope.now in
    let st = statement_of c.args.body.now in
    let places = c.in_ok-places.places in
    placed_is (Node (Own (Block (shown_with c.first_number.result c.statement_form.result) (stmt_of c.in_ok-body.body))))
    (Node (Own (Block (statement_shown scope st) (sized_statement scope writer.Combinational st)))) places.at c.args.at
    places.targets.items (statement_targets 0 st) places.reads.items (statement_reads scope 0 st)
    (ap₂ (λ (f : ShownTarget) (s : SizedStmt). Node (Own (Block f s)))
    (ap₂ shown_with (c.first_number.ensures ∙ ap first_number (c.deref.ensures.value ∙ c.in_ok-places.ensures.targets)) c.statement_form.ensures) c.in_ok-body.ensures.form)
    c.in_ok-places.ensures.at c.in_ok-places.ensures.targets c.in_ok-places.ensures.reads
