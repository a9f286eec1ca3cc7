use Rattle.verilog_ast.specs.Views.{statement_of}
use Rattle.width_rules.specs.Entries.{scope_of}
use Rattle.statement_rules.specs.SizedItems.{combinational_item}
use Rattle.statement_rules.proofs.Placed.{added}
use Rattle.statement_rules.proofs.blocking.add_combinational.Goals as goal

pub returns-clause-items : goal.returns-clause-items
returns-clause-items c =
    added c.args.items.now.items c.push.new.self.items c.in_ok-item.item
    (combinational_item (scope_of c.args.scope.now) c.args.at (statement_of c.args.body.now)) c.in_ok-push.ensures.items c.in_ok-item.ensures.item
