use Rattle.std.proofs.Common.{sym, ◌∙◌, ap}
use Rattle.typed_ir.specs.declared.node.Node.{Node}
use Rattle.typed_ir.specs.FlatNodes.{node_of}
use Rattle.typed_ir.specs.Statements.{stmt_of}
use Rattle.typed_ir.specs.Stmts.{targets}
use Rattle.link.specs.Names.{first_target}
use Rattle.link.proofs.Searching.{found_in, found_is}
use Rattle.link.proofs.targeting.first_target.Goals as goal

pub returns-in-Found : goal.returns-in-Found
returns-in-Found c =
    ap found_in (sym c.in-Found.is ∙ c.search.ensures) ∙ found_is (targets (stmt_of c.in-Block.body)) c.in-Block.shown.number
    ∙ sym (ap (λ (n : Node). first_target (node_of n)) c.in-Block.is)

pub returns-in-Left : goal.returns-in-Left
returns-in-Left c =
    ap found_in (sym c.in-Left.is ∙ c.search.ensures) ∙ found_is (targets (stmt_of c.in-Block.body)) c.in-Block.shown.number
    ∙ sym (ap (λ (n : Node). first_target (node_of n)) c.in-Block.is)
