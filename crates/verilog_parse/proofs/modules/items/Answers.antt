use Rattle.std.proofs.Common.{arith}
use Rattle.verilog_expr.proofs.Lists.{grows_more, grows_end}
use Rattle.verilog_expr.specs.Tokens.{next}
use Rattle.verilog_expr.proofs.Runs.{then, other_at}
use Rattle.verilog_expr.proofs.Entries.{items_go}
use Rattle.verilog_parse.specs.Modules as spells
use Rattle.verilog_parse.specs.Modules.{Spells, another_item, no_item}
use Rattle.verilog_parse.proofs.modules.items.Goals as goal

pub items-preserved : goal.items-preserved
items-preserved c = let go = items_go c.args.weight (next c.items.p) c.items-test.ensures in record {
  machine = record { go = λ k out r. c.items.invariant.machine.go k out (other_at go (then c.in_ok-item.ensures.machine r)) };
  tree = grows_more (λ xs s r. Spells (spells.Items xs) s r) (λ xs r. Spells (spells.Items xs) c.args.p.now r) _ _ _ _ _ c.items.invariant.tree c.in_ok-push.ensures.ok (λ xs r. another_item c.items-test.ensures c.in_ok-item.ensures.tree);
  shorter = omega (arith, c.in_ok-item.ensures.shorter);
}

pub returns-clause-tree : goal.returns-clause-tree
returns-clause-tree c = grows_end (λ xs s r. Spells (spells.Items xs) s r) (λ xs r. Spells (spells.Items xs) c.args.p.now r) _ _ c.items.invariant.tree (no_item c.items-test.ensures)
