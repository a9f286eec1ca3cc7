use Rattle.verilog_expr.proofs.Lists.{grows_more, grows_end}
use Rattle.verilog_expr.proofs.Runs.{then, expand_at}
use Rattle.verilog_parse.specs.Files.{SpellsAll, another_module, no_module}
use Rattle.verilog_parse.proofs.file.modules.Goals as goal

pub items-preserved : goal.items-preserved
items-preserved c = record {
  machine = record { go = λ k out r. c.items.invariant.machine.go k out (expand_at c.items-test.ensures (then c.in_ok-spelled_module.ensures.machine r)) };
  tree = grows_more (λ xs s r. SpellsAll c.args.names.now xs s r) (λ xs r. SpellsAll c.args.names.now xs c.args.p.now r) _ _ _ _ _ c.items.invariant.tree c.in_ok-push.ensures.items (λ xs r. another_module c.items-test.ensures c.in_ok-spelled_module.ensures.tree);
  named = c.in_ok-spelled_module.ensures.named;
}

pub returns-clause-tree : goal.returns-clause-tree
returns-clause-tree c = grows_end (λ xs s r. SpellsAll c.args.names.now xs s r) (λ xs r. SpellsAll c.args.names.now xs c.args.p.now r) _ _ c.items.invariant.tree (no_module c.items-test.ensures)
