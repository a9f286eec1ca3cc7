use Rattle.verilog_parse.proofs.Wholes.{stands_so}
use Rattle.verilog_parse.proofs.file.whole_file.Goals as goal

pub returns-clause-tree : goal.returns-clause-tree
returns-clause-tree c = stands_so c.args.names.now c.in_ok-all.all.items c.args.tokens.now _ _ _ _ c.new-p.ensures c.requires.ends c.in_ok-all.ensures.tree c.in_ok-all.ensures.machine c.in_ok-expect.ensures.takes c.in_ok-expect.ensures.machine
