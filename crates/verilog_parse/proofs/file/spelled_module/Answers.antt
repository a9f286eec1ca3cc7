use Rattle.std.proofs.Common.{◌<◌, ◌∙◌, length}
use Rattle.verilog_parse.proofs.Wholes.{spelled_so, named_after}
use Rattle.verilog_parse.proofs.file.spelled_module.Goals as goal

pub returns-clause-tree : goal.returns-clause-tree
returns-clause-tree c = spelled_so c.args.names.now _ c.args.p.now c.module.new.p c.rest-start.result.now c.rest.result.now _ c.rest-start.ensures c.rest.ensures c.split_at.ensures.front (c.new.ensures ∙ c.in_ok-text.ensures) c.in_ok-body.ensures.machine c.in_ok-body.ensures.tree

pub returns-clause-named : goal.returns-clause-named
returns-clause-named c = named_after (λ t. t.text.0 < length c.args.names.now) c.args.p.now c.module.new.p c.in_ok-body.ensures.machine c.requires
