use Rattle.block_rules.proofs.Leading.{learn_leads, none_learnt}
use Rattle.block_rules.proofs.learning.learn.Goals as goal

pub returns-then-gained-eq0 : goal.returns-then-gained-eq0
returns-then-gained-eq0 c =
    none_learnt c.args.table.now c.add.new.self c.args.learned.now.items c.args.signal c.args.mask c.mask-before.result c.mask.result
    c.mask-before.ensures c.mask.ensures c.add.ensures.size c.add.ensures.bits c.if-gained-eq0.true

pub returns : goal.returns
returns c =
    learn_leads c.args.table.now c.add.new.self c.args.learned.now.items c.push.new.self.items c.args.signal c.args.mask c.mask-before.result c.mask.result
    c.mask-before.ensures c.mask.ensures c.add.ensures.size c.add.ensures.bits c.in_ok-push.ensures.items
