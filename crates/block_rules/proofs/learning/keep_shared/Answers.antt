use Rattle.std.proofs.Common.{◌&&◌, ◌==◌, refl, sym, subst}
use Rattle.typed_ir.specs.Touches.{has_bit, Adds}
use Rattle.block_rules.specs.Tables.{bits_of}
use Rattle.block_rules.proofs.Finding.{none_shared, one_shared}
use Rattle.block_rules.proofs.learning.keep_shared.Goals as goal

pub returns-then-both-eq0 : goal.returns-then-both-eq0
returns-then-both-eq0 c =
    none_shared c.args.kept.now.items _ c.mask.result c.args.table.now c.args.signal c.args.mask c.if-both-eq0.true refl c.mask.ensures

pub returns : goal.returns
returns c =
    subst (λ ts. Adds c.args.kept.now.items ts (λ s i. ((s == c.args.signal) && has_bit c.args.mask i) && bits_of c.args.table.now s i))
    (sym c.in_ok-push.ensures.items)
    (one_shared c.args.kept.now.items _ c.mask.result c.args.table.now c.args.signal c.args.mask refl c.mask.ensures)
