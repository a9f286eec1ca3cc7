use Rattle.std.proofs.Common.{[], ◌∷◌, ◌++◌, ◌∙◌, ap}
use Rattle.block_rules.proofs.Finding.{early_is}
use Rattle.block_rules.proofs.reading.flag_read.Goals as goal

pub returns : goal.returns
returns c =
    c.in_ok-push.ensures.items
    ∙ ap (λ flag. c.args.flags.now.items ++ flag ∷ [])
    (c.is_open.ensures
    ∙ early_is c.args.span c.args.written.now c.args.known.now c.run_mask.result c.mask.result c.mask-2.result c.run_mask.ensures c.mask.ensures c.mask-2.ensures)
