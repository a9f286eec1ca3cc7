use Rattle.std.proofs.Common.{◌∙◌, ap}
use Rattle.checkpoint_book.specs.declared.left.Left.{Left}
use Rattle.checkpoint_book.specs.Idle.{takes_none}
use Rattle.checkpoint_book.proofs.Idles.{takes_none_is}
use Rattle.checkpoint_book.proofs.idle.is_idle.Goals as goal

pub returns : goal.returns
returns g c =
    let o = c.args.o.now in
    c.takes_none.ensures ∙ ap (λ (l : Left). takes_none c.args.by l) c.requires ∙ takes_none_is c.args.by 0 o.first o.segs.items
