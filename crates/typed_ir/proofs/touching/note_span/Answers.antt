use Rattle.std.proofs.Common.{◌&&◌, ◌==◌, ap, sym, subst}
use Rattle.typed_ir.specs.Touches.{Adds}
use Rattle.typed_ir.specs.Valuations.{within}
use Rattle.typed_ir.proofs.Masks.{adds_one}
use Rattle.typed_ir.proofs.touching.note_span.Goals as goal

pub returns : goal.returns
returns c =
    let span = c.args.span in
    subst (λ ts. Adds c.args.touches.now.items ts (within span)) (sym c.in_ok-push.ensures.items)
    (adds_one c.args.touches.now.items (record { signal = span.signal; mask = c.run_mask.result }) (within span)
    (λ s i small. ap (λ t. (s == span.signal) && t) (c.run_mask.ensures i small)))
