use Rattle.std.proofs.Common.{◌==◌, sym, subst}
use Rattle.typed_ir.specs.Touches.{Adds}
use Rattle.typed_ir.proofs.Masks.{adds_one, whole_mask}
use Rattle.typed_ir.proofs.touching.note_signal.Goals as goal

pub returns : goal.returns
returns c =
    let signal = c.args.signal in
    subst (λ ts. Adds c.args.touches.now.items ts (λ s i. s == signal)) (sym c.in_ok-push.ensures.items)
    (adds_one c.args.touches.now.items (record { signal = signal; mask = 340282366920938463463374607431768211455 }) (λ s i. s == signal) (whole_mask signal))
