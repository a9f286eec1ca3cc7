use Rattle.std.proofs.Common.{◌∙◌, sym}
use Rattle.bits.proofs.Modulo.{fits_wider, zero_fits}
use Rattle.bits.proofs.Runs.{selected_far}
use Rattle.typed_ir.specs.Sized.{place_of}
use Rattle.typed_ir.proofs.apply.picked.Goals as goal

pub returns-in-None-clause-value : goal.returns-in-None-clause-value
returns-in-None-clause-value c =
    let x = c.args.x in
    c.new.ensures.value ∙ zero_fits c.args.width
    ∙ sym (selected_far x.value (place_of c.args.below c.args.signed c.args.index.width c.args.index.value) c.args.width
    (fits_wider x.value x.width 128 x.fits x.at_most_128) c.requires.at_most_128 c.in-None.ensures)
