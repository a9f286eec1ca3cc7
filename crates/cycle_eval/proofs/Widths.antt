-- The widths of a flat design's signals.
use Rattle.std.proofs.Common.{◌≡◌, ℕ, ap, map}
use Rattle.std.specs.Prelude.{slice_index}
use Rattle.typed_ir.specs.declared.linked.Linked.{Linked}
use Rattle.typed_ir.specs.Cycles.{Signal, width_at}
use Rattle.typed_ir.specs.Flats.{signal_widths}
use Rattle.typed_ir.specs.Linkeds.{flat}
use Rattle.typed_ir.proofs.Widths.{widths_stay}

-- the widths of the flat design are those of the signals
pub flat_widths : (l : Linked) → map (λ (x : Signal). x.width) (flat l.design).signals ≡ signal_widths l.design.signals.items
flat_widths l = widths_stay l.design.instances.rows.items l.design.signals.items

pub width_is : (l : Linked) (s : ℕ) → width_at (flat l.design) s ≡ slice_index (signal_widths l.design.signals.items) s
width_is l s = ap (λ ws. slice_index ws s) (flat_widths l)
