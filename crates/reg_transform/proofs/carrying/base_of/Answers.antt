use Rattle.std.proofs.Common.{◌≡◌, ◌∙◌, ap}
use Rattle.std.specs.Arc.{arc_value}
use Rattle.std.proofs.lemmas.Result.{IfOk-weaker}
use Rattle.state_layout.specs.Slots.{state_widths}
use Rattle.state_layout.proofs.SlotWords.{blank, blank_widths}
use Rattle.reg_transform.specs.Registers.{widths_of}
use Rattle.reg_transform.specs.Regs.{registers_in}
use Rattle.reg_transform.proofs.carrying.base_of.Goals as goal

pub returns-else-same : goal.returns-else-same
returns-else-same c =
    let new = c.args.new.now in
    let ws = arc_value new.slots.now in
    IfOk-weaker c.zeros.result (λ s. s ≡ blank ws) (λ s. state_widths s ≡ widths_of (registers_in new.regs))
    (λ s e. ap state_widths e ∙ blank_widths ws ∙ new.laid) c.zeros.ensures
