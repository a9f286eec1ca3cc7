use Rattle.std.proofs.Common.{sym, ap, ◌∙◌}
use Rattle.state_layout.specs.Slots.{state_widths}
use Rattle.state_layout.proofs.SlotWords.{widths_back}
use Rattle.state_layout.proofs.slot_state.SlotState.same.Goals as goal

pub returns-else-same-clause-all : goal.returns-else-same-clause-all
returns-else-same-clause-all c = λ same.
    let one = ap state_widths (sym c.self.view_is) ∙ widths_back c.self.inside.layout.value c.self.inside.pages in
    let other = ap state_widths (sym c.other.view_is) ∙ widths_back c.other.inside.layout.value c.other.inside.pages in
    c.same.ensures.all (c.deref.ensures ∙ sym one ∙ ap state_widths same ∙ other ∙ sym c.deref-2.ensures)
