use Rattle.std.proofs.Common.{length, sym, ap, ◌∙◌}
use Rattle.state_layout.proofs.Views.{state_length}
use Rattle.state_layout.proofs.slot_state.SlotState.len.Goals as goal

pub returns : goal.returns
returns c = c.len.ensures ∙ ap length c.deref.ensures ∙ sym (state_length c.self.inside.layout.value c.self.inside.pages) ∙ ap length c.self.view_is
