use Rattle.std.proofs.Common.{sym, ap, ◌∙◌}
use Rattle.state_layout.proofs.SlotWords.{blank, blank_widths, blank_fit, state_is, state_clean}
use Rattle.state_layout.proofs.Views.{zeros_are}
use Rattle.state_layout.proofs.slot_state.SlotState.zeros.Goals as goal

pub invariant_of-result : goal.invariant_of-result
invariant_of-result c =
    let ws = c.in_ok-try_clone.field-0.value in
    state_clean ws c.in_ok-pages.pages (blank ws) (blank_widths ws) (blank_fit ws)
    (zeros_are ws c.deref.result.now c.in_ok-pages.pages c.words.result c.in_ok-pages.ensures c.words.ensures.words (c.deref.ensures ∙ sym c.in_ok-try_clone.ensures))

pub returns : goal.returns
returns c =
    let ws = c.in_ok-try_clone.field-0.value in
    state_is ws c.in_ok-pages.pages (blank ws) (blank_widths ws) (blank_fit ws)
    (zeros_are ws c.deref.result.now c.in_ok-pages.pages c.words.result c.in_ok-pages.ensures c.words.ensures.words (c.deref.ensures ∙ sym c.in_ok-try_clone.ensures))
    ∙ ap blank c.in_ok-try_clone.ensures
