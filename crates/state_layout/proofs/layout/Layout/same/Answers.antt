use Rattle.std.proofs.Common.{◌<◌, length, sym, ◌∙◌, arith}
use Rattle.state_layout.proofs.Layouts.{same_width_at}
use Rattle.state_layout.proofs.layout.Layout.same.Goals as goal

pub returns-then-index-clause-all : goal.returns-then-index-clause-all
returns-then-index-clause-all c = λ same.
    let there : c.loop-index.index < length c.self.inside.slots.items = grind (arith, c.loop-index-test.true, c.self.inside.slots.ok, c.len-index-end.ensures) in
    absurd (c.if-index.true (same_width_at c.self.inside.slots.items c.other.inside.slots.items c.loop-index.index c.index.result.now c.index-in-loop-index.result.now
    (c.self.view_is ∙ same ∙ sym c.other.view_is) there c.index.ensures c.index-in-loop-index.ensures))
