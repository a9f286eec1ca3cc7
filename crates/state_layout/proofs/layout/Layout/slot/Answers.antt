use Rattle.state_layout.proofs.Layouts.{slot_first, slot_width, slot_room}
use Rattle.state_layout.proofs.layout.Layout.slot.Goals as goal

pub returns-clause-first : goal.returns-clause-first
returns-clause-first c = slot_first c.self.inside.slots.items c.args.self.now c.args.register c.index.result c.index-2.result.now c.self.view_is c.self.invariant.0 c.requires c.index.ensures c.index-2.ensures

pub returns-clause-within : goal.returns-clause-within
returns-clause-within c = slot_room c.args.self.now c.args.register c.index-2.result.now.width c.requires
    (slot_width c.self.inside.slots.items c.args.self.now c.args.register c.index.result c.index-2.result.now c.self.view_is c.requires c.index.ensures c.index-2.ensures)
