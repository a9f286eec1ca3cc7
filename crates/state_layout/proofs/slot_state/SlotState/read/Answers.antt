use Rattle.std.proofs.Common.{length, ap, arith}
use Rattle.state_layout.specs.Words.{words_of}
use Rattle.state_layout.proofs.Views.{state_length, pages_length, read_fits, read_is}
use Rattle.state_layout.proofs.slot_state.SlotState.read.Goals as goal

pub slot-slot-requires : goal.slot-slot-requires
slot-slot-requires c =
    omega (arith, c.requires, ap length c.deref.ensures, state_length c.self.inside.layout.value c.self.inside.pages, ap length c.self.view_is)

pub slot_value-value-requires : goal.slot_value-value-requires
slot_value-value-requires c =
    omega (arith, c.slot-slot.ensures.first, c.slot-slot.ensures.within, ap words_of c.deref.ensures, pages_length c.self.inside.layout.value c.self.inside.pages c.self.invariant)

pub invariant_of-result : goal.invariant_of-result
invariant_of-result c = record {
  at_least_one = c.slot-slot.result.at_least_one;
  at_most_128 = c.slot-slot.result.at_most_128;
  fits = read_fits c.self.inside.layout.value c.deref.result.now c.self.inside.pages c.args.self.now c.args.register c.slot-slot.result.first c.slot-slot.result.width
      c.deref.ensures c.self.view_is c.slot-slot.ensures.first c.slot-slot.ensures.width c.requires c.slot_value-value.result c.slot_value-value.ensures c.self.invariant;
}

pub returns : goal.returns
returns c = read_is c.self.inside.layout.value c.deref.result.now c.self.inside.pages c.args.self.now c.args.register c.slot-slot.result.first c.slot-slot.result.width
    c.deref.ensures c.self.view_is c.slot-slot.ensures.first c.slot-slot.ensures.width c.requires c.slot_value-value.result c.slot_value-value.ensures
