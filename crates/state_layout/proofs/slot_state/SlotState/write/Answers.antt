use Rattle.std.proofs.Common.{◌^◌, ◌<◌, length, sym, ap, subst, arith}
use Rattle.std.proofs.lemmas.Result.{on_ok_weaker}
use Rattle.state_layout.specs.Words.{words_of}
use Rattle.state_layout.specs.Slots.{IsClean}
use Rattle.state_layout.proofs.Views.{state_length, pages_length, either_way, width_same, write_is, write_clean}
use Rattle.state_layout.proofs.slot_state.SlotState.write.Goals as goal

pub slot-slot-requires : goal.slot-slot-requires
slot-slot-requires c =
    omega (arith, c.requires.there, ap length c.deref.ensures, state_length c.self.inside.layout.value c.self.inside.pages, ap length c.self.view_is)

pub put_value-requires-clause-within : goal.put_value-requires-clause-within
put_value-requires-clause-within c =
    omega (arith, c.slot-slot.ensures.first, c.slot-slot.ensures.within, ap words_of c.deref.ensures, pages_length c.self.inside.layout.value c.self.inside.pages c.self.invariant)

pub put_value-requires-clause-fits : goal.put_value-requires-clause-fits
put_value-requires-clause-fits c = subst (λ w. c.args.value.value < 2 ^ w)
    (sym (width_same c.self.inside.layout.value c.deref.result.now c.self.inside.pages c.args.self.now c.args.register c.slot-slot.result.first c.slot-slot.result.width
    c.deref.ensures c.self.view_is c.slot-slot.ensures.first c.slot-slot.ensures.width c.requires.there c.args.value.width c.requires.width)) c.args.value.fits

pub invariant_of-self : goal.invariant_of-self
invariant_of-self c = either_way c.put_value.result c.put_value.ensures.ok c.put_value.ensures.err
    (λ put. write_clean c.self.inside.layout.value c.deref.result.now c.self.inside.pages c.args.self.now c.args.register c.slot-slot.result.first c.slot-slot.result.width
    c.deref.ensures c.self.view_is c.slot-slot.ensures.first c.slot-slot.ensures.width c.requires.there
    c.put_value.new.pages c.args.value.width c.args.value.value c.requires.width c.args.value.fits c.self.invariant put)
    (λ kept. subst (IsClean c.self.inside.layout.value) (sym kept) c.self.invariant)

pub returns-clause-ok : goal.returns-clause-ok
returns-clause-ok c = on_ok_weaker c.put_value.result
    (λ put. write_is c.self.inside.layout.value c.deref.result.now c.self.inside.pages c.args.self.now c.args.register c.slot-slot.result.first c.slot-slot.result.width
    c.deref.ensures c.self.view_is c.slot-slot.ensures.first c.slot-slot.ensures.width c.requires.there
    c.put_value.new.pages c.args.value.width c.args.value.value c.requires.width c.args.value.fits c.self.invariant put)
    c.put_value.ensures.ok
