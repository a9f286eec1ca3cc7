use Rattle.std.proofs.Common.{◌≡◌, ◌<◌, ◌+◌, ◌∙◌, ℕ, List, [], ◌∷◌, ◌++◌, map, drop, take, length, refl, ap, sym, subst}
use Rattle.std.proofs.lemmas.List.{at_drop_all, take_all, map_push}
use Rattle.typed_ir.specs.Valuations.{nowhere}
use Rattle.typed_ir.proofs.Lists.{take_next}
use Rattle.typed_ir.specs.declared.typed_item.TypedItem.{TypedItem}
use Rattle.typed_ir.specs.Items.{PlacedItem, item_of, body_of}
use Rattle.driver_rules.specs.declared.driver.Driver.{Driver}
use Rattle.driver_rules.specs.declared.driver_id.DriverId.{DriverId}
use Rattle.driver_rules.specs.declared.numbers.Numbers.{Numbers}
use Rattle.driver_rules.specs.Writes.{writes, spans_of, AreWithin}
use Rattle.driver_rules.specs.Doubles.{double_faults}
use Rattle.driver_rules.specs.Told.{marked, Grows, AreTold, numbers_after}
use Rattle.driver_rules.proofs.Walks.{each_item}
use Rattle.driver_rules.proofs.Taken.{State, no_items, next_item, all_told, double_same, double_ahead, item_apart}
use Rattle.driver_rules.proofs.taking.take_items.Goals as goal

pub loop-item-init : goal.loop-item-init
loop-item-init c = record {
  ahead = double_same (marked c.args.taken.now) nowhere (map item_of c.args.items.now) (λ s i small. c.requires.blank s i);
  state = subst (λ (ds : List Driver). State [] (record { nodes = 0; blocks = 0 }) c.args.taken.now ds) (sym c.new-drivers.ensures.items)
      (no_items (record { nodes = 0; blocks = 0 }) c.args.taken.now refl refl c.requires.blank);
}

pub take_item-requires : goal.take_item-requires
take_item-requires c =
    let x = c.item-item.result in
    subst (λ (n : ℕ). AreWithin n (spans_of (body_of x.body))) (sym c.loop-item.auto.taken)
    (each_item (λ (y : PlacedItem). AreWithin (length c.args.taken.now) (spans_of y.body)) c.args.items.now c.loop-item.item-index x
    c.requires.within c.loop-item-test.true c.item-item.is)

pub loop-item-preserved : goal.loop-item-preserved
loop-item-preserved c =
    let items = c.args.items.now in
    let k = c.loop-item.item-index in
    let x = c.item-item.result in
    let old = c.loop-item.taken in
    let new = c.take_item.new.taken in
    let was = c.loop-item.invariant in
    let did = c.in_ok-take_item.ensures in
    let grows : Grows c.driver_id-by.result old new c.loop-item.drivers.items c.take_item.new.drivers.items (writes (item_of x)) = did.grows in
    let next : State (map item_of (take k items) ++ item_of x ∷ []) (numbers_after c.loop-item.numbers (body_of x.body)) new c.take_item.new.drivers.items =
    next_item (map item_of (take k items)) (item_of x) c.loop-item.numbers old new c.loop-item.drivers.items c.take_item.new.drivers.items was.state
    (λ s i small. item_apart (marked old) (item_of x) s i did.faultless small)
    (subst (λ (by : DriverId). Grows by old new c.loop-item.drivers.items c.take_item.new.drivers.items (writes (item_of x))) c.driver_id-by.ensures grows) in
    record {
      ahead = double_ahead old new items k x c.loop-item-test.true c.item-item.is did.faultless grows.taken ∙ was.ahead;
      state = subst (λ (done : List PlacedItem). State done c.in_ok-numbers.numbers new c.take_item.new.drivers.items)
          (sym (ap (map item_of) (take_next items k x c.loop-item-test.true c.item-item.is) ∙ map_push item_of (take k items) x))
          (subst (λ (n : Numbers). State (map item_of (take k items) ++ item_of x ∷ []) n new c.take_item.new.drivers.items) (sym c.in_ok-numbers.ensures) next);
    }

pub returns-clause-faultless : goal.returns-clause-faultless
returns-clause-faultless c =
    sym c.loop-item.invariant.ahead
    ∙ at_drop_all (λ (xs : List TypedItem). double_faults (marked c.loop-item.taken) (map item_of xs)) c.args.items.now c.loop-item.item-index c.loop-item-test.false

pub returns-clause-told : goal.returns-clause-told
returns-clause-told c =
    all_told (map item_of c.args.items.now) c.loop-item.numbers c.loop-item.taken c.loop-item.drivers.items
    (subst (λ (xs : List TypedItem). State (map item_of xs) c.loop-item.numbers c.loop-item.taken c.loop-item.drivers.items)
    (take_all c.loop-item.item-index c.args.items.now c.loop-item-test.false) c.loop-item.invariant.state)
