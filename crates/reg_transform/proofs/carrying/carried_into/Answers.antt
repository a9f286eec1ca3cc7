use Rattle.std.proofs.Common.{◌≡◌, ◌≤◌, ◌+◌, ◌%◌, ◌^◌, ◌++◌, ◌<◌, ◌∷◌, [], ◌∙◌, ℕ, List, length, get_or, take, drop, set, refl, sym, ap, ap₂, arith}
use Rattle.std.specs.Prelude.{slice_index}
use Rattle.std.proofs.Math.ListN.{drop_of_length-le}
use Rattle.std.proofs.lemmas.List.{append-nil, length-map, take_more_set, take_all}
use Rattle.typed_ir.specs.Paths.{paths_of}
use Rattle.state_layout.specs.Slots.{state_widths}
use Rattle.state_layout.proofs.Splices.{written_widths}
use Rattle.state_layout.proofs.Views.{width_at}
use Rattle.reg_transform.specs.Beginnings.{initials_in}
use Rattle.reg_transform.specs.Found.{created_in, renamed_in, value_in, name_of}
use Rattle.reg_transform.specs.Numbers.{carried_by, number_at, numbers_in}
use Rattle.reg_transform.specs.Registers.{widths_of}
use Rattle.reg_transform.specs.Regs.{register_of, registers_in}
use Rattle.reg_transform.proofs.Values.{carried_step, pair, place_past, place_there, taken_by, taken_is, width_got}
use Rattle.reg_transform.proofs.carrying.carried_into.Goals as goal

pub loop-place-init : goal.loop-place-init
loop-place-init c = record { kept = c.requires.base; written = refl }

pub write-requires-clause-there : goal.write-requires-clause-there
write-requires-clause-there c = place_there c.loop-place.carried (paths_of c.args.new.now.instances.now.rows.items) c.args.new.now.signals.now
    c.args.new.now.registers.now c.loop-place.place c.loop-place.invariant.kept c.loop-place-test.true

pub write-requires-clause-width : goal.write-requires-clause-width
write-requires-clause-width c =
    let regs = c.args.new.now in
    let r = register_of (paths_of regs.instances.now.rows.items) c.signal_at-signal.result.now in
    ap (λ ws. get_or ws c.loop-place.place 0) c.loop-place.invariant.kept
    ∙ width_got (registers_in regs) c.loop-place.place r c.signal_at-signal.ensures.register ∙ sym c.new.ensures.width

pub loop-place-preserved : goal.loop-place-preserved
loop-place-preserved c =
    let regs = c.args.new.now in
    let numbers = c.args.numbers.now in
    let ops = c.args.ops.now in
    let old = value_in c.args.values.now in
    let changes = c.in_ok-changes.changes in
    let x = c.signal_at-signal.result.now in
    let n = slice_index numbers x.instance in
    let paths = paths_of regs.instances.now.rows.items in
    let r = register_of paths x in
    let i = x.initial in
    let key = c.key_at-key.result in
    let s = c.loop-place.carried in
    let j = c.loop-place.place in
    let b = c.new.result in
    let taken : c.value_at-value.result ≡ taken_by ops old n r i =
    c.value_at-value.ensures
    ∙ taken_is ops old (created_in changes) (renamed_in changes) key.instance n (name_of key.called) r i c.key_at-key.ensures.number
    (c.key_at-key.ensures.called paths) c.in_ok-changes.ensures.created c.in_ok-changes.ensures.renamed in
    let here : pair b.width b.value ≡ (r.width, taken_by ops old n r i % 2 ^ r.width) =
    ap₂ pair c.new.ensures.width (c.new.ensures.value ∙ ap (λ v. v % 2 ^ x.width) taken) in
    let widths : state_widths s ≡ widths_of (registers_in regs) = c.loop-place.invariant.kept in
    let there : j < length s = place_there s paths regs.signals.now regs.registers.now j widths c.loop-place-test.true in
    let own : (get_or s j (0, 0)).0 ≡ b.width =
    sym (width_at s j) ∙ ap (λ ws. get_or ws j 0) widths ∙ width_got (registers_in regs) j r c.signal_at-signal.ensures.register ∙ sym c.new.ensures.width in
    let put : c.write.new.self ≡ set s j (b.width, b.value) = c.in_ok-write.ensures.ok in
    let more : take (j + 1) c.write.new.self ≡ take j s ++ (r.width, taken_by ops old n r i % 2 ^ r.width) ∷ [] =
    ap (take (j + 1)) put ∙ take_more_set s j (b.width, b.value) there ∙ ap (λ p. take j s ++ p ∷ []) here in
    record {
      kept = ap state_widths put ∙ written_widths s j b.width b.value (0, 0) own ∙ c.loop-place.invariant.kept;
      written = carried_step ops old (numbers_in numbers regs) (registers_in regs) (initials_in regs) j n r i (take j s) (take (j + 1) c.write.new.self)
          (c.signal_at-signal.ensures.number numbers) c.signal_at-signal.ensures.register c.signal_at-signal.ensures.initial more
          ∙ c.loop-place.invariant.written;
    }

pub returns : goal.returns
returns c =
    let regs = c.args.new.now in
    let ops = c.args.ops.now in
    let old = value_in c.args.values.now in
    let ns = numbers_in c.args.numbers.now regs in
    let rs = registers_in regs in
    let xs = initials_in regs in
    let s = c.loop-place.carried in
    let j = c.loop-place.place in
    let paths = paths_of regs.instances.now.rows.items in
    let long : length ns ≡ length regs.registers.now = length-map regs.registers.now (number_at c.args.numbers.now regs.signals.now) in
    let past : length ns ≤ j = omega (arith, long, c.loop-place-test.false) in
    let few : length s ≤ j =
    place_past s paths regs.signals.now regs.registers.now j c.loop-place.invariant.kept (omega (arith, c.loop-place-test.false)) in
    sym (take_all j s few)
    ∙ sym (append-nil (take j s))
    ∙ sym (ap (λ (zs : List ℕ). take j s ++ carried_by ops old zs (drop j rs) (drop j xs)) (drop_of_length-le ns past))
    ∙ c.loop-place.invariant.written
