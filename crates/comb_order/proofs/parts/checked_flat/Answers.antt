use Rattle.std.proofs.Common.{Vec, ◌≡◌, ◌&&◌, ◌∙◌, ℕ, List, true, map, length, sym, ap, subst, arith, rules, true≢false}
use Rattle.std.specs.Global.{Global}
use Rattle.typed_ir.specs.Flats.{signal_widths, are_clocked, are_below, flat_from}
use Rattle.typed_ir.specs.FlatNodes.{node_of}
use Rattle.typed_ir.specs.Statements.{stmt_of}
use Rattle.typed_ir.specs.Nodes.{are_legal, drives_at}
use Rattle.typed_ir.specs.Views.{widths}
use Rattle.comb_order.specs.declared.drivers.Driver.{Driver}
use Rattle.comb_order.specs.Driving.{IsTable}
use Rattle.typed_ir.specs.Orders.{are_distinct}
use Rattle.comb_order.specs.Parts.{none_in, blocks_in, rows_apart, are_undriven, IsDesign}
use Rattle.comb_order.proofs.Flatten.{All4, all_four, flat_sound}
use Rattle.comb_order.proofs.Designs.{parts_table}
use Rattle.comb_order.proofs.Passing.{sized_passes, held_passes, driven_passes}
use Rattle.comb_order.proofs.parts.checked_flat.Goals as goal

pub invariant_of-result : goal.invariant_of-result
invariant_of-result c =
    let rows = c.args.parts.instances.rows.items in
    let signals = c.args.parts.signals.items in
    let registers = c.args.parts.registers.items in
    let inputs = c.args.parts.inputs.items in
    let nodes = c.args.parts.nodes.items in
    let clocked = c.args.parts.clocked.items in
    let table = c.in_ok-table.table.items in
    let ws = signal_widths signals in
    let widths_are : widths c.deref-2.result.now ≡ ws =
    ap widths c.deref-2.ensures.value ∙ c.in_ok-env.ensures ∙ ap signal_widths c.deref.ensures.value in
    let sized : All4 (are_legal (map node_of nodes) ws) (are_clocked clocked ws) (are_below registers (length signals)) (are_below inputs (length signals)) =
    all_four _ _ _ _
    (subst (λ (w : List ℕ). (are_legal (map node_of nodes) w && (are_clocked clocked w && (are_below registers (length signals) && are_below inputs (length signals)))) ≡ true)
    widths_are (sym c.are_sized.ensures ∙ c.if-not-are_sized.false)) in
    let held : All4 (are_distinct registers) (are_distinct inputs) (none_in inputs registers) (blocks_in registers (map stmt_of clocked)) =
    all_four _ _ _ _ (sym c.in_ok-held.ensures ∙ c.if-not-held.false) in
    let count : c.len.result ≡ length signals = search (rules, c.len.ensures) in
    let is : IsTable (map node_of nodes) table =
    parts_table signals (map node_of nodes) table sized.one (c.in_ok-table.ensures.length ∙ count)
    (λ a s i h low. c.in_ok-table.ensures.drives a s i (omega (arith, h, count)) low
    ∙ ap (λ ns. drives_at (map node_of ns) a s i) c.deref-3.ensures.value) in
    let driven : (rows_apart table && (are_undriven table registers && are_undriven table inputs)) ≡ true =
    subst (λ (t : List (Vec Driver Global)). (rows_apart t && (are_undriven t registers && are_undriven t inputs)) ≡ true) c.deref-4.ensures.value
    (sym c.are_driven_once.ensures ∙ c.if-not-are_driven_once.false) in
    record {
      signals_there = sym c.are_placed.ensures ∙ c.if-not-are_placed.false;
      legal = sized.one;
      blocks = sized.two;
      registers_there = sized.three;
      inputs_there = sized.four;
      few = c.requires.few;
      sound = ∣ flat_sound (flat_from rows signals registers inputs nodes clocked) table is c.requires.complete c.requires.first held driven
          (c.in_ok-written.ensures.one c.if-not-written.false) ∣₁;
    }

pub returns-then-not-are_placed-clause-refused : goal.returns-then-not-are_placed-clause-refused
returns-then-not-are_placed-clause-refused c = λ (is : IsDesign c.args.parts).
    true≢false (sym is.signals_there ∙ sym c.are_placed.ensures ∙ c.if-not-are_placed.true)

pub returns-then-not-are_sized-clause-refused : goal.returns-then-not-are_sized-clause-refused
returns-then-not-are_sized-clause-refused c = λ (is : IsDesign c.args.parts).
    let signals = c.args.parts.signals.items in
    let registers = c.args.parts.registers.items in
    let inputs = c.args.parts.inputs.items in
    let nodes = c.args.parts.nodes.items in
    let clocked = c.args.parts.clocked.items in
    let widths_are : widths c.deref-2.result.now ≡ signal_widths signals =
    ap widths c.deref-2.ensures.value ∙ c.in_ok-env.ensures ∙ ap signal_widths c.deref.ensures.value in
    true≢false (sym (sized_passes c.args.parts is)
    ∙ ap (λ (w : List ℕ). are_legal (map node_of nodes) w && (are_clocked clocked w && (are_below registers (length signals) && are_below inputs (length signals))))
    (sym widths_are) ∙ sym c.are_sized.ensures ∙ c.if-not-are_sized.true)

pub returns-then-not-held-clause-refused : goal.returns-then-not-held-clause-refused
returns-then-not-held-clause-refused c = λ (is : IsDesign c.args.parts).
    true≢false (sym (held_passes (flat_from c.args.parts.instances.rows.items c.args.parts.signals.items c.args.parts.registers.items c.args.parts.inputs.items c.args.parts.nodes.items c.args.parts.clocked.items) is.flat)
    ∙ sym c.in_ok-held.ensures ∙ c.if-not-held.true)

pub returns-then-not-are_driven_once-clause-refused : goal.returns-then-not-are_driven_once-clause-refused
returns-then-not-are_driven_once-clause-refused c = λ (is : IsDesign c.args.parts).
    let rows = c.args.parts.instances.rows.items in
    let signals = c.args.parts.signals.items in
    let registers = c.args.parts.registers.items in
    let inputs = c.args.parts.inputs.items in
    let nodes = c.args.parts.nodes.items in
    let clocked = c.args.parts.clocked.items in
    let table = c.in_ok-table.table.items in
    let count : c.len.result ≡ length signals = search (rules, c.len.ensures) in
    let whole : IsTable (map node_of nodes) table =
    parts_table signals (map node_of nodes) table is.legal (c.in_ok-table.ensures.length ∙ count)
    (λ a s i h low. c.in_ok-table.ensures.drives a s i (omega (arith, h, count)) low
    ∙ ap (λ ns. drives_at (map node_of ns) a s i) c.deref-3.ensures.value) in
    true≢false (sym (driven_passes (flat_from rows signals registers inputs nodes clocked) table (length c.deref-3.result.now) whole c.in_ok-table.ensures.rises is.flat)
    ∙ ap (λ (t : List (Vec Driver Global)). rows_apart t && (are_undriven t registers && are_undriven t inputs)) (sym c.deref-4.ensures.value)
    ∙ sym c.are_driven_once.ensures ∙ c.if-not-are_driven_once.true)

pub are_written_once-requires : goal.are_written_once-requires
are_written_once-requires c =
    let signals = c.args.parts.signals.items in
    let registers = c.args.parts.registers.items in
    let inputs = c.args.parts.inputs.items in
    let nodes = c.args.parts.nodes.items in
    let clocked = c.args.parts.clocked.items in
    let ws = signal_widths signals in
    let widths_are : widths c.deref-2.result.now ≡ ws =
    ap widths c.deref-2.ensures.value ∙ c.in_ok-env.ensures ∙ ap signal_widths c.deref.ensures.value in
    let sized : All4 (are_legal (map node_of nodes) ws) (are_clocked clocked ws) (are_below registers (length signals)) (are_below inputs (length signals)) =
    all_four _ _ _ _
    (subst (λ (w : List ℕ). (are_legal (map node_of nodes) w && (are_clocked clocked w && (are_below registers (length signals) && are_below inputs (length signals)))) ≡ true)
    widths_are (sym c.are_sized.ensures ∙ c.if-not-are_sized.false)) in
    sized.two

pub returns-then-not-written-clause-refused : goal.returns-then-not-written-clause-refused
returns-then-not-written-clause-refused c = λ (is : IsDesign c.args.parts).
    c.in_ok-written.ensures.two c.if-not-written.true is.flat.one_writer
