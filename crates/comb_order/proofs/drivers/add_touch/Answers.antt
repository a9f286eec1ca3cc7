use Rattle.std.proofs.Common.{◌+◌, ◌∙◌, ◌||◌, ◌&&◌, ◌==◌, List, ap, sym, subst}
use Rattle.typed_ir.specs.Touches.{has_bit}
use Rattle.typed_ir.specs.Rows.{row_in}
use Rattle.typed_ir.proofs.Rows.{row_read}
use Rattle.comb_order.specs.declared.drivers.Driver.{Driver}
use Rattle.comb_order.specs.Driving.{drives_in, Rises}
use Rattle.comb_order.proofs.Tables.{touch_added}
use Rattle.comb_order.proofs.Rising.{one_rises}
use Rattle.comb_order.proofs.drivers.add_touch.Goals as goal

pub add_driver-requires : goal.add_driver-requires
add_driver-requires c =
    subst (λ (ds : List Driver). Rises 0 ds (c.args.item + 1))
    (row_read c.args.table.now c.index-signal.result c.index-table-signal.result c.if-signal-table.false) (c.requires c.index-signal.result)

pub returns-clause-rises : goal.returns-clause-rises
returns-clause-rises c =
    one_rises c.args.table.now c.index-signal.result c.add_driver.new.row (c.args.item + 1) c.if-signal-table.false c.in_ok-add_driver.ensures.rises c.requires

pub returns-clause-drives : goal.returns-clause-drives
returns-clause-drives c = λ a s i _.
    let table = c.args.table.now in
    let k = c.index-signal.result in
    let mask = c.args.touch.mask in
    touch_added table k c.add_driver.new.row c.args.item mask c.if-signal-table.false
    (λ b j. c.in_ok-add_driver.ensures.drives b j
    ∙ ap (λ z. drives_in z b j || ((b == c.args.item) && has_bit mask j)) (sym (row_read table k c.index-table-signal.result c.if-signal-table.false))) a s i
    ∙ ap (λ z. drives_in (row_in table s) a i || ((a == c.args.item) && ((s == z) && has_bit mask i))) c.index-signal.ensures
