use Rattle.std.proofs.Common.{Vec, ◌∙◌, ap, sym}
use Rattle.std.specs.Global.{Global}
use Rattle.typed_ir.specs.Rows.{row_in}
use Rattle.typed_ir.proofs.Rows.{row_read, row_past}
use Rattle.comb_order.specs.declared.drivers.Driver.{Driver}
use Rattle.comb_order.proofs.edges.drivers_at.Goals as goal

pub returns-then-index-table : goal.returns-then-index-table
returns-then-index-table c =
    let table = c.args.table.now in
    c.deref.ensures.value ∙ ap (λ (r : Vec Driver Global). r.items) c.index-table-index.is
    ∙ sym (row_read table c.index-index.result c.index-table-index.result c.if-index-table.true)
    ∙ ap (row_in table) c.index-index.ensures

pub returns-else-index-table : goal.returns-else-index-table
returns-else-index-table c = sym (row_past c.args.table.now c.index-index.result c.if-index-table.false) ∙ ap (row_in c.args.table.now) c.index-index.ensures
