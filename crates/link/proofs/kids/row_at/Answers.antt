use Rattle.std.proofs.Common.{ℕ, Vec, Global, sym, ◌∙◌, ap, arith}
use Rattle.typed_ir.proofs.Rows.{row_read, row_past}
use Rattle.link.proofs.kids.row_at.Goals as goal

pub returns-then-k-rows : goal.returns-then-k-rows
returns-then-k-rows c = sym (row_past c.args.rows.now c.args.k (omega (arith, c.if-k-rows.true)))

pub returns : goal.returns
returns c =
    c.deref.ensures.value
    ∙ sym (row_read c.args.rows.now c.args.k c.index-rows-k.result (omega (arith, c.if-k-rows.false)) ∙ ap (λ (r : Vec ℕ Global). r.items) (sym c.index-rows-k.is))
