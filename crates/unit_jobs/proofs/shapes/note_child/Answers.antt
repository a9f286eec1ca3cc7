use Rattle.std.proofs.Common.{◌++◌, ◌∷◌, [], ℕ, Some, Option, cond, ap, sym, ◌∙◌}
use Rattle.typed_ir.specs.Rows.{row_in}
use Rattle.typed_ir.proofs.Rows.{row_pushed}
use Rattle.typed_ir.specs.Shapes.{stands_in}
use Rattle.unit_jobs.proofs.shapes.note_child.Goals as goal

pub returns-in_ok-push : goal.returns-in_ok-push
returns-in_ok-push c = λ i h.
    row_pushed c.args.rows.now c.index-index.result c.args.shape c.index-rows-index.result c.push.new.self c.if-index-rows.true
    c.in_ok-push.ensures.items i
    ∙ ap (λ (z : Option ℕ). row_in c.args.rows.now i ++ cond (stands_in i z) (c.args.shape ∷ []) [])
    (ap Some c.index-index.ensures ∙ sym c.in-Some.is)
