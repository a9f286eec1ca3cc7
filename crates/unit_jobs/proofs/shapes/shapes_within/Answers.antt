use Rattle.std.proofs.Common.{◌≡◌, ◌++◌, ◌<◌, ℕ, List, Vec, Global, length, map, ap, subst, ◌∙◌, rules}
use Rattle.typed_ir.specs.Rows.{row_in}
use Rattle.typed_ir.proofs.Lists.{written_back}
use Rattle.typed_ir.specs.declared.child_shape.ChildShape.{ChildShape}
use Rattle.unit_jobs.specs.Rows.{row_of, shapes_in}
use Rattle.unit_jobs.proofs.Rows.{rows_all}
use Rattle.unit_jobs.proofs.shapes.shapes_within.Goals as goal

pub returns : goal.returns
returns c =
    let all = c.args.instances.now in
    let new = c.note_children.new.rows in
    let empty = c.in_ok-rows.rows.items in
    let same : length new ≡ length empty = search rules in
    let long : length new ≡ c.in_ok-rows.rows.len = search rules in
    let many : length empty ≡ length all = search rules in
    let Appended : List (Vec ChildShape Global) → Type 0 = λ old. (k : ℕ) → k < length old → row_in new k ≡ row_in old k ++ shapes_in k all in
    ap (map row_of) (written_back c.in_ok-rows.rows.len new empty same long)
    ∙ rows_all all empty new many same c.in_ok-rows.ensures.empty (subst Appended c.deref_mut.ensures.value c.in_ok-note_children.ensures)
