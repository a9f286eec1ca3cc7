use Rattle.std.proofs.Common.{rules, ◌≡◌, ◌∷◌, ◌+◌, List, length, drop, subst, arith}
use Rattle.std.proofs.lemmas.List.{drop_all, nil_from_length}
use Rattle.link.specs.Listings.{parts_of}
use Rattle.typed_ir.proofs.Lists.{drop_read}
use Rattle.typed_ir.specs.declared.child_shape.ChildShape.{ChildShape}
use Rattle.unit_rows.specs.Standing.{IsUnitOf}
use Rattle.unit_rows.proofs.Fitting.{with_more, with_none}
use Rattle.unit_rows.proofs.standing.are_with.Goals as goal

pub loop-row-preserved : goal.loop-row-preserved
loop-row-preserved c = λ later.
    let i = c.loop-row.row-index in
    let rows = c.args.rows.now in
    let row = c.row-item.result in
    let x = c.in-Some.one.now in
    let unit = c.in-Some-split_first.unit.now in
    let behind = c.in-Some-split_first.behind.now in
    let here : drop i rows ≡ row ∷ drop (i + 1) rows = drop_read rows i row (omega (arith, c.loop-row-test.true)) c.row-item.is in
    let next : c.loop-row.left.now ≡ x ∷ c.in-Some.after.now = search rules in
    let split : c.loop-row.rest.now ≡ unit ∷ behind = search rules in
    let one : IsUnitOf (parts_of unit) x c.deref.result.now = search rules in
    let at_row : IsUnitOf (parts_of unit) x row.items =
    subst (λ (shapes : List ChildShape). IsUnitOf (parts_of unit) x shapes) c.deref.ensures.value one in
    c.loop-row.invariant
    (with_more (drop i rows) (drop (i + 1) rows) row c.loop-row.left.now c.in-Some.after.now x c.loop-row.rest.now behind unit here next split
    at_row later)

pub returns : goal.returns
returns c =
    let i = c.loop-row.row-index in
    let rows = c.args.rows.now in
    let no_instance : length c.loop-row.left.now ≡ 0 = search rules in
    let no_unit : length c.loop-row.rest.now ≡ 0 = search rules in
    c.loop-row.invariant
    (with_none (drop i rows) c.loop-row.left.now c.loop-row.rest.now (drop_all i rows (omega (arith, c.loop-row-test.false)))
    (nil_from_length c.loop-row.left.now no_instance) (nil_from_length c.loop-row.rest.now no_unit))
