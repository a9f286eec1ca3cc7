use Rattle.std.proofs.Common.{◌≡◌, ◌≤◌, ◌*◌, ◌/◌, ◌==◌, ◌∷◌, [], OnOk, nat_le, ap, subst, ◌∙◌, sym}
use Rattle.std.proofs.lemmas.Bool.{eqb-true, leb-true}
use Rattle.typed_ir.specs.Sized.{width_of, agrees, copies}
use Rattle.typed_ir.specs.Forms.{sized}
use Rattle.design_steps.proofs.Fits.{agree_three, widths_right}
use Rattle.design_steps.specs.Pooled.{Holds}
use Rattle.design_steps.proofs.Holding.{both_ok, part_width}
use Rattle.design_steps.proofs.pooling.+pool.Goals as goal

pub pool_two-returns : goal.pool_two-returns
pool_two-returns t c = both_ok c.pool_form-2.result _ _ _ _ _ c.in_ok-pool_form.ensures c.pool_form-2.ensures

pub pool_three-returns : goal.pool_three-returns
pool_three-returns t c = both_ok c.pool_two.result _ _ _ _ _ c.in_ok-pool_form.ensures c.pool_two.ensures

pub pool_index-returns : goal.pool_index-returns
pool_index-returns t c = both_ok c.pool_value.result _ _ _ _ _ c.in_ok-pool_form.ensures c.pool_value.ensures

pub pool_repeat-copies_of_one-requires-clause-some : goal.pool_repeat-copies_of_one-requires-clause-some
pool_repeat-copies_of_one-requires-clause-some t c =
    let a = sized c.args.a.now in
    let p = agree_three (c.args.width == c.args.count * width_of a) (nat_le 1 c.args.count) (nat_le c.args.width 128) (agrees a) c.requires in
    let is : c.args.width / c.args.count ≡ width_of a =
    part_width c.args.width c.args.count (width_of a) (eqb-true c.args.width (c.args.count * width_of a) p.0) (leb-true 1 c.args.count p.1) in
    subst (λ w. 1 ≤ w) (sym is) (widths_right a p.3).0

pub pool_repeat-returns : goal.pool_repeat-returns
pool_repeat-returns t c =
    let a = sized c.args.a.now in
    let p = agree_three (c.args.width == c.args.count * width_of a) (nat_le 1 c.args.count) (nat_le c.args.width 128) (agrees a) c.requires in
    let is : c.args.width / c.args.count ≡ width_of a =
    part_width c.args.width c.args.count (width_of a) (eqb-true c.args.width (c.args.count * width_of a) p.0) (leb-true 1 c.args.count p.1) in
    both_ok c.pool_value.result _ _ _ _ _ c.in_ok-pool_form.ensures
    (subst (λ x. OnOk c.pool_value.result (Holds c.pool_form.new.pool.keys c.pool_value.new.pool.keys (x ∷ [])))
    (c.copies_of_one.ensures ∙ ap (λ w. copies c.args.count w 1) is) c.pool_value.ensures)
