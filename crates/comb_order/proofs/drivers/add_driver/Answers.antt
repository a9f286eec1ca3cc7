use Rattle.std.proofs.Common.{◌+◌, ◌++◌, ◌∷◌, [], ◌∙◌, ◌==◌, ◌&&◌, ◌||◌, List, sym, ap, subst}
use Rattle.std.specs.Prelude.{bit_or}
use Rattle.typed_ir.specs.Touches.{has_bit}
use Rattle.comb_order.specs.declared.drivers.Driver.{Driver}
use Rattle.comb_order.specs.Driving.{drives_in, Rises}
use Rattle.comb_order.proofs.Tables.{drives_merged, drives_both, drives_one}
use Rattle.comb_order.proofs.Rising.{rises_again, rises_next}
use Rattle.comb_order.proofs.drivers.add_driver.Goals as goal

pub returns-in_ok-push-in-Some-clause-drives : goal.returns-in_ok-push-in-Some-clause-drives
returns-in_ok-push-in-Some-clause-drives c = λ a i.
    let xs = c.pop.new.self.items in
    let last = c.in-Some.last in
    let d = c.args.driver in
    ap (λ z. drives_in z a i) c.in_ok-push-in-Some.ensures.items
    ∙ drives_merged xs d.item last.mask d.mask a i
    ∙ ap (λ z. drives_in z a i || ((a == d.item) && has_bit d.mask i))
    (ap (λ n. xs ++ record { item = n; mask = last.mask } ∷ []) (sym (sym c.number.ensures ∙ c.if-number.true ∙ c.number-in-Some.ensures)) ∙ sym c.in-Some.ensures.items)

pub returns-in_ok-push-in-Some-clause-rises : goal.returns-in_ok-push-in-Some-clause-rises
returns-in_ok-push-in-Some-clause-rises c =
    let d = c.args.driver in
    let last = c.in-Some.last in
    let both : Driver = record { item = d.item; mask = bit_or last.mask d.mask } in
    subst (λ (ds : List Driver). Rises 0 ds (d.item + 1)) (sym c.in_ok-push-in-Some.ensures.items)
    (rises_again c.pop.new.self.items last both (d.item + 1) (sym c.number.ensures ∙ c.if-number.true ∙ c.number-in-Some.ensures)
    (subst (λ (ds : List Driver). Rises 0 ds (d.item + 1)) c.in-Some.ensures.items c.requires))

pub returns-in_ok-push-in-Some-3-clause-drives : goal.returns-in_ok-push-in-Some-3-clause-drives
returns-in_ok-push-in-Some-3-clause-drives c = λ a i.
    let old = c.args.row.now.items in
    let d = c.args.driver in
    ap (λ z. drives_in z a i) (c.in_ok-push-in-Some-3.ensures.items ∙ ap (λ z. z ++ d ∷ []) (c.in_ok-push-in-Some-2.ensures.items ∙ sym c.in-Some.ensures.items))
    ∙ drives_both old (d ∷ []) a i ∙ ap (λ t. drives_in old a i || t) (drives_one d a i)

pub returns-in_ok-push-in-Some-3-clause-rises : goal.returns-in_ok-push-in-Some-3-clause-rises
returns-in_ok-push-in-Some-3-clause-rises c =
    let d = c.args.driver in
    subst (λ (ds : List Driver). Rises 0 ds (d.item + 1))
    (sym (c.in_ok-push-in-Some-3.ensures.items ∙ ap (λ z. z ++ d ∷ []) c.in_ok-push-in-Some-2.ensures.items))
    (rises_next c.pop.new.self.items c.in-Some.last d (λ e. c.if-number.false (c.number.ensures ∙ e ∙ sym c.number-in-Some.ensures))
    (subst (λ (ds : List Driver). Rises 0 ds (d.item + 1)) c.in-Some.ensures.items c.requires))
