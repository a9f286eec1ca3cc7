use Rattle.std.proofs.Common.{Bool, true, ◌==◌, cond, sym, ap, ◌∙◌}
use Rattle.module_names.specs.Listings.{is_listed}
use Rattle.module_names.proofs.Orders.{listed_last}
use Rattle.module_names.proofs.name_order.NameOrder.push.Goals as goal

pub invariant_of-self-in-Ok : goal.invariant_of-self-in-Ok
invariant_of-self-in-Ok c = λ q.
    c.in-Ok.ensures.updates.0 q
    ∙ ap (λ (b : Bool). cond (c.args.name.name.0 == q) true b) (c.self.invariant q)
    ∙ sym (listed_last q c.self.inside.all.items c.args.name)
    ∙ ap (λ ns. is_listed q ns) (sym c.in_ok-push.ensures.items)
