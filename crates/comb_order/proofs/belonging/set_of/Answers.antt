use Rattle.std.proofs.Common.{◌||◌, ◌+◌, ◌∙◌, ◌==◌, true, cond, ℕ, List, sym, ap, drop, nat_eq}
use Rattle.std.proofs.Math.Bool.{or-false}
use Rattle.std.proofs.lemmas.List.{at_drop_all}
use Rattle.indexmap.specs.IndexSet.{contains}
use Rattle.typed_ir.specs.Orders.{is_member}
use Rattle.comb_order.proofs.Sets.{one_more}
use Rattle.comb_order.proofs.belonging.set_of.Goals as goal

pub loop-x-preserved : goal.loop-x-preserved
loop-x-preserved c = λ q.
    let xs = c.args.xs.now in
    let i = c.loop-x.x-index in
    let had = contains nat_eq c.loop-x.set q in
    ap (λ b. b || is_member q (drop (i + 1) xs)) (c.in_ok-insert.ensures.updates.0 q)
    ∙ ap (λ n. cond (n == q) true had || is_member q (drop (i + 1) xs)) (c.number-number.ensures ∙ c.x-item.is)
    ∙ one_more xs i q c.x-item.result had c.loop-x-test.true
    ∙ c.loop-x.invariant q

pub returns : goal.returns
returns c = λ q.
    sym (or-false (contains nat_eq c.loop-x.set q))
    ∙ sym (at_drop_all (λ (zs : List ℕ). contains nat_eq c.loop-x.set q || is_member q zs) c.args.xs.now c.loop-x.x-index c.loop-x-test.false)
    ∙ c.loop-x.invariant q
