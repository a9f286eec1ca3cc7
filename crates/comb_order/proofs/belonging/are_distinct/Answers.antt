use Rattle.std.proofs.Common.{◌≡◌, ◌+◌, ◌-◌, ◌<◌, ◌∙◌, ◌==◌, true, false, cond, length, get_or, drop, sym, ap, arith, nat_eq}
use Rattle.std.proofs.lemmas.Bool.{not-true, not-false}
use Rattle.indexmap.specs.IndexSet.{contains}
use Rattle.typed_ir.specs.Orders.{is_member, are_distinct}
use Rattle.comb_order.proofs.Sets.{one_before, still_distinct, twice}
use Rattle.comb_order.proofs.belonging.are_distinct.Goals as goal

pub returns-then-not-is_new : goal.returns-then-not-is_new
returns-then-not-is_new c =
    let xs = c.args.xs.now in
    let i = c.loop-left.left - 1 in
    let x = c.index-xs-left.result in
    let n = c.number-number.result in
    let same : n ≡ get_or xs i x = c.number-number.ensures ∙ c.index-xs-left.is in
    let within : i < length xs = omega arith in
    let more : c.loop-left.left ≡ i + 1 = omega arith in
    let there : contains nat_eq c.loop-left.set n ≡ true = not-false (contains nat_eq c.loop-left.set n) (sym c.in_ok-is_new.ensures.added ∙ c.if-not-is_new.true) in
    sym (twice xs i x within (ap (λ z. is_member z (drop (i + 1) xs)) (sym same) ∙ ap (λ k. is_member n (drop k xs)) (sym more)
    ∙ sym (c.loop-left.invariant.has n) ∙ there))

pub loop-left-preserved : goal.loop-left-preserved
loop-left-preserved c =
    let xs = c.args.xs.now in
    let i = c.loop-left.left - 1 in
    let x = c.index-xs-left.result in
    let n = c.number-number.result in
    let same : n ≡ get_or xs i x = c.number-number.ensures ∙ c.index-xs-left.is in
    let within : i < length xs = omega arith in
    let more : c.loop-left.left ≡ i + 1 = omega arith in
    let new : contains nat_eq c.loop-left.set n ≡ false = not-true (contains nat_eq c.loop-left.set n) (sym c.in_ok-is_new.ensures.added ∙ c.if-not-is_new.false) in
    record {
      within = omega arith;
      has = λ q.
          c.in_ok-is_new.ensures.updates.0 q
          ∙ ap (λ z. cond (z == q) true (contains nat_eq c.loop-left.set q)) same
          ∙ ap (cond (get_or xs i x == q) true) (c.loop-left.invariant.has q ∙ ap (λ k. is_member q (drop k xs)) more)
          ∙ one_before xs i q x within;
      distinct = still_distinct xs i x within
          (ap (λ z. is_member z (drop (i + 1) xs)) (sym same) ∙ ap (λ k. is_member n (drop k xs)) (sym more) ∙ sym (c.loop-left.invariant.has n) ∙ new)
          (ap (λ k. are_distinct (drop k xs)) (sym more) ∙ c.loop-left.invariant.distinct);
    }
