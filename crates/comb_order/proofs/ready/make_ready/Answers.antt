use Rattle.std.proofs.Common.{◌<◌, ◌++◌, ◌∷◌, [], inl, refl, length, sym, subst}
use Rattle.std.specs.declared.cmp.Reverse.{Reverse}
use Rattle.std.proofs.lemmas.List.Sorted.{IsPermutation-map}
use Rattle.typed_ir.specs.Orders.{Member}
use Rattle.typed_ir.proofs.Members.{member_left, member_right}
use Rattle.comb_order.specs.declared.turn.Turn.{Turn}
use Rattle.comb_order.specs.Ready.{nodes_in}
use Rattle.comb_order.proofs.Permuted.{one_ready}
use Rattle.comb_order.proofs.ready.make_ready.Goals as goal

pub loop-node-preserved : goal.loop-node-preserved
loop-node-preserved c = record {
  all = one_ready (c.args.free.now.items ++ nodes_in c.args.ready.now) c.loop-node.free.items c.pop.new.self.items c.in-Some.node c.number.result
      (nodes_in c.loop-node.ready) (nodes_in c.push.new.self) c.in-Some.ensures.items c.number.ensures
      (IsPermutation-map (λ (r : Reverse Turn). r.0.node) _ _ c.in_ok-push.ensures.permutation) c.loop-node.invariant.all;
  ranked = λ t m. c.loop-node.invariant.ranked t
      (subst (Member t) (sym c.in-Some.ensures.items) (member_left t c.pop.new.self.items (c.in-Some.node ∷ []) m));
}

pub bounds-ranks-index : goal.bounds-ranks-index
bounds-ranks-index c =
    let node = c.in-Some.node in
    let here : Member node c.loop-node.free.items =
    subst (Member node) (sym c.in-Some.ensures.items) (member_right node c.pop.new.self.items (node ∷ []) (inl refl)) in
    subst (λ n. n < length c.args.ranks.now) (sym c.index.ensures) (c.loop-node.invariant.ranked node here)
