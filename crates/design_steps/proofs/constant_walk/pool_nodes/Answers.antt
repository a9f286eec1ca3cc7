use Rattle.std.proofs.Common.{◌≡◌, ◌<◌, ◌+◌, ◌-◌, map, length, drop, refl, sym, subst, arith}
use Rattle.typed_ir.specs.FlatNodes.{node_of}
use Rattle.design_steps.specs.Nodes.{as_statement}
use Rattle.design_steps.specs.Statements.{stmt_constants}
use Rattle.design_steps.specs.Pooled.{Holds, nodes_constants}
use Rattle.design_steps.proofs.Holding.{holds_next}
use Rattle.design_steps.proofs.constant_walk.pool_nodes.Goals as goal

pub nodes-preserved : goal.nodes-preserved
nodes-preserved c =
    let list = c.args.nodes.now in
    let left = c.nodes.left in
    let less : left - 1 < length list = omega (arith, c.nodes-test.true, c.nodes.invariant.within) in
    let more : left - 1 + 1 ≡ left = omega (arith, c.nodes-test.true) in
    record {
      within = omega (arith, c.nodes.invariant.within);
      holds = holds_next (λ n. stmt_constants (as_statement (node_of n))) (λ zs. nodes_constants (map node_of zs)) (λ x xs. refl) list (left - 1)
          c.index-nodes-left.result c.args.pool.now.keys c.nodes.pool.keys c.pool_node.new.pool.keys less c.index-nodes-left.is c.in_ok-pool_node.ensures
          (subst (λ i. Holds c.args.pool.now.keys c.nodes.pool.keys (nodes_constants (map node_of (drop i list)))) (sym more) c.nodes.invariant.holds);
    }
