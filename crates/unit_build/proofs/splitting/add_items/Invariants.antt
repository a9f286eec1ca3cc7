use Rattle.std.proofs.Common.{◌≡◌, ◌++◌, map}
use Rattle.std.specs.Vec.Iter.{into_iter_items}
use Rattle.typed_ir.specs.Statements.{stmt_of}
use Rattle.typed_ir.specs.Items.{item_of, nodes_in, blocks_in}
use Rattle.typed_ir.specs.Units.{unit_node_of}
use Rattle.unit_build.proofs.splitting.add_items.Given as goal

abbrev pub invariant-loop-item : goal.invariant-loop-item
invariant-loop-item l = record {
  nodes : map unit_node_of l.nodes.items ++ nodes_in (map item_of (into_iter_items l.item-iterator))
      ≡ map unit_node_of l.initial.nodes.items ++ nodes_in (map item_of l.fn.items.items);
  clocked : map stmt_of l.clocked.items ++ blocks_in (map item_of (into_iter_items l.item-iterator))
      ≡ map stmt_of l.initial.clocked.items ++ blocks_in (map item_of l.fn.items.items);
}
