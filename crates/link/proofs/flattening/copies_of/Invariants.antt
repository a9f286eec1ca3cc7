use Rattle.std.proofs.Common.{◌≡◌, ◌++◌, ℕ, true, List, map, length, drop}
use Rattle.typed_ir.specs.declared.instance_name.InstanceName.{InstanceName}
use Rattle.typed_ir.specs.Flats.{signal_of, are_within}
use Rattle.typed_ir.specs.FlatNodes.{node_of}
use Rattle.typed_ir.specs.Statements.{stmt_of}
use Rattle.typed_ir.specs.Rows.{row_in}
use Rattle.typed_ir.specs.Trees.{signals_at, registers_at, nodes_at, blocks_at}
use Rattle.link.specs.Copies.{all_sized, copied_from, path_at}
use Rattle.link.specs.Listings.{all_parts}
use Rattle.link.proofs.flattening.copies_of.Given as goal

-- what is there, and what is left
abbrev pub invariant-loop-i : goal.invariant-loop-i
invariant-loop-i l = record {
  signals_left : (rows : List InstanceName) →
      map (signal_of rows) l.signals.items ++ copied_from signals_at (path_at rows) (row_in l.kids) l.i l.first (all_sized (all_parts (drop l.i l.units)))
      ≡ copied_from signals_at (path_at rows) (row_in l.kids) 0 0 (all_sized (all_parts l.units));
  there : are_within l.signals.items (length l.units) ≡ true;
  registers_left : (path : ℕ → List ℕ) →
      l.registers.items ++ copied_from registers_at path (row_in l.kids) l.i l.first (all_sized (all_parts (drop l.i l.units)))
      ≡ copied_from registers_at path (row_in l.kids) 0 0 (all_sized (all_parts l.units));
  nodes_left : (path : ℕ → List ℕ) →
      map node_of l.nodes.items ++ copied_from nodes_at path (row_in l.kids) l.i l.first (all_sized (all_parts (drop l.i l.units)))
      ≡ copied_from nodes_at path (row_in l.kids) 0 0 (all_sized (all_parts l.units));
  blocks_left : (path : ℕ → List ℕ) →
      map stmt_of l.clocked.items ++ copied_from blocks_at path (row_in l.kids) l.i l.first (all_sized (all_parts (drop l.i l.units)))
      ≡ copied_from blocks_at path (row_in l.kids) 0 0 (all_sized (all_parts l.units));
}
