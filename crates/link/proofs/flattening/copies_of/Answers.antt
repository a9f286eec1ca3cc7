use Rattle.std.proofs.Common.{◌≡◌, ◌+◌, ◌++◌, ℕ, List, map, length, slice_index, ◌∙◌, ap, arith}
use Rattle.typed_ir.specs.declared.stmt.Stmt.{Stmt}
use Rattle.typed_ir.specs.Flats.{signal_of}
use Rattle.typed_ir.specs.FlatNodes.{node_of}
use Rattle.typed_ir.specs.Statements.{stmt_of}
use Rattle.typed_ir.specs.Rows.{row_in}
use Rattle.typed_ir.specs.declared.unit.Unit.{Unit as Unit'}
use Rattle.typed_ir.specs.declared.unit_node.UnitNode.{UnitNode}
use Rattle.typed_ir.specs.declared.unit_signal.UnitSignal.{UnitSignal}
use Rattle.typed_ir.specs.Shifts.{shifted_stmt}
use Rattle.typed_ir.specs.Trees.{signals_at, registers_at, nodes_at, blocks_at, node_there, signal_there}
use Rattle.typed_ir.specs.Units.{signal_within, unit_node_of}
use Rattle.link.specs.Copies.{path_at}
use Rattle.link.proofs.Walking.{unit_stepped, all_stepped}
use Rattle.link.proofs.flattening.copies_of.Goals as goal

pub loop-i-preserved : goal.loop-i-preserved
loop-i-preserved c =
    let units = c.args.units.now in
    let kids = row_in c.args.kids.now in
    let i = c.loop-i.i in
    let x = c.index-units-i.result in
    let first = c.loop-i.first in
    let next = c.in_ok-first.first in
    let signals : c.deref-in-loop-i.result.now ≡ x.value.parts.signals.items = c.deref-in-loop-i.ensures.value ∙ ap (λ (u : Unit'). u.parts.signals.items) c.deref.ensures in
    let registers : c.deref-in-loop-i-2.result.now ≡ x.value.parts.registers.items = c.deref-in-loop-i-2.ensures.value ∙ ap (λ (u : Unit'). u.parts.registers.items) c.deref.ensures in
    let nodes : c.deref-in-loop-i-3.result.now ≡ x.value.parts.nodes.items = c.deref-in-loop-i-3.ensures.value ∙ ap (λ (u : Unit'). u.parts.nodes.items) c.deref.ensures in
    let blocks : c.deref-in-loop-i-4.result.now ≡ x.value.parts.clocked.items = c.deref-in-loop-i-4.ensures.value ∙ ap (λ (u : Unit'). u.parts.clocked.items) c.deref.ensures in
    let behind : c.deref-in-loop-i-5.result.now ≡ x.value.parts.signals.items = c.deref-in-loop-i-5.ensures.value ∙ ap (λ (u : Unit'). u.parts.signals.items) c.deref.ensures in
    let next_is : next ≡ first + length x.value.parts.signals.items = c.in_ok-first.ensures ∙ ap (λ (zs : List UnitSignal). first + length zs) behind in
    record {
      signals_left = λ rows. unit_stepped signals_at (path_at rows) kids units i first next x (map (signal_of rows) c.loop-i.signals.items) (map (signal_of rows) c.add_signals.new.signals.items) _
          c.loop-i-test.true c.index-units-i.is next_is
          (c.in_ok-add_signals.ensures.signals rows
          ∙ ap (λ (k : ℕ). map (signal_of rows) c.loop-i.signals.items ++ map (signal_there (path_at rows k)) (map signal_within c.deref-in-loop-i.result.now)) c.in_ok-instance.ensures
          ∙ ap (λ (zs : List UnitSignal). map (signal_of rows) c.loop-i.signals.items ++ map (signal_there (path_at rows i)) (map signal_within zs)) signals)
          (c.loop-i.invariant.signals_left rows);
      there = c.in_ok-add_signals.ensures.there (length units) (omega (arith, c.in_ok-instance.ensures, c.loop-i-test.true)) ∙ c.loop-i.invariant.there;
      registers_left = λ path. unit_stepped registers_at path kids units i first next x c.loop-i.registers.items c.add_registers.new.registers.items _
          c.loop-i-test.true c.index-units-i.is next_is
          (c.in_ok-add_registers.ensures ∙ ap (λ (zs : List ℕ). c.loop-i.registers.items ++ map (λ s. first + s) zs) registers)
          (c.loop-i.invariant.registers_left path);
      nodes_left = λ path. unit_stepped nodes_at path kids units i first next x (map node_of c.loop-i.nodes.items) (map node_of c.add_nodes.new.nodes.items) _
          c.loop-i-test.true c.index-units-i.is next_is
          (c.in_ok-add_nodes.ensures
          ∙ ap (λ (ks : List ℕ). map node_of c.loop-i.nodes.items ++ map (node_there first (slice_index ks)) (map unit_node_of c.deref-in-loop-i-3.result.now)) c.row_at.ensures
          ∙ ap (λ (zs : List UnitNode). map node_of c.loop-i.nodes.items ++ map (node_there first (slice_index (kids i))) (map unit_node_of zs)) nodes)
          (c.loop-i.invariant.nodes_left path);
      blocks_left = λ path. unit_stepped blocks_at path kids units i first next x (map stmt_of c.loop-i.clocked.items) (map stmt_of c.add_blocks.new.clocked.items) _
          c.loop-i-test.true c.index-units-i.is next_is
          (c.in_ok-add_blocks.ensures ∙ ap (λ (zs : List Stmt). map stmt_of c.loop-i.clocked.items ++ map (shifted_stmt first) (map stmt_of zs)) blocks)
          (c.loop-i.invariant.blocks_left path);
    }

pub returns-clause-registers : goal.returns-clause-registers
returns-clause-registers c = λ path. all_stepped registers_at path (row_in c.args.kids.now) c.args.units.now c.loop-i.i c.loop-i.first _ _
    (omega (arith, c.loop-i-test.false)) (c.loop-i.invariant.registers_left path)

pub returns-clause-nodes : goal.returns-clause-nodes
returns-clause-nodes c = λ path. all_stepped nodes_at path (row_in c.args.kids.now) c.args.units.now c.loop-i.i c.loop-i.first _ _
    (omega (arith, c.loop-i-test.false)) (c.loop-i.invariant.nodes_left path)

pub returns-clause-clocked : goal.returns-clause-clocked
returns-clause-clocked c = λ path. all_stepped blocks_at path (row_in c.args.kids.now) c.args.units.now c.loop-i.i c.loop-i.first _ _
    (omega (arith, c.loop-i-test.false)) (c.loop-i.invariant.blocks_left path)
