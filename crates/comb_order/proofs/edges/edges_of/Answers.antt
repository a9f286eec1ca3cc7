use Rattle.std.proofs.Common.{◌≡◌, false, ◌<◌, ◌+◌, ◌∙◌, ◌||◌, ◌&&◌, ◌==◌, ◌++◌, not, map, take, drop, length, ap, ap₂, sym, subst, arith}
use Rattle.std.proofs.lemmas.List.{length-map}
use Rattle.typed_ir.specs.FlatNodes.{node_of}
use Rattle.typed_ir.specs.Touches.{mentions, is_block}
use Rattle.typed_ir.specs.Valuations.{nowhere}
use Rattle.typed_ir.proofs.Views.{at_read}
use Rattle.comb_order.specs.Graphs.{rows_of}
use Rattle.comb_order.specs.Driving.{drives_any, edge, block_at, AreRows}
use Rattle.comb_order.proofs.Counts.{length_rows}
use Rattle.typed_ir.proofs.Lists.{written_back}
use Rattle.comb_order.proofs.Rows.{rows_next, rows_empty}
use Rattle.comb_order.proofs.Edging.{AreEdges, edges_step, no_edges, all_edges}
use Rattle.comb_order.proofs.edges.edges_of.Goals as goal

pub loop-b-preserved : goal.loop-b-preserved
loop-b-preserved c =
    let b = c.loop-b.b in
    let nodes = c.args.nodes.now in
    let rows = c.loop-b.rows in
    let new = c.connect.new.rows in
    let x = c.index-nodes-b.result in
    let whole : take rows.len (new ++ drop (length new) rows.items) ≡ new =
    written_back rows.len new rows.items (omega (arith, c.connect.auto.rows, ap length c.deref_mut.ensures.value)) (omega (arith, c.connect.auto.rows, c.deref_mut.ensures.len)) in
    let same : length new ≡ length rows.items = omega (arith, c.connect.auto.rows, ap length c.deref_mut.ensures.value) in
    let block : c.is_block.result ≡ block_at (map node_of nodes) b =
    c.is_block.ensures ∙ sym (at_read is_block false node_of nodes b x c.loop-b-test.true c.index-nodes-b.is) in
    record {
      size = (let e : length (take rows.len (new ++ drop (length new) rows.items)) ≡ length new = ap length whole in
          omega (arith, e, same, c.loop-b.invariant.size));
      rows = subst (λ z. AreRows (b + 1) (rows_of z)) (sym whole) (rows_next (rows_of new) b c.in_ok-connect.ensures.rows);
      edges = subst (λ z. AreEdges (map node_of nodes) (b + 1) (rows_of z)) (sym whole)
          (edges_step (map node_of nodes) c.args.table.now (rows_of rows.items) (rows_of new) b c.in_ok-touches.touches.items c.requires.table c.requires.plain
          (λ s i low. c.in_ok-touches.ensures.says s i low
          ∙ sym (ap (λ f. f s i) (at_read mentions nowhere node_of nodes b x c.loop-b-test.true c.index-nodes-b.is)))
          (length_rows new ∙ same ∙ sym (length_rows rows.items))
          (λ a t h.
          (let inside : a < length c.deref_mut.result.now = omega (arith, h, length_rows rows.items, ap length c.deref_mut.ensures.value) in
          c.in_ok-connect.ensures.edges a t inside
          ∙ ap (λ z. edge (rows_of z) a t || ((t == b) && (drives_any c.args.table.now c.deref.result.now a && not (c.is_block.result && (a == b)))))
          c.deref_mut.ensures.value
          ∙ ap₂ (λ z w. edge (rows_of rows.items) a t || ((t == b) && (drives_any c.args.table.now z a && not (w && (a == b)))))
          c.deref.ensures.value block))
          c.loop-b.invariant.edges);
    }

pub returns-clause-graph : goal.returns-clause-graph
returns-clause-graph c =
    let nodes = c.args.nodes.now in
    all_edges (map node_of nodes) c.loop-b.b (rows_of c.loop-b.rows.items)
    (omega (arith, length-map nodes node_of, c.loop-b-test.false)) c.loop-b.invariant.edges

pub loop-b-init : goal.loop-b-init
loop-b-init c =
    let nodes = c.args.nodes.now in
    let rows = c.in_ok-rows.rows.items in
    record {
      size = c.in_ok-rows.ensures.length;
      rows = rows_empty (rows_of rows) 0 c.in_ok-rows.ensures.empty;
      edges = no_edges (map node_of nodes) (rows_of rows) (length_rows rows ∙ c.in_ok-rows.ensures.length ∙ sym (length-map nodes node_of)) c.in_ok-rows.ensures.empty;
    }
