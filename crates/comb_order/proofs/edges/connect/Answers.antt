use Rattle.std.proofs.Common.{◌<◌, length, arith, ◌∙◌, ◌+◌, ◌||◌, ◌&&◌, ◌==◌, not, drop, ap, sym}
use Rattle.comb_order.specs.Graphs.{rows_of}
use Rattle.comb_order.specs.Driving.{drives_some, drives_any, edge}
use Rattle.typed_ir.proofs.Lists.{drop_read}
use Rattle.comb_order.proofs.Rows.{joined}
use Rattle.comb_order.proofs.edges.connect.Goals as goal

pub loop-touch-preserved : goal.loop-touch-preserved
loop-touch-preserved c =
    let b = c.args.b in
    let touch = c.touch-item.result in
    let j = c.loop-touch.touch-index in
    let drivers = c.drivers_at.result.now in
    record {
      rows = c.in_ok-connect_signal.ensures.rows;
      edges = λ a t h.
          (let rest = drives_any c.args.table.now (drop (j + 1) c.args.touches.now) a in
          let old = edge (rows_of c.loop-touch.rows) a t in
          let foreign = not (c.args.block && (a == b)) in
          let there : a < length c.loop-touch.rows = omega (arith, h, c.connect_signal.auto.rows) in
          joined old (t == b) (drives_some drivers touch.mask a) rest foreign _ _
          (c.in_ok-connect_signal.ensures.edges a t there)
          (ap (λ z. old || ((t == b) && (z && foreign)))
          (sym (ap (λ z. drives_any c.args.table.now z a) (drop_read c.args.touches.now j touch c.loop-touch-test.true c.touch-item.is)
          ∙ ap (λ z. drives_some z touch.mask a || rest) (sym c.drivers_at.ensures)))
          ∙ c.loop-touch.invariant.edges a t there));
    }
