use Rattle.std.proofs.Common.{Vec, ◌≡◌, ◌+◌, ◌∙◌, ◌||◌, ◌&&◌, ◌==◌, ◌++◌, List, take, drop, length, ap, ap₂, sym, subst, arith}
use Rattle.std.specs.Global.{Global}
use Rattle.typed_ir.specs.Statements.{stmt_of}
use Rattle.typed_ir.specs.Cycles.{block_writes}
use Rattle.typed_ir.specs.Touches.{touched}
use Rattle.typed_ir.specs.Rows.{row_in}
use Rattle.comb_order.specs.declared.drivers.Driver.{Driver}
use Rattle.comb_order.specs.Driving.{drives_in, AllRise}
use Rattle.typed_ir.proofs.Lists.{written_back}
use Rattle.comb_order.proofs.Tables.{at_more}
use Rattle.comb_order.proofs.Rising.{none_rise, all_wider}
use Rattle.comb_order.proofs.drivers.writers_of.Goals as goal

pub loop-k-init : goal.loop-k-init
loop-k-init c = record {
  length = c.in_ok-table.ensures.length;
  drives = λ a s i small low. ap (λ z. drives_in z a i) (c.in_ok-table.ensures.empty s);
  rises = none_rise c.in_ok-table.table.items c.in_ok-table.ensures.empty;
}

pub add_touches-requires : goal.add_touches-requires
add_touches-requires c =
    subst (λ (t : List (Vec Driver Global)). AllRise t (c.loop-k.k + 1)) (sym c.deref_mut.ensures.value)
    (all_wider c.loop-k.table.items c.loop-k.k (c.loop-k.k + 1) (omega arith) c.loop-k.invariant.rises)

pub loop-k-preserved : goal.loop-k-preserved
loop-k-preserved c =
    let table = c.loop-k.table in
    let new = c.add_touches.new.table in
    let x = c.index-blocks-k.result in
    let whole : take table.len (new ++ drop (length new) table.items) ≡ new =
    written_back table.len new table.items (omega (arith, c.add_touches.auto.table, ap length c.deref_mut.ensures.value)) (omega (arith, c.add_touches.auto.table, c.deref_mut.ensures.len)) in
    record {
      length = (let e : length (take table.len (new ++ drop (length new) table.items)) ≡ length new = ap length whole in
          omega (arith, e, c.add_touches.auto.table, ap length c.deref_mut.ensures.value, c.loop-k.invariant.length));
      drives = λ a s i small low.
          (let k = c.loop-k.k in
          let own = block_writes (stmt_of x) s i in
          ap (λ z. drives_in (row_in z s) a i) whole
          ∙ c.in_ok-add_touches.ensures.drives a s i (omega (arith, small, ap length c.deref_mut.ensures.value, c.loop-k.invariant.length))
          ∙ ap₂ (λ z t. drives_in (row_in z s) a i || ((a == k) && t)) c.deref_mut.ensures.value
          (ap (λ z. touched z s i) c.deref.ensures.value ∙ c.in_ok-touches.ensures.says s i low)
          ∙ ap (λ z. z || ((a == k) && own)) (c.loop-k.invariant.drives a s i small low)
          ∙ sym (at_more block_writes stmt_of c.args.blocks.now k x a s i c.loop-k-test.true c.index-blocks-k.is));
      rises = subst (λ (t : List (Vec Driver Global)). AllRise t (c.loop-k.k + 1)) (sym whole) c.in_ok-add_touches.ensures.rises;
    }
