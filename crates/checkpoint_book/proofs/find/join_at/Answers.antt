use Rattle.std.proofs.Common.{◌<◌, suc, ◌∙◌, sym, ap, arith, length, add-one}
use Rattle.ls_text.proofs.Lists.{get_or_one}
use Rattle.book_history.specs.declared.segment.Segment.{Segment}
use Rattle.checkpoint_book.proofs.Places.{join_same, join_last, join_more, get_or_past_set}
use Rattle.checkpoint_book.proofs.find.join_at.Goals as goal

pub returns-then-same : goal.returns-then-same
returns-then-same g c =
    let k = g.M.Machine.kit in
    let m = c.args.machine.now in
    let one = get_or_one c.args.segs.now.items c.args.i c.index.result.now c.index_mut-seg.result.now c.requires c.index.ensures c.index_mut-seg.ensures.value in
    join_same k m c.args.outcome c.args.i c.args.segs.now.items c.index_mut-seg.result.now c.requires c.index_mut-seg.ensures.value
    (ap (λ (x : Segment g.row.M-State.Denot). k.alike m c.args.outcome x.state) (sym one) ∙ sym c.same-same.ensures ∙ c.if-same.true)

pub returns-then-i-len : goal.returns-then-i-len
returns-then-i-len g c =
    let k = g.M.Machine.kit in
    let m = c.args.machine.now in
    let one = get_or_one c.args.segs.now.items c.args.i c.index.result.now c.index_mut-seg.result.now c.requires c.index.ensures c.index_mut-seg.ensures.value in
    let lt : suc c.args.i < length c.args.segs.now.items = omega arith in
    rw add-one (join_more k m c.args.outcome c.args.i c.args.segs.now.items c.index_mut-seg.result.now c.index_mut.result.now lt c.index_mut-seg.ensures.value
    (ap (λ (x : Segment g.row.M-State.Denot). k.alike m c.args.outcome x.state) (sym one) ∙ sym c.same-same.ensures ∙ c.if-same.false)
    (get_or_past_set _ c.args.i _ c.index_mut.result.now (rw add-one at c.index_mut.ensures.value)))

pub returns-else-i-len : goal.returns-else-i-len
returns-else-i-len g c =
    let k = g.M.Machine.kit in
    let m = c.args.machine.now in
    let one = get_or_one c.args.segs.now.items c.args.i c.index.result.now c.index_mut-seg.result.now c.requires c.index.ensures c.index_mut-seg.ensures.value in
    join_last k m c.args.outcome c.args.i c.args.segs.now.items c.index_mut-seg.result.now c.requires (omega arith) c.index_mut-seg.ensures.value
    (ap (λ (x : Segment g.row.M-State.Denot). k.alike m c.args.outcome x.state) (sym one) ∙ sym c.same-same.ensures ∙ c.if-same.false)
