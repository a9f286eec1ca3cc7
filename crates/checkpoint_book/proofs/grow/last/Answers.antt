use Rattle.std.proofs.Common.{◌≡◌, suc, ◌-◌, length, arith, ap, sym, ◌∙◌}
use Rattle.std.proofs.lemmas.Bool.{eqb-false}
use Rattle.book_history.specs.declared.segment.Segment.{Segment}
use Rattle.checkpoint_book.proofs.Thins.{last_at}
use Rattle.checkpoint_book.proofs.grow.last.Goals as goal

pub returns-else-is_empty : goal.returns-else-is_empty
returns-else-is_empty g c =
    let some : length c.args.segs.now ≡ 0 → ⊥ = eqb-false (length c.args.segs.now) 0 (sym c.is_empty.ensures ∙ c.if-is_empty.false) in
    let n : length c.args.segs.now ≡ suc (length c.args.segs.now - 1) = omega (arith, some) in
    ap (λ (x : Segment g.row.S.Denot). x.state) (sym c.index-segs-segs.is)
    ∙ last_at c.args.first.now c.args.segs.now (length c.args.segs.now - 1) c.index-segs-segs.result n c.index-segs-segs.is
