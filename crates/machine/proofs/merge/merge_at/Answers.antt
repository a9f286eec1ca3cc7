use Rattle.std.proofs.Common.{arith, ◌∙◌, sym}
use Rattle.machine.proofs.Runs.{merged_at}
use Rattle.machine.proofs.merge.merge_at.Goals as goal

pub returns-clause-rows : goal.returns-clause-rows
returns-clause-rows g c = λ a b h.
    (merged_at c.args.at a c.args.list.now.items c.remove.new.self.items b c.index.result.now c.index-2.result.now c.index-3.result.now c.index_mut.result.now (omega (arith, c.if-at-eq0.false)) (omega (arith, c.if-at-len.false)) c.index.ensures c.index-2.ensures c.index-3.ensures (sym c.deref.ensures ∙ c.same_row.ensures c.if-not-same_row.false ∙ c.deref-2.ensures) c.remove.ensures.items c.index_mut.ensures.value h).1

pub returns-clause-gapless : goal.returns-clause-gapless
returns-clause-gapless g c = λ a b h.
    (merged_at c.args.at a c.args.list.now.items c.remove.new.self.items b c.index.result.now c.index-2.result.now c.index-3.result.now c.index_mut.result.now (omega (arith, c.if-at-eq0.false)) (omega (arith, c.if-at-len.false)) c.index.ensures c.index-2.ensures c.index-3.ensures (sym c.deref.ensures ∙ c.same_row.ensures c.if-not-same_row.false ∙ c.deref-2.ensures) c.remove.ensures.items c.index_mut.ensures.value h).0
