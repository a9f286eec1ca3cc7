use Rattle.std.proofs.Common.{◌≡◌, List, map, OnOk, ap, sym, ◌∙◌, subst, arith, ℕ}
use Rattle.std.specs.Prelude.{Some}
use Rattle.width_rules.specs.Entries.{scope_of}
use Rattle.gen_unroll.specs.declared.named_signal.NamedSignal.{NamedSignal as Named}
use Rattle.gen_unroll.specs.ModuleViews.{signals_in}
use Rattle.gen_unroll.specs.Numbers.{NumberedSignal, in_block}
use Rattle.gen_unroll.specs.SignalViews.{signal_of, numbered_of}
use Rattle.gen_unroll.specs.UnitReaches.{all_signals, is_settled, writer_of}
use Rattle.gen_unroll.proofs.Rowing.{row_read, row_none}
use Rattle.gen_unroll.proofs.entering.enter_block.Goals as goal

pub returns-then-index-len-clause-names : goal.returns-then-index-len-clause-names
returns-then-index-len-clause-names c =
    let of = c.args.of.now in
    let w = is_settled c.args.settled.now in
    let old = scope_of c.args.scope.now in
    subst (λ (zs : List NumberedSignal). OnOk c.enter_all.result (scope_of c.enter_all.new.scope ≡ all_signals (writer_of w (signals_in of)) zs old))
    (ap (map numbered_of) c.deref-then-index-len.ensures.value
    ∙ sym (row_read of.blocks.items c.index-index.result c.index.result.now (omega (arith, c.if-index-len.true, c.len.ensures)) c.index.ensures)
    ∙ of.within c.index-index.result
    ∙ ap (λ (b : ℕ). in_block (Some b) (signals_in of)) c.index-index.ensures)
    (subst (λ (xs : List Named). OnOk c.enter_all.result (scope_of c.enter_all.new.scope ≡ all_signals (writer_of w (map signal_of xs)) (map numbered_of c.deref-then-index-len.result.now) old))
    c.deref.ensures.value c.enter_all.ensures.names)

pub returns-else-index-len-clause-names : goal.returns-else-index-len-clause-names
returns-else-index-len-clause-names c =
    let of = c.args.of.now in
    let w = is_settled c.args.settled.now in
    let old = scope_of c.args.scope.now in
    sym (ap (λ (zs : List NumberedSignal). all_signals (writer_of w (signals_in of)) zs old)
    (ap (λ (b : ℕ). in_block (Some b) (signals_in of)) (sym c.index-index.ensures) ∙ sym (of.within c.index-index.result)
    ∙ row_none of.blocks.items c.index-index.result (omega (arith, c.if-index-len.false, c.len.ensures))))
