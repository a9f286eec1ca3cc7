use Rattle.std.proofs.Common.{◌≡◌, ◌∙◌, ℕ, List, [], length, IfOk, IfErr, ap, ap₂, sym, subst}
use Rattle.ls_text.specs.declared.fault.Fault.{Fault}
use Rattle.ls_text.proofs.Cases.{any_ok}
use Rattle.typed_ir.specs.declared.span.Span.{Span}
use Rattle.typed_ir.specs.Valuations.{any_within}
use Rattle.typed_ir.specs.declared.mention.Mention.{Mention}
use Rattle.typed_ir.specs.Items.{item_of}
use Rattle.width_rules.specs.declared.writer.Writer.{Writer}
use Rattle.width_rules.specs.Faults.{IsFirst}
use Rattle.block_rules.specs.Paths.{places_of_true}
use Rattle.driver_rules.specs.Mentioned.{earliest, shown_faults}
use Rattle.driver_rules.specs.Doubles.{doubles, item_doubles}
use Rattle.driver_rules.specs.Writes.{spans_of, AreWithin, writes}
use Rattle.driver_rules.specs.Told.{marked, Grows}
use Rattle.driver_rules.proofs.taking.take_item.Goals as goal

pub take_spans-requires : goal.take_spans-requires
take_spans-requires c = subst (AreWithin (length c.args.taken.now)) (sym (c.deref.ensures.value ∙ c.in_ok-spans.ensures)) c.requires

pub returns-clause-grows : goal.returns-clause-grows
returns-clause-grows c =
    let item = item_of c.args.item.now in
    let by = c.args.by.now in
    let old = c.args.taken.now in
    let new = c.take_spans.new.taken in
    let before = c.args.drivers.now.items in
    let after = c.take_spans.new.drivers.items in
    any_ok {P = Grows by old new before after (writes item)} c.check_shown.result
    (subst (λ (ss : List Span). Grows by old new before after (any_within ss)) (c.deref.ensures.value ∙ c.in_ok-spans.ensures) c.in_ok-bad.ensures.grows)

pub returns-clause-faultless : goal.returns-clause-faultless
returns-clause-faultless c =
    let taken = marked c.args.taken.now in
    let item = item_of c.args.item.now in
    let same : shown_faults 34 c.earliest-shown.result ≡ item_doubles taken item =
    ap (shown_faults 34) (c.earliest-shown.ensures
    ∙ ap₂ (λ (ns : List ℕ) (ms : List Mention). earliest ns ms item.at)
    (c.deref-2.ensures.value ∙ c.in_ok-bad.ensures.bad
    ∙ ap₂ (λ (w : Writer) (ss : List Span). places_of_true (doubles taken w ss))
    c.writer_of-writer.ensures (c.deref.ensures.value ∙ c.in_ok-spans.ensures))
    c.deref-3.ensures.value) in
    subst (λ (fs : List Fault). IfOk c.check_shown.result (λ _. fs ≡ [])) same c.check_shown.ensures.faultless

pub returns-clause-fault : goal.returns-clause-fault
returns-clause-fault c =
    let taken = marked c.args.taken.now in
    let item = item_of c.args.item.now in
    let same : shown_faults 34 c.earliest-shown.result ≡ item_doubles taken item =
    ap (shown_faults 34) (c.earliest-shown.ensures
    ∙ ap₂ (λ (ns : List ℕ) (ms : List Mention). earliest ns ms item.at)
    (c.deref-2.ensures.value ∙ c.in_ok-bad.ensures.bad
    ∙ ap₂ (λ (w : Writer) (ss : List Span). places_of_true (doubles taken w ss))
    c.writer_of-writer.ensures (c.deref.ensures.value ∙ c.in_ok-spans.ensures))
    c.deref-3.ensures.value) in
    subst (λ (fs : List Fault). IfErr c.check_shown.result (IsFirst fs)) same c.check_shown.ensures.fault
