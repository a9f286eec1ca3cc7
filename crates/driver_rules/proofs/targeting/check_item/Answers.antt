use Rattle.std.proofs.Common.{◌≡◌, ◌∙◌, ℕ, List, IfErr, not, map, ap, ap₂, subst}
use Rattle.ls_text.specs.declared.fault.Fault.{Fault}
use Rattle.typed_ir.specs.declared.mention.Mention.{Mention}
use Rattle.typed_ir.specs.Items.{item_of}
use Rattle.width_rules.specs.declared.writer.Writer.{Writer}
use Rattle.width_rules.specs.Faults.{IsFirst}
use Rattle.block_rules.specs.Paths.{places_of_true}
use Rattle.driver_rules.specs.Mentioned.{earliest, shown_faults}
use Rattle.driver_rules.specs.Targets.{flag_at, may_write, target_faults}
use Rattle.driver_rules.proofs.targeting.check_item.Goals as goal

pub returns-clause-fault : goal.returns-clause-fault
returns-clause-fault c =
    let declarations = c.args.declarations.now in
    let settled = flag_at c.args.settled.now in
    let item = item_of c.args.item.now in
    let same : shown_faults 33 c.earliest-shown.result ≡ target_faults declarations settled item =
    ap (shown_faults 33) (c.earliest-shown.ensures
    ∙ ap₂ (λ (ns : List ℕ) (ms : List Mention). earliest ns ms item.at)
    (c.deref-2.ensures.value ∙ c.in_ok-bad.ensures
    ∙ ap₂ (λ (w : Writer) (ss : List ℕ). places_of_true (map (λ s. not (may_write declarations settled w s)) ss))
    c.writer_of-writer.ensures (c.deref.ensures.value ∙ c.in_ok-signals.ensures))
    c.deref-3.ensures.value) in
    subst (λ (fs : List Fault). IfErr c.check_shown.result (IsFirst fs)) same c.check_shown.ensures.fault
