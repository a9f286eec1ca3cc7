use Rattle.std.proofs.Common.{◌≡◌, ◌<◌, ◌∙◌, ◌&&◌, ℕ, List, [], IfErr, OnOk, nat_lt, map, length, ap, ap₂, sym, subst}
use Rattle.ls_text.specs.declared.fault.Fault.{Fault}
use Rattle.std.specs.Vec.{vec_len}
use Rattle.width_rules.specs.Faults.{IsFirst}
use Rattle.typed_ir.specs.declared.typed_item.TypedItem.{TypedItem}
use Rattle.typed_ir.specs.declared.signal_declaration.SignalDeclaration.{SignalDeclaration}
use Rattle.typed_ir.specs.Items.{item_of}
use Rattle.driver_rules.specs.Targets.{flag_at, is_settled, all_target_faults}
use Rattle.driver_rules.proofs.Empty.{checked_is}
use Rattle.driver_rules.proofs.driving.check_written.Goals as goal

pub returns-clause-faultless : goal.returns-clause-faultless
returns-clause-faultless c =
    let ds = c.args.items.now.declarations.items in
    let xs = c.args.items.now.items.items in
    let many : length ds ≡ vec_len c.args.items.now.declarations = ap length (sym c.deref-2.ensures.value) ∙ c.deref-2.ensures.len in
    subst (λ (fs : List Fault). OnOk c.check_targets.result (fs ≡ []))
    (checked_is ds c.deref-2.result.now c.in_ok-settled.settled.items c.deref-3.result.now xs c.deref.result.now c.deref-4.result.now c.len.result
    c.deref-2.ensures.value c.deref-3.ensures.value c.deref.ensures.value c.deref-4.ensures.value (c.len.ensures ∙ sym many) c.in_ok-settled.ensures)
    c.check_targets.ensures.faultless

pub returns-clause-fault : goal.returns-clause-fault
returns-clause-fault c =
    let ds = c.args.items.now.declarations.items in
    let xs = c.args.items.now.items.items in
    let many : length ds ≡ vec_len c.args.items.now.declarations = ap length (sym c.deref-2.ensures.value) ∙ c.deref-2.ensures.len in
    subst (λ (fs : List Fault). IfErr c.check_targets.result (IsFirst fs))
    (checked_is ds c.deref-2.result.now c.in_ok-settled.settled.items c.deref-3.result.now xs c.deref.result.now c.deref-4.result.now c.len.result
    c.deref-2.ensures.value c.deref-3.ensures.value c.deref.ensures.value c.deref-4.ensures.value (c.len.ensures ∙ sym many) c.in_ok-settled.ensures)
    c.check_targets.ensures.fault
