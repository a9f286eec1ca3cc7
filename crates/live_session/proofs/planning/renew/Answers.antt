use Rattle.std.proofs.Common.{◌∙◌, List, length, map, sym, subst, ap}
use Rattle.std.specs.Prelude.{Some, IfOk}
use Rattle.std.specs.Option.{option_or, unwrap_or}
use Rattle.ls_text.specs.declared.fault.Fault.{Fault}
use Rattle.ls_text.specs.Readings.{fault_view}
use Rattle.module_registry.specs.Views.{entries_of}
use Rattle.book_history.specs.declared.version.Version.{Version}
use Rattle.cycle_eval.specs.declared.design.Design.{Design}
use Rattle.command_read.specs.declared.op_line.OpLine.{OpLine}
use Rattle.version_swap.proofs.HeldUnits.{grown_held}
use Rattle.version_swap.specs.Files as numbered
use Rattle.version_swap.specs.Operations.{AreValidBetween, IsEditFault, IsEditRefusal, ops_of}
use Rattle.version_swap.proofs.Short.{short_behind}
use Rattle.version_swap.specs.declared.texts.Texts.{Texts}
use Rattle.live_session.specs.Beside.{settings_by}
use Rattle.live_session.specs.Files.{text_file}
use Rattle.live_session.specs.Kept.{IsKept}
use Rattle.live_session.specs.Logs.{marks_of}
use Rattle.live_session.specs.Sessions.{world_of}
use Rattle.live_session.specs.Turns.{Refuses}
use Rattle.live_session.specs.Worlds.{refused_text}
use Rattle.live_session.proofs.BlockTexts.{asks_clock, asks_top, sources_within}
use Rattle.live_session.proofs.Growing.{kept_grown}
use Rattle.live_session.proofs.Renewing.{behind_running, held_by, kept_by, loses_alike, loses_by, nothing_by, nothing_taken, one_running}
use Rattle.live_session.proofs.Renewing.{refused_by, says_alike, takes_by}
use Rattle.live_session.proofs.planning.renew.Goals as goal

pub plan-planned-requires-clause-top : goal.plan-planned-requires-clause-top
plan-planned-requires-clause-top g c =
    let r = c.args.running.now in
    asks_top (length c.args.names.now) c.args.edit.now.top r.texts.top c.requires.edit.tops c.requires.kept.named.top

pub plan-planned-requires-clause-clock : goal.plan-planned-requires-clause-clock
plan-planned-requires-clause-clock g c =
    let r = c.args.running.now in
    asks_clock (length c.args.names.now) c.args.edit.now.clock r.texts.clock c.requires.edit.clocks c.requires.kept.named.clock

pub accepted-requires-clause-valid : goal.accepted-requires-clause-valid
accepted-requires-clause-valid g c =
    let p = c.in-Ok.planned in
    subst (λ (lines : List OpLine). AreValidBetween (Some c.args.running.now.version.value.machine.value) p.design lines) (sym c.as_slice.ensures)
    (subst (λ (m : Design). AreValidBetween (Some m) p.design c.args.edit.now.ops)
    (c.deref-old.ensures ∙ ap (λ (v : Version Design). v.machine.value) c.deref.ensures) c.in-Ok.ensures.valid)

pub refused-requires-clause-files : goal.refused-requires-clause-files
refused-requires-clause-files g c =
    let r = c.args.running.now in
    sources_within c.args.names.now c.plan-planned.new.names c.args.edit.now c.args.loaded.now r.texts
    (world_of c.args.names.now (entries_of c.args.registry.now) (marks_of c.args.book.now) r)
    (behind_running c.args.names.now c.plan-planned.new.names c.plan-planned.ensures.grows c.has_each_once.ensures c.has_each_once-2.ensures
    c.args.edit.now c.args.loaded.now c.requires.edit c.requires.named c.args.limits r c.requires.kept (entries_of c.args.registry.now)
    c.args.book.now c.requires.stands)

pub returns-in-Ok-clause-takes : goal.returns-in-Ok-clause-takes
returns-in-Ok-clause-takes g c =
    let old = c.args.names.now in
    let new = c.plan-planned.new.names in
    let e = c.args.edit.now in
    let loaded = c.args.loaded.now in
    let r = c.args.running.now in
    let es = entries_of c.args.registry.now in
    let grows = c.plan-planned.ensures.grows in
    let p = c.in-Ok.planned in
    let is = c.in-Ok.ensures in
    let valid : AreValidBetween (Some r.version.value.machine.value) p.design e.ops =
    subst (λ (m : Design). AreValidBetween (Some m) p.design e.ops)
    (c.deref-old.ensures ∙ ap (λ (v : Version Design). v.machine.value) c.deref.ensures) is.valid in
    let short = short_behind 4194304 p.texts.files r.texts.files e.files e.loads loaded (ap (λ (x : Texts). x.files) is.texts) c.requires.kept.short
    c.requires.given c.requires.loaded in
    takes_by old new grows c.has_each_once.ensures c.has_each_once-2.ensures e loaded c.requires.edit c.requires.named c.args.limits r
    c.requires.kept es c.args.book.now c.requires.stands p.texts p.design p.keys p.built p.kept is.texts is.planned is.keyed _
    (entries_of c.plan-planned.new.registry) (grown_held old new es grows c.requires.held) is.ensured is.built is.kept valid short c.requires.room
    (entries_of c.accepted.new.registry) c.accepted.new.running c.accepted.new.book c.accepted.result c.accepted.ensures.kept
    (says_alike _ (ops_of e.ops) p.texts p.design p.keys p.built p.kept _ r c.accepted.new.running c.args.book.now c.accepted.new.book
    c.accepted.result (ap ops_of c.as_slice.ensures) (one_running r _ _ _ _) c.accepted.ensures.says)

pub returns-in-Ok-clause-loses : goal.returns-in-Ok-clause-loses
returns-in-Ok-clause-loses g c =
    let old = c.args.names.now in
    let new = c.plan-planned.new.names in
    let e = c.args.edit.now in
    let loaded = c.args.loaded.now in
    let r = c.args.running.now in
    let es = entries_of c.args.registry.now in
    let grows = c.plan-planned.ensures.grows in
    let p = c.in-Ok.planned in
    let is = c.in-Ok.ensures in
    let valid : AreValidBetween (Some r.version.value.machine.value) p.design e.ops =
    subst (λ (m : Design). AreValidBetween (Some m) p.design e.ops)
    (c.deref-old.ensures ∙ ap (λ (v : Version Design). v.machine.value) c.deref.ensures) is.valid in
    let short = short_behind 4194304 p.texts.files r.texts.files e.files e.loads loaded (ap (λ (x : Texts). x.files) is.texts) c.requires.kept.short
    c.requires.given c.requires.loaded in
    loses_by old new grows c.has_each_once.ensures c.has_each_once-2.ensures e loaded c.requires.edit c.requires.named c.args.limits r
    c.requires.kept es c.args.book.now c.requires.stands p.texts p.design p.keys p.built p.kept is.texts is.planned is.keyed _
    (entries_of c.plan-planned.new.registry) (grown_held old new es grows c.requires.held) is.ensured is.built is.kept valid short c.requires.room
    (entries_of c.accepted.new.registry) c.accepted.new.running c.accepted.new.book c.accepted.result
    (loses_alike _ (ops_of e.ops) p.texts p.design p.keys _ (length es) (entries_of c.plan-planned.new.registry) (entries_of c.accepted.new.registry)
    _ r c.accepted.new.running c.args.book.now c.accepted.new.book c.accepted.result (ap ops_of c.as_slice.ensures) c.len-held.ensures.count
    (one_running r _ _ _ _) c.accepted.ensures.loses)

pub returns-in-Ok-clause-kept : goal.returns-in-Ok-clause-kept
returns-in-Ok-clause-kept g c =
    let old = c.args.names.now in
    let new = c.plan-planned.new.names in
    let e = c.args.edit.now in
    let loaded = c.args.loaded.now in
    let r = c.args.running.now in
    let es = entries_of c.args.registry.now in
    let grows = c.plan-planned.ensures.grows in
    let p = c.in-Ok.planned in
    let is = c.in-Ok.ensures in
    let valid : AreValidBetween (Some r.version.value.machine.value) p.design e.ops =
    subst (λ (m : Design). AreValidBetween (Some m) p.design e.ops)
    (c.deref-old.ensures ∙ ap (λ (v : Version Design). v.machine.value) c.deref.ensures) is.valid in
    let short = short_behind 4194304 p.texts.files r.texts.files e.files e.loads loaded (ap (λ (x : Texts). x.files) is.texts) c.requires.kept.short
    c.requires.given c.requires.loaded in
    kept_by old new grows c.has_each_once.ensures c.has_each_once-2.ensures e loaded c.requires.edit c.requires.named c.args.limits r c.requires.kept
    es c.args.book.now c.requires.stands p.texts p.design p.keys p.built p.kept is.texts is.planned is.keyed _
    (entries_of c.plan-planned.new.registry) (grown_held old new es grows c.requires.held) is.ensured is.built is.kept valid short c.requires.room
    (entries_of c.accepted.new.registry) c.accepted.new.running c.accepted.new.book c.accepted.result
    (says_alike _ (ops_of e.ops) p.texts p.design p.keys p.built p.kept _ r c.accepted.new.running c.args.book.now c.accepted.new.book
    c.accepted.result (ap ops_of c.as_slice.ensures) (one_running r _ _ _ _) c.accepted.ensures.says)
    (loses_alike _ (ops_of e.ops) p.texts p.design p.keys _ (length es) (entries_of c.plan-planned.new.registry) (entries_of c.accepted.new.registry)
    _ r c.accepted.new.running c.args.book.now c.accepted.new.book c.accepted.result (ap ops_of c.as_slice.ensures) c.len-held.ensures.count
    (one_running r _ _ _ _) c.accepted.ensures.loses)

pub returns-in-Ok-clause-held : goal.returns-in-Ok-clause-held
returns-in-Ok-clause-held g c =
    let p = c.in-Ok.planned in
    held_by _ c.plan-planned.new.names c.len-held.result (entries_of c.plan-planned.new.registry) (entries_of c.accepted.new.registry) p.texts
    p.design p.keys _ c.accepted.new.running c.args.book.now c.accepted.new.book c.accepted.result c.plan-planned.ensures.held c.accepted.ensures.kept
    c.accepted.ensures.loses

pub returns-in-Err-NoMemory-clause-loses : goal.returns-in-Err-NoMemory-clause-loses
returns-in-Err-NoMemory-clause-loses g c =
    let old = c.args.names.now in
    let new = c.plan-planned.new.names in
    let r = c.args.running.now in
    let was = c.args.book.now in
    nothing_taken old new c.plan-planned.ensures.grows c.has_each_once.ensures c.has_each_once-2.ensures c.args.edit.now c.args.loaded.now
    c.requires.edit c.requires.named c.args.limits r c.requires.kept (entries_of c.args.registry.now) was c.requires.stands
    (settings_by c.args.limits was) (entries_of c.plan-planned.new.registry) c.in-Err-NoMemory.ensures.stays

pub returns-in-Err-NoMemory-clause-kept : goal.returns-in-Err-NoMemory-clause-kept
returns-in-Err-NoMemory-clause-kept g c =
    let new = c.plan-planned.new.names in
    let r = c.args.running.now in
    subst (IsKept new c.args.limits) (sym (one_running r _ _ _ _))
    (kept_grown c.args.names.now new c.plan-planned.ensures.grows c.args.limits r c.requires.kept)

pub returns-in-Err-Fault-clause-takes : goal.returns-in-Err-Fault-clause-takes
returns-in-Err-Fault-clause-takes g c =
    let old = c.args.names.now in
    let new = c.plan-planned.new.names in
    let e = c.args.edit.now in
    let loaded = c.args.loaded.now in
    let r = c.args.running.now in
    let was = c.args.book.now in
    let fault = c.in-Err-Fault.fault in
    let files = numbered.files_behind r.texts.files e.files e.loads loaded in
    let top = option_or e.top r.texts.top in
    let clock = unwrap_or e.clock r.texts.clock in
    let told = subst (λ (m : Design). IsEditRefusal new files top clock (Some m) e.ops c.in-Err-Fault.field-0)
    (c.deref-old.ensures ∙ ap (λ (v : Version Design). v.machine.value) c.deref.ensures) c.in-Err-Fault.ensures.refused in
    let found : IsEditFault new files top clock (Some r.version.value.machine.value) e.ops (fault_view new fault) =
    subst (IsEditRefusal new files top clock (Some r.version.value.machine.value) e.ops) c.in-Err-Fault.field-0-is told in
    let says : IfOk c.refused.result (Refuses (refused_text (map (text_file new) files) e.line (fault_view new fault))) =
    subst (λ (f : Fault). IfOk c.refused.result (Refuses (refused_text (map (text_file new) files) e.line (fault_view new f))))
    c.in-Err-Fault.fault-is c.refused.ensures in
    refused_by old new c.plan-planned.ensures.grows c.has_each_once.ensures c.has_each_once-2.ensures e loaded c.requires.edit c.requires.named
    c.args.limits r c.requires.kept (entries_of c.args.registry.now) was c.requires.stands
    (settings_by c.args.limits was) (fault_view new fault) (entries_of c.plan-planned.new.registry) c.in-Err-Fault.ensures.stays found
    c.refused.result says

pub returns-in-Err-Fault-clause-loses : goal.returns-in-Err-Fault-clause-loses
returns-in-Err-Fault-clause-loses g c =
    let old = c.args.names.now in
    let new = c.plan-planned.new.names in
    let r = c.args.running.now in
    let was = c.args.book.now in
    nothing_by old new c.plan-planned.ensures.grows c.has_each_once.ensures c.has_each_once-2.ensures c.args.edit.now c.args.loaded.now
    c.requires.edit c.requires.named c.args.limits r c.requires.kept (entries_of c.args.registry.now) was c.requires.stands
    (settings_by c.args.limits was) (entries_of c.plan-planned.new.registry) c.in-Err-Fault.ensures.stays c.refused.result

pub returns-in-Err-Fault-clause-kept : goal.returns-in-Err-Fault-clause-kept
returns-in-Err-Fault-clause-kept g c =
    let new = c.plan-planned.new.names in
    let r = c.args.running.now in
    subst (IsKept new c.args.limits) (sym (one_running r _ _ _ _))
    (kept_grown c.args.names.now new c.plan-planned.ensures.grows c.args.limits r c.requires.kept)
