use Rattle.std.proofs.Common.{◌≡◌, ◌∙◌, ◌≤◌, ◌<◌, length, map, sym, subst, ap, refl}
use Rattle.std.specs.Prelude.{codes, None}
use Rattle.std.specs.List.{All}
use Rattle.std.specs.Option.{option_or, unwrap_or}
use Rattle.std.proofs.lemmas.List.Elements.{All-nil}
use Rattle.ls_text.specs.declared.fault.Fault.{Fault}
use Rattle.ls_text.specs.declared.name_id.NameId.{NameId}
use Rattle.ls_text.specs.declared.source_file.SourceFile.{SourceFile}
use Rattle.ls_text.specs.Readings.{fault_view}
use Rattle.ls_text.specs.Texts.{text_at}
use Rattle.module_registry.specs.Views.{entries_of}
use Rattle.version_swap.proofs.Short.{short_behind}
use Rattle.version_swap.specs.Files as numbered
use Rattle.version_swap.specs.Operations.{IsEditFault, IsEditRefusal}
use Rattle.version_swap.specs.declared.texts.Texts.{Texts}
use Rattle.live_session.specs.Beside.{settings_by}
use Rattle.live_session.specs.Files.{text_file}
use Rattle.live_session.specs.Turns.{Refuses}
use Rattle.live_session.specs.Worlds.{fresh, refused_text}
use Rattle.live_session.proofs.Beginning.{begins, begun_begins, behind_none}
use Rattle.live_session.proofs.BlockTexts.{sources_within}
use Rattle.live_session.proofs.NextWorlds.{takes_fault}
use Rattle.live_session.proofs.planning.begin.Goals as goal

pub returns-in-Ok-clause-begins : goal.returns-in-Ok-clause-begins
returns-in-Ok-clause-begins g c =
    let old = c.args.names.now in
    let new = c.plan-planned.new.names in
    let e = c.args.edit.now in
    let loaded = c.args.loaded.now in
    let t = c.no_texts-texts in
    let planned = c.in-Ok.planned in
    let is = c.in-Ok.ensures in
    let clock_in = subst (λ (id : NameId). id.0 < length old) (sym t.ensures.clock) c.requires.clock in
    let clock_is = subst (λ (id : NameId). text_at old id.0 ≡ codes "clk") (sym t.ensures.clock) c.requires.clock_is in
    let behind = behind_none old new c.plan-planned.ensures.grows c.has_each_once.ensures c.has_each_once-2.ensures e loaded c.requires.edit
    c.requires.named t.result t.ensures.files t.ensures.top clock_in clock_is in
    let short = short_behind 4194304 planned.texts.files t.result.files e.files e.loads loaded (ap (λ (x : Texts). x.files) is.texts)
    (subst (All (λ (f : SourceFile). length f.text ≤ 4194304)) (sym t.ensures.files) (All-nil (λ (f : SourceFile). length f.text ≤ 4194304)))
    c.requires.given c.requires.loaded in
    let es = entries_of c.args.registry.now in
    let before = entries_of c.plan-planned.new.registry in
    begun_begins new c.args.limits old e (map (text_file old) loaded) (entries_of c.begun_or_cut.new.registry) before planned.texts planned.design
    planned.keys planned.built planned.kept c.args.book.now c.begun_or_cut.new.book c.begun_or_cut.result
    (λ running line starts.
    begins old new e loaded t.result behind c.args.limits c.requires.room planned.texts planned.design planned.keys planned.built planned.kept
    c.args.book.now c.begun_or_cut.new.book running line starts c.requires.stands is.texts is.planned is.keyed _ es before c.requires.none is.ensured
    is.built is.kept is.valid short)
    c.begun_or_cut.ensures.kept c.begun_or_cut.ensures.starts

pub refused-requires-clause-files : goal.refused-requires-clause-files
refused-requires-clause-files g c =
    let old = c.args.names.now in
    let t = c.no_texts-texts in
    let clock_in = subst (λ (id : NameId). id.0 < length old) (sym t.ensures.clock) c.requires.clock in
    let clock_is = subst (λ (id : NameId). text_at old id.0 ≡ codes "clk") (sym t.ensures.clock) c.requires.clock_is in
    sources_within old c.plan-planned.new.names c.args.edit.now c.args.loaded.now t.result fresh
    (behind_none old c.plan-planned.new.names c.plan-planned.ensures.grows c.has_each_once.ensures c.has_each_once-2.ensures c.args.edit.now
    c.args.loaded.now c.requires.edit c.requires.named t.result t.ensures.files t.ensures.top clock_in clock_is)

pub returns-clause-begins : goal.returns-clause-begins
returns-clause-begins g c =
    let old = c.args.names.now in
    let new = c.plan-planned.new.names in
    let t = c.no_texts-texts in
    let e = c.args.edit.now in
    let loaded = c.args.loaded.now in
    let clock_in = subst (λ (id : NameId). id.0 < length old) (sym t.ensures.clock) c.requires.clock in
    let clock_is = subst (λ (id : NameId). text_at old id.0 ≡ codes "clk") (sym t.ensures.clock) c.requires.clock_is in
    let behind = behind_none old new c.plan-planned.ensures.grows c.has_each_once.ensures c.has_each_once-2.ensures e loaded c.requires.edit
    c.requires.named t.result t.ensures.files t.ensures.top clock_in clock_is in
    let fault = c.in-Err-Fault.fault in
    let reply = c.in_ok-reply-in-Err-Fault.reply in
    let files = numbered.files_behind t.result.files e.files e.loads loaded in
    let found : IsEditFault new files (option_or e.top t.result.top) (unwrap_or e.clock t.result.clock) None e.ops (fault_view new fault) =
    subst (IsEditRefusal new files (option_or e.top t.result.top) (unwrap_or e.clock t.result.clock) None e.ops) c.in-Err-Fault.field-0-is
    c.in-Err-Fault.ensures.refused in
    let says : Refuses (refused_text (map (text_file new) files) e.line (fault_view new fault)) reply =
    subst (λ (f : Fault). Refuses (refused_text (map (text_file new) files) e.line (fault_view new f)) reply) c.in-Err-Fault.fault-is
    c.in_ok-reply-in-Err-Fault.ensures in
    record {
      takes = takes_fault old new e loaded t.result fresh behind (settings_by c.args.limits c.args.book.now) fresh c.args.book.now None tt
          (fault_view new fault) reply refl found says;
      goes_on = says.goes_on;
      none = c.in-Err-Fault.ensures.stays ∙ c.requires.none;
      stands = c.requires.stands;
    }
