use Rattle.std.proofs.Common.{◌≡◌, ◌∙◌, All, ap, arith, option_copied, refl, rules, subst, sym, take}
use Rattle.std.specs.Option.{option_or, unwrap_or}
use Rattle.ls_text.proofs.Growth.{grows_on}
use Rattle.module_registry.specs.Entries.{keys_of}
use Rattle.module_registry.specs.Views.{entries_of}
use Rattle.version_swap.specs.Held.{IsKeyUnder}
use Rattle.version_swap.proofs.HeldUnits.{grown_held, same_held}
use Rattle.version_swap.specs.Files.{files_behind}
use Rattle.version_swap.specs.Made.{MadeBehind, no_more}
use Rattle.version_swap.specs.Operations.{IsEditRefusal, in_files}
use Rattle.version_swap.proofs.CheckedEdits.{files_refused, made_here, operation_refused, ops_grown, plan_behind}
use Rattle.version_swap.proofs.Handed.{all_err, handed}
use Rattle.version_swap.proofs.Ordered.{are_behind}
use Rattle.version_swap.proofs.Short.{short_behind}
use Rattle.version_swap.proofs.ShownUnits.{none_shown}
use Rattle.version_swap.proofs.Steps.{first_held, keys_grown, many_planned}
use Rattle.version_swap.proofs.planning.plan.Goals as goal

pub returns-then-len-gt256-clause-refused : goal.returns-then-len-gt256-clause-refused
returns-then-len-gt256-clause-refused g c =
    let e = c.args.edit.now in
    let t = c.args.texts.now in
    in_files (many_planned c.args.names.now c.in_ok-files.files.items (files_behind t.files e.files e.loads c.args.loaded.now) (option_or e.top t.top)
    (unwrap_or e.clock t.clock) c.too_many.result
    (are_behind c.in_ok-files.files.items c.as_slice.result.now t.files e.files e.loads c.args.loaded.now c.in_ok-files.ensures c.as_slice.ensures)
    (omega (arith, c.if-len-gt256.true, c.len.ensures)) (c.too_many.ensures.view c.args.names.now))

pub returns-then-len-gt256-clause-known : goal.returns-then-len-gt256-clause-known
returns-then-len-gt256-clause-known g c = none_shown c.args.names.now c.too_many.result.names c.too_many.ensures.none

pub version-requires-clause-texts : goal.version-requires-clause-texts
version-requires-clause-texts g c =
    let e = c.args.edit.now in
    let t = c.args.texts.now in
    short_behind 4194304 c.deref.result.now t.files e.files e.loads c.args.loaded.now
    (c.deref.ensures.value
    ∙ are_behind c.in_ok-files.files.items c.as_slice.result.now t.files e.files e.loads c.args.loaded.now c.in_ok-files.ensures c.as_slice.ensures)
    c.requires.before c.requires.given c.requires.loaded

pub returns-in_err-files-clause-made_behind : goal.returns-in_err-files-clause-made_behind
returns-in_err-files-clause-made_behind g c =
    let e = c.args.edit.now in
    let t = c.args.texts.now in
    all_err (MadeBehind (files_behind t.files e.files e.loads c.args.loaded.now) (option_or e.top t.top) (unwrap_or e.clock t.clock)
    (keys_of (entries_of c.args.registry.now)) (g.F.Forge.made c.args.forge.now) (g.F.Forge.made c.args.forge.now)) c.from_residual.result
    (λ e. no_more refl)

pub returns-then-len-gt256-clause-made_behind : goal.returns-then-len-gt256-clause-made_behind
returns-then-len-gt256-clause-made_behind g c = no_more refl

pub returns-in_err-version-clause-refused : goal.returns-in_err-version-clause-refused
returns-in_err-version-clause-refused g c =
    let e = c.args.edit.now in
    let t = c.args.texts.now in
    let files = files_behind t.files e.files e.loads c.args.loaded.now in
    let are = c.deref.ensures.value
    ∙ are_behind c.in_ok-files.files.items c.as_slice.result.now t.files e.files e.loads c.args.loaded.now c.in_ok-files.ensures c.as_slice.ensures in
    let named : c.or-top.result ≡ option_or e.top t.top = search rules in
    let clocked : c.unwrap_or-clock.result ≡ unwrap_or e.clock t.clock = search rules in
    handed (IsEditRefusal c.version.new.names files (option_or e.top t.top) (unwrap_or e.clock t.clock) (option_copied c.args.old) e.ops)
    c.from_residual-in_err-version.result c.in_err-version.field-0.0 c.from_residual-in_err-version.ensures.1
    (files_refused c.version.new.names c.deref.result.now files c.or-top.result (option_or e.top t.top) c.unwrap_or-clock.result
    (unwrap_or e.clock t.clock) are named clocked (option_copied c.args.old) e.ops c.in_err-version.field-0.0 c.in_err-version.ensures.refused)

pub checked-requires : goal.checked-requires
checked-requires g c = record {
  named = ops_grown c.args.names.now c.version.new.names c.as_slice-2.result.now c.args.edit.now.ops c.in_ok-version.ensures.grows
      c.as_slice-2.ensures c.requires.operations;
}

pub returns-in-Err-clause-refused : goal.returns-in-Err-clause-refused
returns-in-Err-clause-refused g c =
    let e = c.args.edit.now in
    let t = c.args.texts.now in
    let files = files_behind t.files e.files e.loads c.args.loaded.now in
    let are = c.deref.ensures.value
    ∙ are_behind c.in_ok-files.files.items c.as_slice.result.now t.files e.files e.loads c.args.loaded.now c.in_ok-files.ensures c.as_slice.ensures in
    let named : c.or-top.result ≡ option_or e.top t.top = search rules in
    let clocked : c.unwrap_or-clock.result ≡ unwrap_or e.clock t.clock = search rules in
    operation_refused c.checked.new.names c.deref.result.now files c.or-top.result (option_or e.top t.top) c.unwrap_or-clock.result
    (unwrap_or e.clock t.clock) are named clocked (option_copied c.args.old) e.ops c.version.new.names c.in_ok-version.version.design
    c.in_ok-version.version.keys.items c.as_slice-2.result.now c.in-Err.refusal c.in-Err.ensures.grows c.as_slice-2.ensures
    c.in_ok-version.ensures.planned c.in-Err.ensures.refused

pub returns-in-Err-clause-held : goal.returns-in-Err-clause-held
returns-in-Err-clause-held g c =
    let es = entries_of c.args.registry.now in
    let new = entries_of c.version.new.registry in
    let grows = grows_on c.args.names.now c.version.new.names c.checked.new.names c.in_ok-version.ensures.grows c.in-Err.ensures.grows in
    same_held c.checked.new.names es (entries_of c.cut.new.self) (grown_held c.args.names.now c.checked.new.names es grows c.requires.held)
    (c.cut.ensures.entries ∙ ap (λ n. take n new) c.len-held.ensures.count
    ∙ first_held es new c.in_ok-version.version.keys.items c.in_ok-version.ensures.ensured)

pub returns-in-Err-clause-stays : goal.returns-in-Err-clause-stays
returns-in-Err-clause-stays g c =
    let es = entries_of c.args.registry.now in
    let new = entries_of c.version.new.registry in
    c.cut.ensures.entries ∙ ap (λ n. take n new) c.len-held.ensures.count
    ∙ first_held es new c.in_ok-version.version.keys.items c.in_ok-version.ensures.ensured

pub returns-in-Err-clause-made_behind : goal.returns-in-Err-clause-made_behind
returns-in-Err-clause-made_behind g c =
    let e = c.args.edit.now in
    let t = c.args.texts.now in
    let files = files_behind t.files e.files e.loads c.args.loaded.now in
    let are = c.deref.ensures.value
    ∙ are_behind c.in_ok-files.files.items c.as_slice.result.now t.files e.files e.loads c.args.loaded.now c.in_ok-files.ensures c.as_slice.ensures in
    let named : c.or-top.result ≡ option_or e.top t.top = search rules in
    let clocked : c.unwrap_or-clock.result ≡ unwrap_or e.clock t.clock = search rules in
    made_here c.checked.new.names c.deref.result.now files c.or-top.result (option_or e.top t.top) c.unwrap_or-clock.result
    (unwrap_or e.clock t.clock) are named clocked (keys_of (entries_of c.args.registry.now)) (g.F.Forge.made c.args.forge.now)
    (g.F.Forge.made c.version.new.forge) c.in-Err.refusal (c.in_ok-version.ensures.made_before c.in-Err.refusal)

pub returns-clause-planned : goal.returns-clause-planned
returns-clause-planned g c =
    plan_behind c.version.new.names c.checked.new.names c.in_ok-files.files.items c.deref.result.now c.new.result c.or-top.result
    c.unwrap_or-clock.result c.in_ok-version.version.design c.in_ok-version.version.keys.items c.new-2.result c.in_default.ensures.grows
    c.deref.ensures.value c.new.ensures c.new-2.ensures c.in_ok-version.ensures.planned

pub returns-clause-keyed : goal.returns-clause-keyed
returns-clause-keyed g c =
    subst (All (IsKeyUnder c.checked.new.names)) (sym c.new-2.ensures)
    (keys_grown c.version.new.names c.checked.new.names c.in_default.ensures.grows c.in_ok-version.version.keys.items c.in_ok-version.ensures.keyed
    c.in_ok-version.ensures.jobs)

pub returns-clause-held : goal.returns-clause-held
returns-clause-held g c =
    grown_held c.version.new.names c.checked.new.names (entries_of c.version.new.registry) c.in_default.ensures.grows c.in_ok-version.ensures.held
