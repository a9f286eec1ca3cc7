use Rattle.std.proofs.Common.{◌∙◌, ap, length, refl, take}
use Rattle.ls_text.proofs.Growth.{grows_on}
use Rattle.ls_text.specs.Readings.{CanShow}
use Rattle.module_registry.specs.Entries.{keys_of}
use Rattle.module_registry.specs.Views.{entries_of}
use Rattle.cycle_eval.specs.Designs.{design_flat}
use Rattle.version_swap.proofs.HeldUnits.{grown_held, same_held}
use Rattle.version_swap.specs.Made.{MadeBehind, no_more}
use Rattle.version_swap.specs.Plans.{IsPlanRefusal}
use Rattle.version_swap.proofs.Handed.{all_err, handed}
use Rattle.version_swap.proofs.Steps.{has_keys, keyed, jobs_keyed, made_more, made_at, ensured_then, held_then, units_then, unit_refused, unit_known, all_among, they_stand, design_planned, design_refused, design_known, first_held}
use Rattle.version_swap.proofs.versions.version.Goals as goal

pub returns-in_err-found-clause-held : goal.returns-in_err-found-clause-held
returns-in_err-found-clause-held g c =
    grown_held c.args.names.now c.found.new.names (entries_of c.args.registry.now) c.in_err-found.ensures.grows c.requires.held

pub returns-in_err-keys-clause-held : goal.returns-in_err-keys-clause-held
returns-in_err-keys-clause-held g c =
    grown_held c.args.names.now c.found.new.names (entries_of c.args.registry.now) c.in_ok-found.ensures.grows c.requires.held

pub returns-in_err-first-clause-held : goal.returns-in_err-first-clause-held
returns-in_err-first-clause-held g c =
    grown_held c.args.names.now c.found.new.names (entries_of c.args.registry.now) c.in_ok-found.ensures.grows c.requires.held

pub returns-in_err-counts-clause-refused : goal.returns-in_err-counts-clause-refused
returns-in_err-counts-clause-refused g c =
    let es = entries_of c.args.registry.now in
    let h = has_keys c.in_ok-keys.keys.items c.deref.result.now c.in_ok-first.first.items c.in_ok-found.ensures.found c.deref.ensures.value
    c.in_ok-keys.ensures c.in_ok-first.ensures.first in
    handed (IsPlanRefusal c.found.new.names c.args.files.now c.args.top c.args.clock) c.from_residual-in_err-counts.result
    c.in_err-counts.field-0.0 c.from_residual-in_err-counts.ensures.1
    (unit_refused h es (grown_held c.args.names.now c.found.new.names es c.in_ok-found.ensures.grows c.requires.held) g.F.Forge.builds
    c.requires.builds c.deref-2.result.now c.deref-2.ensures.value c.in_err-counts.field-0.0 c.in_err-counts.ensures.refused)

pub returns-in_err-counts-clause-known : goal.returns-in_err-counts-clause-known
returns-in_err-counts-clause-known g c =
    let es = entries_of c.args.registry.now in
    let h = has_keys c.in_ok-keys.keys.items c.deref.result.now c.in_ok-first.first.items c.in_ok-found.ensures.found c.deref.ensures.value
    c.in_ok-keys.ensures c.in_ok-first.ensures.first in
    handed (CanShow (length c.found.new.names)) c.from_residual-in_err-counts.result
    c.in_err-counts.field-0.0 c.from_residual-in_err-counts.ensures.1
    (unit_known h es (grown_held c.args.names.now c.found.new.names es c.in_ok-found.ensures.grows c.requires.held) g.F.Forge.builds
    c.requires.builds c.deref-2.result.now c.deref-2.ensures.value c.in_err-counts.field-0.0 c.in_err-counts.ensures.refused)

pub returns-in_err-counts-clause-held : goal.returns-in_err-counts-clause-held
returns-in_err-counts-clause-held g c =
    let es = entries_of c.args.registry.now in
    same_held c.found.new.names es (entries_of c.ensure.new.self)
    (grown_held c.args.names.now c.found.new.names es c.in_ok-found.ensures.grows c.requires.held) c.in_err-counts.ensures.stays

pub returns-in_err-counts-clause-made_behind : goal.returns-in_err-counts-clause-made_behind
returns-in_err-counts-clause-made_behind g c =
    let held = keys_of (entries_of c.args.registry.now) in
    let h = has_keys c.in_ok-keys.keys.items c.deref.result.now c.in_ok-first.first.items c.in_ok-found.ensures.found c.deref.ensures.value
    c.in_ok-keys.ensures c.in_ok-first.ensures.first in
    handed (MadeBehind c.args.files.now c.args.top c.args.clock held (g.F.Forge.made c.args.forge.now) (g.F.Forge.made c.ensure.new.forge))
    c.from_residual-in_err-counts.result c.in_err-counts.field-0.0 c.from_residual-in_err-counts.ensures.1
    (made_at h held (g.F.Forge.made c.args.forge.now) (g.F.Forge.made c.ensure.new.forge) c.deref-2.result.now c.deref-2.ensures.value
    c.in_err-counts.field-0.0 c.in_err-counts.ensures.made_at)

pub of_units-requires-clause-among : goal.of_units-requires-clause-among
of_units-requires-clause-among g c =
    let es = entries_of c.args.registry.now in
    let new = entries_of c.ensure.new.self in
    let h = has_keys c.in_ok-keys.keys.items c.deref.result.now c.in_ok-first.first.items c.in_ok-found.ensures.found c.deref.ensures.value
    c.in_ok-keys.ensures c.in_ok-first.ensures.first in
    let held = held_then h es (grown_held c.args.names.now c.found.new.names es c.in_ok-found.ensures.grows c.requires.held) g.F.Forge.builds
    c.requires.builds c.deref-2.result.now c.deref-2.ensures.value new c.in_ok-counts.ensures.held in
    all_among h new held c.deref-2.result.now c.deref-2.ensures.value c.in_ok-counts.ensures.all c.deref-3.result.now c.deref-3.ensures.value

pub of_units-requires-clause-stand : goal.of_units-requires-clause-stand
of_units-requires-clause-stand g c =
    let es = entries_of c.args.registry.now in
    let new = entries_of c.ensure.new.self in
    let h = has_keys c.in_ok-keys.keys.items c.deref.result.now c.in_ok-first.first.items c.in_ok-found.ensures.found c.deref.ensures.value
    c.in_ok-keys.ensures c.in_ok-first.ensures.first in
    let held = held_then h es (grown_held c.args.names.now c.found.new.names es c.in_ok-found.ensures.grows c.requires.held) g.F.Forge.builds
    c.requires.builds c.deref-2.result.now c.deref-2.ensures.value new c.in_ok-counts.ensures.held in
    they_stand h new held c.deref-2.result.now c.deref-2.ensures.value c.in_ok-counts.ensures.all c.deref-3.result.now c.deref-3.ensures.value

pub returns-in-Ok-clause-planned : goal.returns-in-Ok-clause-planned
returns-in-Ok-clause-planned g c =
    let es = entries_of c.args.registry.now in
    let new = entries_of c.ensure.new.self in
    let h = has_keys c.in_ok-keys.keys.items c.deref.result.now c.in_ok-first.first.items c.in_ok-found.ensures.found c.deref.ensures.value
    c.in_ok-keys.ensures c.in_ok-first.ensures.first in
    let held = held_then h es (grown_held c.args.names.now c.found.new.names es c.in_ok-found.ensures.grows c.requires.held) g.F.Forge.builds
    c.requires.builds c.deref-2.result.now c.deref-2.ensures.value new c.in_ok-counts.ensures.held in
    let have = units_then h es (grown_held c.args.names.now c.found.new.names es c.in_ok-found.ensures.grows c.requires.held) g.F.Forge.builds
    c.requires.builds c.deref-2.result.now c.deref-2.ensures.value new c.in_ok-counts.ensures.held in
    design_planned h new held c.deref-2.result.now c.deref-2.ensures.value c.in_ok-counts.ensures.all have c.in_ok-found.found.tree.depth_first
    c.of_units.new.names c.in-Ok.ensures.grows c.deref-3.result.now c.deref-3.ensures.value (design_flat c.in-Ok.design) c.in-Ok.ensures.design

pub returns-in-Ok-clause-keyed : goal.returns-in-Ok-clause-keyed
returns-in-Ok-clause-keyed g c =
    let h = has_keys c.in_ok-keys.keys.items c.deref.result.now c.in_ok-first.first.items c.in_ok-found.ensures.found c.deref.ensures.value
    c.in_ok-keys.ensures c.in_ok-first.ensures.first in
    keyed h c.of_units.new.names c.in-Ok.ensures.grows

pub returns-in-Ok-clause-jobs : goal.returns-in-Ok-clause-jobs
returns-in-Ok-clause-jobs g c =
    let h = has_keys c.in_ok-keys.keys.items c.deref.result.now c.in_ok-first.first.items c.in_ok-found.ensures.found c.deref.ensures.value
    c.in_ok-keys.ensures c.in_ok-first.ensures.first in
    jobs_keyed h c.of_units.new.names c.in-Ok.ensures.grows

pub returns-in-Ok-clause-held : goal.returns-in-Ok-clause-held
returns-in-Ok-clause-held g c =
    let es = entries_of c.args.registry.now in
    let new = entries_of c.ensure.new.self in
    let h = has_keys c.in_ok-keys.keys.items c.deref.result.now c.in_ok-first.first.items c.in_ok-found.ensures.found c.deref.ensures.value
    c.in_ok-keys.ensures c.in_ok-first.ensures.first in
    let held = held_then h es (grown_held c.args.names.now c.found.new.names es c.in_ok-found.ensures.grows c.requires.held) g.F.Forge.builds
    c.requires.builds c.deref-2.result.now c.deref-2.ensures.value new c.in_ok-counts.ensures.held in
    grown_held c.found.new.names c.of_units.new.names new c.in-Ok.ensures.grows held

pub returns-in-Ok-clause-ensured : goal.returns-in-Ok-clause-ensured
returns-in-Ok-clause-ensured g c =
    let es = entries_of c.args.registry.now in
    let h = has_keys c.in_ok-keys.keys.items c.deref.result.now c.in_ok-first.first.items c.in_ok-found.ensures.found c.deref.ensures.value
    c.in_ok-keys.ensures c.in_ok-first.ensures.first in
    ensured_then h es (grown_held c.args.names.now c.found.new.names es c.in_ok-found.ensures.grows c.requires.held) g.F.Forge.builds
    c.requires.builds c.deref-2.result.now c.deref-2.ensures.value (entries_of c.ensure.new.self) c.in_ok-counts.ensures.held

pub returns-in-Ok-clause-made_before : goal.returns-in-Ok-clause-made_before
returns-in-Ok-clause-made_before g c =
    let es = entries_of c.args.registry.now in
    let new = entries_of c.ensure.new.self in
    let h = has_keys c.in_ok-keys.keys.items c.deref.result.now c.in_ok-first.first.items c.in_ok-found.ensures.found c.deref.ensures.value
    c.in_ok-keys.ensures c.in_ok-first.ensures.first in
    let have = units_then h es (grown_held c.args.names.now c.found.new.names es c.in_ok-found.ensures.grows c.requires.held) g.F.Forge.builds
    c.requires.builds c.deref-2.result.now c.deref-2.ensures.value new c.in_ok-counts.ensures.held in
    made_more h new have (keys_of es) (g.F.Forge.made c.args.forge.now) (g.F.Forge.made c.ensure.new.forge) c.deref-2.result.now
    c.deref-2.ensures.value c.in_ok-counts.ensures.made

pub returns-clause-refused : goal.returns-clause-refused
returns-clause-refused g c =
    let es = entries_of c.args.registry.now in
    let new = entries_of c.ensure.new.self in
    let h = has_keys c.in_ok-keys.keys.items c.deref.result.now c.in_ok-first.first.items c.in_ok-found.ensures.found c.deref.ensures.value
    c.in_ok-keys.ensures c.in_ok-first.ensures.first in
    let held = held_then h es (grown_held c.args.names.now c.found.new.names es c.in_ok-found.ensures.grows c.requires.held) g.F.Forge.builds
    c.requires.builds c.deref-2.result.now c.deref-2.ensures.value new c.in_ok-counts.ensures.held in
    let have = units_then h es (grown_held c.args.names.now c.found.new.names es c.in_ok-found.ensures.grows c.requires.held) g.F.Forge.builds
    c.requires.builds c.deref-2.result.now c.deref-2.ensures.value new c.in_ok-counts.ensures.held in
    design_refused h new held c.deref-2.result.now c.deref-2.ensures.value c.in_ok-counts.ensures.all have c.in_ok-found.found.tree.depth_first
    c.of_units.new.names c.in-Err.ensures.grows c.deref-3.result.now c.deref-3.ensures.value c.in-Err.refusal c.in-Err.ensures.refused

pub returns-clause-known : goal.returns-clause-known
returns-clause-known g c =
    let es = entries_of c.args.registry.now in
    let new = entries_of c.ensure.new.self in
    let h = has_keys c.in_ok-keys.keys.items c.deref.result.now c.in_ok-first.first.items c.in_ok-found.ensures.found c.deref.ensures.value
    c.in_ok-keys.ensures c.in_ok-first.ensures.first in
    let held = held_then h es (grown_held c.args.names.now c.found.new.names es c.in_ok-found.ensures.grows c.requires.held) g.F.Forge.builds
    c.requires.builds c.deref-2.result.now c.deref-2.ensures.value new c.in_ok-counts.ensures.held in
    let have = units_then h es (grown_held c.args.names.now c.found.new.names es c.in_ok-found.ensures.grows c.requires.held) g.F.Forge.builds
    c.requires.builds c.deref-2.result.now c.deref-2.ensures.value new c.in_ok-counts.ensures.held in
    design_known h new held c.deref-2.result.now c.deref-2.ensures.value c.in_ok-counts.ensures.all have c.in_ok-found.found.tree.depth_first
    c.of_units.new.names c.in-Err.ensures.grows c.deref-3.result.now c.deref-3.ensures.value c.in-Err.refusal c.in-Err.ensures.refused

pub returns-clause-stays : goal.returns-clause-stays
returns-clause-stays g c =
    let es = entries_of c.args.registry.now in
    let new = entries_of c.ensure.new.self in
    let h = has_keys c.in_ok-keys.keys.items c.deref.result.now c.in_ok-first.first.items c.in_ok-found.ensures.found c.deref.ensures.value
    c.in_ok-keys.ensures c.in_ok-first.ensures.first in
    c.cut.ensures.entries ∙ ap (λ n. take n new) c.len-held.ensures.count
    ∙ first_held es new c.in_ok-first.first.items
    (ensured_then h es (grown_held c.args.names.now c.found.new.names es c.in_ok-found.ensures.grows c.requires.held) g.F.Forge.builds
    c.requires.builds c.deref-2.result.now c.deref-2.ensures.value new c.in_ok-counts.ensures.held)

pub returns-clause-held : goal.returns-clause-held
returns-clause-held g c =
    let es = entries_of c.args.registry.now in
    let new = entries_of c.ensure.new.self in
    let grows = grows_on c.args.names.now c.found.new.names c.of_units.new.names c.in_ok-found.ensures.grows c.in-Err.ensures.grows in
    let h = has_keys c.in_ok-keys.keys.items c.deref.result.now c.in_ok-first.first.items c.in_ok-found.ensures.found c.deref.ensures.value
    c.in_ok-keys.ensures c.in_ok-first.ensures.first in
    same_held c.of_units.new.names es (entries_of c.cut.new.self) (grown_held c.args.names.now c.of_units.new.names es grows c.requires.held)
    (c.cut.ensures.entries ∙ ap (λ n. take n new) c.len-held.ensures.count
    ∙ first_held es new c.in_ok-first.first.items
    (ensured_then h es (grown_held c.args.names.now c.found.new.names es c.in_ok-found.ensures.grows c.requires.held) g.F.Forge.builds
    c.requires.builds c.deref-2.result.now c.deref-2.ensures.value new c.in_ok-counts.ensures.held))

pub returns-clause-made_behind : goal.returns-clause-made_behind
returns-clause-made_behind g c =
    let es = entries_of c.args.registry.now in
    let new = entries_of c.ensure.new.self in
    let h = has_keys c.in_ok-keys.keys.items c.deref.result.now c.in_ok-first.first.items c.in_ok-found.ensures.found c.deref.ensures.value
    c.in_ok-keys.ensures c.in_ok-first.ensures.first in
    let have = units_then h es (grown_held c.args.names.now c.found.new.names es c.in_ok-found.ensures.grows c.requires.held) g.F.Forge.builds
    c.requires.builds c.deref-2.result.now c.deref-2.ensures.value new c.in_ok-counts.ensures.held in
    made_more h new have (keys_of es) (g.F.Forge.made c.args.forge.now) (g.F.Forge.made c.ensure.new.forge) c.deref-2.result.now
    c.deref-2.ensures.value c.in_ok-counts.ensures.made c.in-Err.refusal

pub returns-in_err-found-clause-made_behind : goal.returns-in_err-found-clause-made_behind
returns-in_err-found-clause-made_behind g c =
    all_err (MadeBehind c.args.files.now c.args.top c.args.clock (keys_of (entries_of c.args.registry.now)) (g.F.Forge.made c.args.forge.now)
    (g.F.Forge.made c.args.forge.now)) c.from_residual.result (λ e. no_more refl)

pub returns-in_err-keys-clause-made_behind : goal.returns-in_err-keys-clause-made_behind
returns-in_err-keys-clause-made_behind g c =
    all_err (MadeBehind c.args.files.now c.args.top c.args.clock (keys_of (entries_of c.args.registry.now)) (g.F.Forge.made c.args.forge.now)
    (g.F.Forge.made c.args.forge.now)) c.from_residual-in_err-keys.result (λ e. no_more refl)

pub returns-in_err-first-clause-made_behind : goal.returns-in_err-first-clause-made_behind
returns-in_err-first-clause-made_behind g c =
    all_err (MadeBehind c.args.files.now c.args.top c.args.clock (keys_of (entries_of c.args.registry.now)) (g.F.Forge.made c.args.forge.now)
    (g.F.Forge.made c.args.forge.now)) c.from_residual-in_err-first.result (λ e. no_more refl)
