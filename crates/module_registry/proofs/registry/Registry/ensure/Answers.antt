use Rattle.std.proofs.Common.{◌≡◌, ◌≤◌, ◌++◌, List, map, true, length, sym, ap, subst, ◌∙◌, arith}
use Rattle.module_registry.specs.Keys.{KeyData, jobs_of}
use Rattle.module_registry.specs.Building.{Built, built_all}
use Rattle.module_registry.specs.Entries.{Entry, keys_of, are_new, missing, entries}
use Rattle.module_registry.specs.UnitViews.{shared_unit}
use Rattle.module_registry.specs.Views.{entries_of}
use Rattle.module_registry.proofs.News.{missing_new}
use Rattle.module_registry.proofs.Making.{made_within, all_held, more_hold}
use Rattle.module_registry.proofs.registry.Registry.ensure.Goals as goal

pub add_or_cut-requires : goal.add_or_cut-requires
add_or_cut-requires g c =
    let held = keys_of (entries_of c.args.self.now) in
    subst (λ (ks : List KeyData). are_new held ks ≡ true) (sym (c.deref-2.ensures.value ∙ c.in_ok-missing.ensures)) (missing_new held c.args.keys.now c.requires.distinct)

pub overflow_cast-built : goal.overflow_cast-built
overflow_cast-built g c =
    let within = made_within (keys_of (entries_of c.args.self.now)) c.args.keys.now c.in_ok-missing.missing.items c.deref.result.now _ c.in_ok-missing.ensures c.deref.ensures.value c.deref.ensures.len in
    omega (arith, within, c.in_ok-asked.ensures)

pub overflow_sub-result : goal.overflow_sub-result
overflow_sub-result g c =
    let within = made_within (keys_of (entries_of c.args.self.now)) c.args.keys.now c.in_ok-missing.missing.items c.deref.result.now _ c.in_ok-missing.ensures c.deref.ensures.value c.deref.ensures.len in
    omega (arith, within, c.in_ok-asked.ensures)

pub returns-clause-kept : goal.returns-clause-kept
returns-clause-kept g c =
    let within = made_within (keys_of (entries_of c.args.self.now)) c.args.keys.now c.in_ok-missing.missing.items c.deref.result.now _ c.in_ok-missing.ensures c.deref.ensures.value c.deref.ensures.len in
    omega (arith, within, c.in_ok-asked.ensures)

pub returns-clause-holds : goal.returns-clause-holds
returns-clause-holds g c =
    more_hold g.F.Forge.builds (entries_of c.args.self.now) (entries_of c.add_or_cut.new.self) c.deref.result.now c.deref-2.result.now _ (map shared_unit c.deref-3.result.now)
    c.in_ok-units.ensures.units (c.deref-2.ensures.value ∙ sym c.deref.ensures.value)
    (ap (map shared_unit) c.deref-3.ensures.value ∙ c.in_ok-units-2.ensures) c.in_ok-add_or_cut.ensures.more

pub returns-clause-all : goal.returns-clause-all
returns-clause-all g c =
    all_held g.F.Forge.builds (entries_of c.args.self.now) (entries_of c.add_or_cut.new.self) c.args.keys.now c.deref.result.now c.deref-2.result.now _ (map shared_unit c.deref-3.result.now)
    c.in_ok-units.ensures.units (c.deref.ensures.value ∙ c.in_ok-missing.ensures) (c.deref-2.ensures.value ∙ sym c.deref.ensures.value)
    (ap (map shared_unit) c.deref-3.ensures.value ∙ c.in_ok-units-2.ensures) c.in_ok-add_or_cut.ensures.more
