use Rattle.std.proofs.Common.{sym, ap, ◌++◌, ◌∷◌, [], List, ◌∙◌}
use Rattle.module_registry.specs.Keys.{KeyData}
use Rattle.module_registry.proofs.Held.{held}
use Rattle.module_registry.proofs.News.{none_more, one_missing}
use Rattle.module_registry.proofs.registry.Registry.add_missing.Goals as goal

pub returns-then-contains_key : goal.returns-then-contains_key
returns-then-contains_key c =
    none_more _ c.args.key.now c.args.missing.now.items
    (sym (held c.args.key.now c.args.self.now.units.entries) ∙ sym c.contains_key.ensures ∙ c.if-contains_key.true)

pub returns : goal.returns
returns c =
    c.in_ok-push.ensures.items
    ∙ ap (λ (k : KeyData). c.args.missing.now.items ++ k ∷ []) c.in_ok-clone.ensures.cases
    ∙ one_missing _ c.args.key.now c.args.missing.now.items
    (sym (held c.args.key.now c.args.self.now.units.entries) ∙ sym c.contains_key.ensures ∙ c.if-contains_key.false)
