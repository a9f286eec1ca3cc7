use Rattle.std.proofs.Common.{map, sym, ap, subst, ◌∙◌}
use Rattle.module_registry.specs.Views.{entry_of, entries_of}
use Rattle.module_registry.proofs.Held.{Stored, once}
use Rattle.module_registry.proofs.News.{IsCopying, copying_first}
use Rattle.module_registry.proofs.registry.Registry.copy.Goals as goal

pub loop-key-init : goal.loop-key-init
loop-key-init c =
    let held = entries_of c.args.self.now in
    let begun = map entry_of c.reserve.new.self.entries in
    subst (λ (es : Stored). IsCopying held begun (map entry_of es)) (sym c.into_iter-key-iterator.ensures.into_iter_gives.0)
    (copying_first held begun (ap (λ (es : Stored). map entry_of es) c.reserve.ensures.entries ∙ c.new-copy.ensures.empty) (once c.args.self.now.units.entries c.len.ensures.unique))
