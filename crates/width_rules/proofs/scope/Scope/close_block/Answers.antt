use Rattle.std.proofs.Common.{◌∷◌, ◌∙◌, sym, ap}
use Rattle.width_rules.specs.Found.{uncovered}
use Rattle.width_rules.specs.Entries.{scope_of}
use Rattle.width_rules.proofs.scope.Scope.close_block.Goals as goal

pub loop-covered-preserved : goal.loop-covered-preserved
loop-covered-preserved c =
    let left = c.pop_front.new.self.items in
    let before = scope_of c.loop-covered.self in
    ap (λ cs. uncovered cs (scope_of c.uncover.new.self)) c.uncover.ensures.covered
    ∙ ap (uncovered left) c.uncover.ensures.names
    ∙ ap (λ x. uncovered (x ∷ left) before) (sym c.in-Name.is)
    ∙ ap (λ cs. uncovered cs before) (sym c.in-Some.ensures.items)
    ∙ c.loop-covered.invariant
