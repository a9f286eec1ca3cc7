use Rattle.std.proofs.Common.{◌∙◌, List, ℕ, sym, ap, subst}
use Rattle.stimulus.specs.declared.setting.Setting.{Setting}
use Rattle.stimulus.specs.Places.{IsAt, IsGapFor}
use Rattle.stimulus.specs.Rows.{with_value, AreAscending}
use Rattle.stimulus.specs.Settings.{pairs_of}
use Rattle.stimulus.proofs.Placed.{ascending_set, ascending_inserted, with_replaced, with_inserted, pairs_of-set, pairs_of-insert}
use Rattle.stimulus.proofs.row.Row.put.Goals as goal

-- the name was there, and its setting is written over
pub invariant_of-self : goal.invariant_of-self
invariant_of-self c =
    let items = c.self.inside.settings.items in
    let name = c.args.name.0 in
    let place = c.in-Ok.place in
    let at = subst (λ (xs : List Setting). IsAt (pairs_of xs) name place) c.deref.ensures.value c.in-Ok.ensures.found in
    subst AreAscending (sym (pairs_of-set items place (record { name = c.args.name; value = c.args.value })))
    (ascending_set (pairs_of items) c.self.invariant name place at c.args.value)

pub returns-in-Ok-clause-ok : goal.returns-in-Ok-clause-ok
returns-in-Ok-clause-ok c =
    let items = c.self.inside.settings.items in
    let name = c.args.name.0 in
    let place = c.in-Ok.place in
    let at = subst (λ (xs : List Setting). IsAt (pairs_of xs) name place) c.deref.ensures.value c.in-Ok.ensures.found in
    pairs_of-set items place (record { name = c.args.name; value = c.args.value })
    ∙ sym (with_replaced (pairs_of items) c.self.invariant name place at c.args.value)
    ∙ ap (λ (row : List (ℕ × ℕ)). with_value row name c.args.value) c.self.view_is

-- the setting is added in the gap
pub invariant_of-self-in-Err : goal.invariant_of-self-in-Err
invariant_of-self-in-Err c =
    let items = c.self.inside.settings.items in
    let name = c.args.name.0 in
    let place = c.in-Err.place in
    let gap = subst (λ (xs : List Setting). IsGapFor (pairs_of xs) name place) c.deref.ensures.value c.in-Err.ensures.absent in
    subst AreAscending (sym (ap pairs_of c.in_ok-insert-in-Err.ensures.items ∙ pairs_of-insert items place (record { name = c.args.name; value = c.args.value })))
    (ascending_inserted (pairs_of items) name place gap c.args.value c.self.invariant)

pub returns-in_ok-insert-in-Err-clause-ok : goal.returns-in_ok-insert-in-Err-clause-ok
returns-in_ok-insert-in-Err-clause-ok c =
    let items = c.self.inside.settings.items in
    let name = c.args.name.0 in
    let place = c.in-Err.place in
    let gap = subst (λ (xs : List Setting). IsGapFor (pairs_of xs) name place) c.deref.ensures.value c.in-Err.ensures.absent in
    ap pairs_of c.in_ok-insert-in-Err.ensures.items
    ∙ pairs_of-insert items place (record { name = c.args.name; value = c.args.value })
    ∙ sym (with_inserted (pairs_of items) name c.args.value place gap)
    ∙ ap (λ (row : List (ℕ × ℕ)). with_value row name c.args.value) c.self.view_is
