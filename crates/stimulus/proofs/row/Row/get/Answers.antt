use Rattle.std.proofs.Common.{◌∙◌, ◌<◌, List, ℕ, length, sym, ap, subst, arith}
use Rattle.std.proofs.lemmas.List.{length-map}
use Rattle.stimulus.specs.declared.setting.Setting.{Setting}
use Rattle.stimulus.specs.Places.{IsAt, IsGapFor}
use Rattle.stimulus.specs.Rows.{value_in}
use Rattle.stimulus.specs.Settings.{pair_of, pairs_of}
use Rattle.stimulus.proofs.Placed.{value_at_place, value_in_gap, pair_read}
use Rattle.stimulus.proofs.row.Row.get.Goals as goal

-- the name is at its place, and the setting there is the one that was read
pub returns-in-Ok : goal.returns-in-Ok
returns-in-Ok c =
    let items = c.self.inside.settings.items in
    let name = c.args.name.0 in
    let place = c.in-Ok.place in
    let x = c.index.result.now in
    let at = subst (λ (xs : List Setting). IsAt (pairs_of xs) name place) c.deref.ensures.value c.in-Ok.ensures.found in
    let within : place < length items = omega (arith, at.within, length-map items pair_of) in
    ap (λ (s : Setting). s.value) c.index.ensures
    ∙ sym (ap (λ (p : ℕ × ℕ). p.1) (pair_read items place x within))
    ∙ sym (value_at_place (pairs_of items) c.self.invariant name place at)
    ∙ ap (λ (row : List (ℕ × ℕ)). value_in row name) c.self.view_is

-- the name isn't set
pub returns-in-Err : goal.returns-in-Err
returns-in-Err c =
    let items = c.self.inside.settings.items in
    let name = c.args.name.0 in
    let gap = subst (λ (xs : List Setting). IsGapFor (pairs_of xs) name c.in-Err.field-0) c.deref.ensures.value c.in-Err.ensures.absent in
    sym (value_in_gap (pairs_of items) name c.in-Err.field-0 gap)
    ∙ ap (λ (row : List (ℕ × ℕ)). value_in row name) c.self.view_is
