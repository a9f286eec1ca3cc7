use Rattle.std.proofs.Common.{◌∙◌, List, sym, ap₂}
use Rattle.stimulus.specs.declared.setting.Setting.{Setting}
use Rattle.stimulus.specs.Rows.{are_same}
use Rattle.stimulus.specs.Settings.{pairs_of}
use Rattle.stimulus.specs.SameRows.{same_is}
use Rattle.stimulus.proofs.row.Row.same.Goals as goal

pub returns-clause-equal : goal.returns-clause-equal
returns-clause-equal c =
    let is = c.are_equal.ensures
    ∙ ap₂ (λ (xs ys : List Setting). are_same (pairs_of xs) (pairs_of ys)) c.deref.ensures.value c.deref-2.ensures.value
    ∙ ap₂ are_same c.self.view_is c.other.view_is in
    let same = same_is c.args.self.now c.args.other.now in
    (λ yes. same.0 (sym is ∙ yes), λ e. is ∙ same.1 e)
