use Rattle.std.proofs.Common.{ℕ, List, subst}
use Rattle.ls_text.specs.Texts.{HasEachOnce}
use Rattle.ls_text.proofs.Tables.{each_once}
use Rattle.ls_text.proofs.names.Names.text.Goals as goal

pub returns-in-Some-clause-once : goal.returns-in-Some-clause-once
returns-in-Some-clause-once c =
    let Once : List (List ℕ) → Type 0 = λ t. HasEachOnce t in
    subst Once c.self.view_is (each_once c.self.inside.texts.keys c.len-count.ensures.unique)

pub returns-in-None-clause-once : goal.returns-in-None-clause-once
returns-in-None-clause-once c =
    let Once : List (List ℕ) → Type 0 = λ t. HasEachOnce t in
    subst Once c.self.view_is (each_once c.self.inside.texts.keys c.len-count.ensures.unique)
