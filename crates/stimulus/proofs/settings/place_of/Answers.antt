use Rattle.std.proofs.Common.{rules}
use Rattle.std.proofs.lemmas.List.Sorted.{answers_always}
use Rattle.stimulus.specs.declared.setting.Setting.{Setting}
use Rattle.stimulus.proofs.Placed.{none_set, searched}
use Rattle.stimulus.proofs.settings.place_of.Goals as goal

-- the closure gives the name of a setting
pub returns-clause-found : goal.returns-clause-found
returns-clause-found c =
    let facts = c.binary_search_by_key.ensures in
    let by_name = facts.position (λ (s : Setting). s.name.0) (answers_always _ _ _ (λ f a r g called. search rules)) in
    (searched c.args.settings.now c.requires c.args.name.0 none_set _ facts.bound by_name).found

pub returns-clause-absent : goal.returns-clause-absent
returns-clause-absent c =
    let facts = c.binary_search_by_key.ensures in
    let by_name = facts.position (λ (s : Setting). s.name.0) (answers_always _ _ _ (λ f a r g called. search rules)) in
    (searched c.args.settings.now c.requires c.args.name.0 none_set _ facts.bound by_name).absent
