use Rattle.std.proofs.Common.{rules, tests, ◌==◌, ℕ}
use Rattle.std.proofs.lemmas.Iterator.Search.{any_from_yields_List}
use Rattle.std.proofs.lemmas.Iterator.Splits.{YieldsList-from_slice_split}
use Rattle.ls_port.specs.FileNames.{leads_up, has_way_up}
use Rattle.ls_port.proofs.file_names.has_way_up.Goals as goal

pub returns : goal.returns
unfolding has_way_up
returns c =
    any_from_yields_List leads_up _ _ _ c.any.ensures.ran
    (YieldsList-from_slice_split _ (λ (b : ℕ). b == 47) c.args.name.now c.split.ensures.rest c.split.ensures.done c.split.ensures.closure
    (λ x r q k. search (rules, tests)))
    (λ x b q k. search (rules, tests))
