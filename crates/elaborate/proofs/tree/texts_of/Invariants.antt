use Rattle.std.proofs.Common.{◌≡◌, ◌++◌, map, drop}
use Rattle.elaborate.specs.Jobs.{standing_of}
use Rattle.elaborate.specs.Trees.{called}
use Rattle.ls_text.specs.TextViews.{text_items}
use Rattle.elaborate.proofs.tree.texts_of.Given as goal

abbrev pub invariant-loop-one : goal.invariant-loop-one
invariant-loop-one l =
    map text_items l.texts.items ++ map (called l.names (map standing_of l.all)) (map standing_of (drop l.one-index l.all))
    ≡ map (called l.names (map standing_of l.all)) (map standing_of l.all)
