use Rattle.std.proofs.Common.{◌≡◌, ◌++◌, [], map, drop}
use Rattle.gen_unroll.specs.Views.{block_of, number_of, step_of}
use Rattle.unit_jobs.specs.BlockNames.{texts_within}
use Rattle.ls_text.specs.TextViews.{text_items}
use Rattle.unit_jobs.proofs.block_names.texts_within.Given as goal

-- the texts so far, and those of the steps that are left, within the blocks that are open
abbrev pub invariant-loop-step : goal.invariant-loop-step
invariant-loop-step l =
    map text_items l.texts.items ++ texts_within l.names (map block_of l.blocks) (map number_of l.around.items)
    (map step_of (drop l.step-index l.steps))
    ≡ texts_within l.names (map block_of l.blocks) [] (map step_of l.steps)
