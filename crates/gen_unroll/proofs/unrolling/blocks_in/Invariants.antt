use Rattle.std.proofs.Common.{◌≡◌, ◌++◌, map, drop}
use Rattle.gen_unroll.specs.Steps.{blocks_in}
use Rattle.gen_unroll.specs.Views.{step_of, block_of}
use Rattle.gen_unroll.proofs.unrolling.blocks_in.Given as goal

abbrev pub invariant-loop-step : goal.invariant-loop-step
invariant-loop-step l = map block_of l.blocks.items ++ blocks_in (map step_of (drop l.step-index l.steps)) ≡ blocks_in (map step_of l.steps)
