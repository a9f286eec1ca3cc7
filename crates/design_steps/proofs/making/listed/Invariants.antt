use Rattle.std.proofs.Common.{◌≡◌, ◌++◌, map, length}
use Rattle.design_steps.specs.Moves.{moved_step}
use Rattle.design_steps.proofs.making.listed.Given as goal

abbrev pub invariant-taking : goal.invariant-taking
invariant-taking l = l.list.items ++ map (moved_step l.places) l.steps.items ≡ map (moved_step l.places) l.fn.steps.items

abbrev pub decreases-taking : goal.decreases-taking
decreases-taking l = length l.steps.items
