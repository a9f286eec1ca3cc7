use Rattle.std.proofs.Common.{◌≡◌, ◌≤◌, ◌<◌, ℕ, drop}
use Rattle.design_steps.specs.Places.{are_placed}
use Rattle.design_steps.proofs.words.greatest_of.Given as goal

abbrev pub invariant-loop-step : goal.invariant-loop-step
invariant-loop-step l = record {
  least : l.least ≤ l.most;
  placed : (n : ℕ) → l.most < n → are_placed n (drop l.step-index l.steps) ≡ are_placed n l.steps;
}
