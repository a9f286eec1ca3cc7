use Rattle.std.proofs.Common.{◌≡◌, ◌≤◌, ◌+◌, ◌-◌, ◌++◌}
use Rattle.std.specs.List.{flat_map, range_with_len}
use Rattle.load_maker.specs.Scripts.{lines, stage_lines, stages}
use Rattle.load_maker.proofs.files.push_stages.Given as goal

-- the stages so far, and those that are left
abbrev pub invariant-loop-stage : goal.invariant-loop-stage
invariant-loop-stage l = record {
  some : 1 ≤ l.stage;
  within : l.stage ≤ l.last + 1;
  so_far : l.text.items ++ lines (flat_map stage_lines (range_with_len l.stage (l.last + 1 - l.stage))) ≡ l.initial.text.items ++ lines (stages l.last);
}
