use Rattle.std.proofs.Common.{◌≡◌, map, drop}
use Rattle.verilog_ast.specs.Views.{target_of, targets_of}
use Rattle.width_rules.specs.Entries.{scope_of}
use Rattle.width_rules.specs.Forms.{first_part as part_of}
use Rattle.width_rules.proofs.forms.+part.Given as goal

abbrev pub invariant-first_part_of-loop-target : goal.invariant-first_part_of-loop-target
invariant-first_part_of-loop-target l =
    part_of (scope_of l.scope) (targets_of (map target_of (drop l.target-index l.targets))) ≡ part_of (scope_of l.scope) (targets_of (map target_of l.targets))
