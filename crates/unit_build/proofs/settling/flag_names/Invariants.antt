use Rattle.std.proofs.Common.{◌≡◌, drop}
use Rattle.width_rules.specs.Entries.{scope_of}
use Rattle.unit_build.specs.Settled.{flag_names}
use Rattle.unit_build.proofs.settling.flag_names.Given as goal

abbrev pub invariant-loop-mention : goal.invariant-loop-mention
invariant-loop-mention l =
    flag_names (scope_of l.scope) (drop l.mention-index l.mentions) l.flags.items ≡ flag_names (scope_of l.scope) l.mentions l.initial.flags.items
