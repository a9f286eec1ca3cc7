use Rattle.std.proofs.Common.{◌≡◌, ◌++◌, map, drop}
use Rattle.width_rules.specs.Entries.{around}
use Rattle.gen_unroll.specs.Steps.{Listed}
use Rattle.gen_unroll.specs.Views.{steps_of, state_of}
use Rattle.gen_unroll.proofs.unrolling.listed.Given as goal

abbrev pub invariant-loop-name : goal.invariant-loop-name
invariant-loop-name l = record {
  steps : steps_of l.w ++ map Listed (drop l.name-index l.names) ≡ steps_of l.initial.w ++ map Listed l.names;
  state : state_of l.w ≡ state_of l.initial.w;
  kept : around l.w.scope ≡ around l.initial.w.scope;
}
