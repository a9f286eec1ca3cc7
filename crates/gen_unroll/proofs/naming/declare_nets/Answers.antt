use Rattle.std.proofs.Common.{◌∙◌}
use Rattle.gen_unroll.specs.Declarations.{net}
use Rattle.width_rules.specs.Entries.{scope_of}
use Rattle.gen_unroll.proofs.Scoping.{names_split}
use Rattle.gen_unroll.proofs.naming.declare_nets.Goals as goal

pub loop-name-preserved : goal.loop-name-preserved
loop-name-preserved c = record {
  names = names_split net _ c.args.names.now c.loop-name.name-index _ (scope_of c.loop-name.scope) (scope_of c.declare.new.scope)
      c.loop-name-test.true c.net.ensures c.in_ok-declare.ensures.names
      ∙ c.loop-name.invariant.names;
  kept = c.in_ok-declare.ensures.around ∙ c.loop-name.invariant.kept;
}
