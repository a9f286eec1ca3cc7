use Rattle.std.proofs.Common.{◌∙◌, refl}
use Rattle.width_rules.specs.Scopes.{Genvar}
use Rattle.width_rules.specs.Entries.{scope_of}
use Rattle.gen_unroll.proofs.Scoping.{names_split}
use Rattle.gen_unroll.proofs.naming.declare_genvars.Goals as goal

pub loop-name-preserved : goal.loop-name-preserved
loop-name-preserved c = record {
  names = names_split Genvar _ c.args.names.now c.loop-name.name-index _ (scope_of c.loop-name.scope) (scope_of c.declare.new.scope)
      c.loop-name-test.true refl c.in_ok-declare.ensures.names
      ∙ c.loop-name.invariant.names;
  kept = c.in_ok-declare.ensures.around ∙ c.loop-name.invariant.kept;
}
