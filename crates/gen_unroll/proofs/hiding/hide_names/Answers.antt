use Rattle.std.proofs.Common.{◌∙◌, refl}
use Rattle.width_rules.specs.Scopes.{Unknown}
use Rattle.width_rules.specs.Entries.{scope_of}
use Rattle.gen_unroll.proofs.Scoping.{names_split}
use Rattle.gen_unroll.proofs.hiding.hide_names.Goals as goal

pub loop-name-preserved : goal.loop-name-preserved
loop-name-preserved c = record {
  names = names_split Unknown _ c.args.names.now c.loop-name.name-index _ (scope_of c.loop-name.scope) (scope_of c.hide.new.scope)
      c.loop-name-test.true refl c.in_ok-hide.ensures.names
      ∙ c.loop-name.invariant.names;
  kept = c.in_ok-hide.ensures.around ∙ c.loop-name.invariant.kept;
}
