use Rattle.std.proofs.Common.{◌∙◌, sym}
use Rattle.width_rules.specs.Entries.{scope_of}
use Rattle.unit_build.proofs.Endings.{kinds_end}
use Rattle.unit_build.proofs.instancing.check_all.Goals as goal

pub returns-clause-faultless : goal.returns-clause-faultless
returns-clause-faultless c =
    sym c.loop-instance.invariant
    ∙ kinds_end (scope_of c.args.scope.now) c.loop-instance.left.now c.args.instances.now c.loop-instance.instance-index c.loop-instance-test.false
