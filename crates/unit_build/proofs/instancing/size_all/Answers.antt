use Rattle.std.proofs.Common.{map, ◌∙◌, sym}
use Rattle.typed_ir.specs.Items.{item_of}
use Rattle.width_rules.specs.Entries.{scope_of}
use Rattle.unit_build.proofs.Endings.{faults_end, items_end}
use Rattle.unit_build.proofs.instancing.size_all.Goals as goal

pub returns-clause-faultless : goal.returns-clause-faultless
returns-clause-faultless c =
    sym c.loop-instance.invariant.ahead
    ∙ faults_end (scope_of c.args.scope.now) c.loop-instance.left.now c.args.instances.now c.loop-instance.instance-index c.loop-instance-test.false

pub returns-clause-items : goal.returns-clause-items
returns-clause-items c =
    items_end (scope_of c.args.scope.now) c.loop-instance.child c.loop-instance.left.now c.args.instances.now c.loop-instance.instance-index
    (map item_of c.loop-instance.items.items) c.loop-instance-test.false
    ∙ c.loop-instance.invariant.kept
