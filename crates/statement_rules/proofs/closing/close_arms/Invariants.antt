use Rattle.std.proofs.Common.{◌≡◌, ◌++◌, map}
use Rattle.std.specs.Vec.Iter.{into_iter_items}
use Rattle.statement_rules.specs.Cases.{arm_form, sized_arm, closed_arm}
use Rattle.statement_rules.proofs.closing.close_arms.Given as goal

abbrev pub invariant-loop-arm : goal.invariant-loop-arm
invariant-loop-arm l =
    map sized_arm l.list.items ++ map (closed_arm l.length l.signed) (map arm_form (into_iter_items l.arm-iterator))
    ≡ map (closed_arm l.length l.signed) (map arm_form l.fn.arms.items)
