-- The walk goes down the tree.
use Rattle.std.proofs.Common.{◌+◌, ◌*◌, max}
use Rattle.typed_ir.proofs.form.Form.TheLaws.{the_size}
use Rattle.design_steps.proofs.pooling.+pool.Given as goal

abbrev pub decreases-pool_form : goal.decreases-pool_form
decreases-pool_form l = 3 * goal.size-pool_form l

abbrev pub decreases-pool_two : goal.decreases-pool_two
decreases-pool_two l = 3 * max (the_size l.a.now) (the_size l.b.now) + 1

abbrev pub decreases-pool_three : goal.decreases-pool_three
decreases-pool_three l = 3 * max (the_size l.c.now) (max (the_size l.a.now) (the_size l.b.now)) + 2

abbrev pub decreases-pool_index : goal.decreases-pool_index
decreases-pool_index l = 3 * goal.size-pool_index l + 1

abbrev pub decreases-pool_repeat : goal.decreases-pool_repeat
decreases-pool_repeat l = 3 * goal.size-pool_repeat l + 1
