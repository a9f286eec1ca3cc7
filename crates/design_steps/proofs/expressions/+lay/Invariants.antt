-- The walk goes down the tree.
use Rattle.std.proofs.Common.{◌+◌, ◌*◌, max}
use Rattle.typed_ir.proofs.form.Form.TheLaws.{the_size}
use Rattle.design_steps.proofs.expressions.+lay.Given as goal

abbrev pub decreases-lay : goal.decreases-lay
decreases-lay l = 3 * goal.size-lay l

abbrev pub decreases-stand : goal.decreases-stand
decreases-stand l = 3 * goal.size-stand l + 1

abbrev pub decreases-lay_pick : goal.decreases-lay_pick
decreases-lay_pick l = 3 * goal.size-lay_pick l + 2

abbrev pub decreases-lay_unary : goal.decreases-lay_unary
decreases-lay_unary l = 3 * goal.size-lay_unary l + 2

abbrev pub decreases-lay_binary : goal.decreases-lay_binary
decreases-lay_binary l = 3 * max (the_size l.a.now) (the_size l.b.now) + 2

abbrev pub decreases-lay_choice : goal.decreases-lay_choice
decreases-lay_choice l = 3 * max (the_size l.c.now) (max (the_size l.a.now) (the_size l.b.now)) + 2

abbrev pub decreases-lay_concat : goal.decreases-lay_concat
decreases-lay_concat l = 3 * max (the_size l.a.now) (the_size l.b.now) + 2

abbrev pub decreases-lay_repeat : goal.decreases-lay_repeat
decreases-lay_repeat l = 3 * goal.size-lay_repeat l + 2

abbrev pub decreases-lay_resized : goal.decreases-lay_resized
decreases-lay_resized l = 3 * goal.size-lay_resized l + 2

abbrev pub decreases-stand_resized : goal.decreases-stand_resized
decreases-stand_resized l = 3 * goal.size-stand_resized l + 2
