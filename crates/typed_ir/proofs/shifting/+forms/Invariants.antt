-- Shifting an expression goes down its depth; what is done with parts stands between it and its parts.
use Rattle.std.proofs.Common.{◌+◌, ◌*◌, max}
use Rattle.typed_ir.proofs.form.Form.TheLaws.{the_size}
use Rattle.typed_ir.proofs.shifting.+forms.Given as goal

abbrev pub decreases-shifted_form : goal.decreases-shifted_form
decreases-shifted_form l = 2 * goal.size-shifted_form l

abbrev pub decreases-shifted_pick : goal.decreases-shifted_pick
decreases-shifted_pick l = 2 * goal.size-shifted_pick l + 1

abbrev pub decreases-shifted_unary : goal.decreases-shifted_unary
decreases-shifted_unary l = 2 * goal.size-shifted_unary l + 1

abbrev pub decreases-shifted_binary : goal.decreases-shifted_binary
decreases-shifted_binary l = 2 * max (the_size l.left.now) (the_size l.right.now) + 1

abbrev pub decreases-shifted_choice : goal.decreases-shifted_choice
decreases-shifted_choice l = 2 * max (the_size l.condition.now) (max (the_size l.consequent.now) (the_size l.alternative.now)) + 1

abbrev pub decreases-shifted_concat : goal.decreases-shifted_concat
decreases-shifted_concat l = 2 * max (the_size l.high.now) (the_size l.low.now) + 1

abbrev pub decreases-shifted_repeat : goal.decreases-shifted_repeat
decreases-shifted_repeat l = 2 * goal.size-shifted_repeat l + 1

abbrev pub decreases-shifted_resized : goal.decreases-shifted_resized
decreases-shifted_resized l = 2 * goal.size-shifted_resized l + 1
