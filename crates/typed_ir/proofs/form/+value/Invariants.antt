-- The evaluation of an expression goes down its depth; what is done with parts stands between it and its parts.
use Rattle.std.proofs.Common.{◌+◌, ◌*◌, max}
use Rattle.typed_ir.proofs.form.Form.TheLaws.{the_size}
use Rattle.typed_ir.proofs.form.+value.Given as goal

abbrev pub decreases-Form::value : goal.decreases-Form::value
decreases-Form::value l = 3 * goal.size-Form::value l + 1

abbrev pub decreases-Form::evaluated : goal.decreases-Form::evaluated
decreases-Form::evaluated l = 3 * goal.size-Form::evaluated l

abbrev pub decreases-pick : goal.decreases-pick
decreases-pick l = 3 * goal.size-pick l + 2

abbrev pub decreases-unary : goal.decreases-unary
decreases-unary l = 3 * goal.size-unary l + 2

abbrev pub decreases-binary : goal.decreases-binary
decreases-binary l = 3 * max (the_size l.a.now) (the_size l.b.now) + 2

abbrev pub decreases-choice : goal.decreases-choice
decreases-choice l = 3 * max (the_size l.c.now) (max (the_size l.a.now) (the_size l.b.now)) + 2

abbrev pub decreases-concat : goal.decreases-concat
decreases-concat l = 3 * max (the_size l.a.now) (the_size l.b.now) + 2

abbrev pub decreases-repeat : goal.decreases-repeat
decreases-repeat l = 3 * goal.size-repeat l + 2

abbrev pub decreases-resized : goal.decreases-resized
decreases-resized l = 3 * goal.size-resized l + 2
