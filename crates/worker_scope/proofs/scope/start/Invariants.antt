use Rattle.std.proofs.Common.{◌≡◌, true, All}
use Rattle.std.specs.Prelude.{vec_len}
use Rattle.book_turn.specs.Passes.{IsOf, known}
use Rattle.segment_verify.specs.Workers.{IsFree}
use Rattle.worker_scope.specs.Scope.{AreNumbered, HasSplit}
use Rattle.worker_scope.proofs.scope.start.Given as goal

abbrev pub invariant-loop-number : goal.invariant-loop-number
invariant-loop-number g l =
    IsOf l.turn l.pass true
    × IsFree (known l.pass)
    × HasSplit l.number (known l.fn.pass) (known l.pass)
    × All (λ h. h.promise.turn.value ≡ l.turn) l.children.items
    × AreNumbered (λ h. h.promise.number) 0 l.children.items
    × (vec_len l.children ≡ l.number)
