use Rattle.std.proofs.Common.{◌≡◌, true, All}
use Rattle.std.specs.Prelude.{vec_len}
use Rattle.std.specs.Vec.Iter.{into_iter_items, into_iter_len}
use Rattle.book_turn.specs.Passes.{IsOf, known}
use Rattle.segment_verify.specs.Workers.{IsFree}
use Rattle.worker_scope.proofs.Joins.{IsJoining}
use Rattle.worker_scope.proofs.scope.join_all.Given as goal

abbrev pub invariant-loop-child : goal.invariant-loop-child
invariant-loop-child g l =
    IsOf l.turn l.pass true
    × IsFree (known l.pass)
    × All (λ h. h.promise.turn.value ≡ l.turn) (into_iter_items l.child-iterator)
    × IsJoining (λ h. h.promise.number) (vec_len l.fn.children) (known l.fn.pass) (known l.pass) (into_iter_len l.child-iterator) (into_iter_items l.child-iterator)
