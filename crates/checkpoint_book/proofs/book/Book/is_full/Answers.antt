use Rattle.std.proofs.Common.{arith}
use Rattle.checkpoint_book.proofs.Keeps.{small_of}
use Rattle.checkpoint_book.proofs.book.Book.is_full.Goals as goal

pub overflow_add-result : goal.overflow_add-result
overflow_add-result g c =
    let m = g.M.Machine in
    let s = small_of m.kit m.valid c.self.inside.history c.self.inside.opened c.self.inside.counters c.self.invariant c.legal.ensures in
    omega (arith, s.workers, s.out)

pub overflow_add-result-2 : goal.overflow_add-result-2
overflow_add-result-2 g c =
    let m = g.M.Machine in
    let s = small_of m.kit m.valid c.self.inside.history c.self.inside.opened c.self.inside.counters c.self.invariant c.legal.ensures in
    omega (arith, s.workers, s.out)
