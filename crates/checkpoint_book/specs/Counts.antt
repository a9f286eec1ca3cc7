-- What a book counts, and how an entry changes it.
use Rattle.std.specs.Prelude.{◌+◌, ◌-◌, ◌<◌, ◌^◌, true}
use Rattle.book_history.specs.declared.who.Who.{Who}
use Rattle.book_history.specs.declared.who.Who.TheVariants.{Session, Worker}
use Rattle.book_history.specs.Rooms.{Counts}
use Rattle.checkpoint_book.specs.declared.counters.Counters.{Counters}

abbrev pub counts : Counters → Counts
counts n = record { session = n.session; workers = n.workers; closed = n.closed }

-- far below the end of the numbers' type
pub record IsSmall (n : Counters) : Type 0 where
  pub session : n.session < 2 ^ 32
  pub workers : n.workers < 2 ^ 32
  pub drawn : n.drawn < 2 ^ 33
  pub out : n.out < 2 ^ 32

abbrev pub drew_by : Who → Counters → Counters
drew_by Session n = record { session = n.session + 1; workers = n.workers; drawn = n.drawn + 1; out = n.out; closed = n.closed }
drew_by (Worker w) n = record { session = n.session; workers = n.workers + 1; drawn = n.drawn + 1; out = n.out + 1; closed = n.closed }

abbrev pub used_by : Who → Counters → Counters
used_by Session n = record { session = n.session + 1; workers = n.workers; drawn = n.drawn; out = n.out; closed = n.closed }
used_by (Worker w) n = record { session = n.session; workers = n.workers + 1; drawn = n.drawn; out = n.out - 1; closed = n.closed }

abbrev pub one_more : Counters → Counters
one_more n = record { session = n.session + 1; workers = n.workers; drawn = n.drawn; out = n.out; closed = n.closed }

abbrev pub closing : Counters → Counters
closing n = record { session = n.session; workers = n.workers; drawn = n.drawn; out = n.out; closed = true }
