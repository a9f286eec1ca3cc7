-- How entries of a settle are counted.
use Rattle.std.specs.Prelude.{ℕ, ◌+◌}
use Rattle.book_history.specs.Rooms.{Counts}

-- with so many entries of the session more
abbrev pub with_more : Counts → ℕ → Counts
with_more c n = record { session = c.session + n; workers = c.workers; closed = c.closed }
