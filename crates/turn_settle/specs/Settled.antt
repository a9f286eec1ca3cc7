-- What the session's pass knows before and after a settle beside workers, and one for which memory ran out.
use Rattle.std.specs.Prelude.{◌≡◌, ℕ, ◌+◌, ◌≤◌, ◌<◌, List, Option}
use Rattle.machine.specs.Kit.{Kit}
use Rattle.book_history.specs.Book.{Event}
use Rattle.book_history.specs.Law.{lead_in}
use Rattle.book_history.specs.Readers.{links_in}
use Rattle.segment_verify.specs.Passes.{IsSettle, IsUnfinished}
use Rattle.book_turn.specs.Known.{Known}
use Rattle.book_turn.specs.Turns.{HasAdded}
use Rattle.turn_settle.specs.Seen.{book_seen}

-- The session's own entries more are those of a settle with at most n passes over the links that were seen before, whose show has
-- this answer. Each pass made at least one link more lead, so there were no more passes than links.
pub record HasSettledBeside {D S R O : Type 0} (k : Kit D S R O) (v w : Known D R O) (n : ℕ) (answer : Option ℕ) : Type 0 where
  pub own : List (Event D R O)
  pub added : HasAdded own v w
  pub is_settle : IsSettle n (links_in (book_seen k v)) own
  pub answers : is_settle.answer ≡ answer
  pub within : is_settle.count ≤ links_in (book_seen k v)
  pub leads : lead_in (book_seen k v) + is_settle.count ≤ lead_in (book_seen k w)

-- They are those of a settle that memory ran out for, before the last of its n passes was made.
pub record HasTriedBeside {D R O : Type 0} (v w : Known D R O) (n : ℕ) : Type 0 where
  pub own : List (Event D R O)
  pub added : HasAdded own v w
  pub unfinished : IsUnfinished own
  pub few : unfinished.count < n
