-- The history of a book before and after a settle.
use Rattle.std.specs.Prelude.{◌≡◌, ℕ, ◌+◌, ◌≤◌, ◌<◌, List, ◌++◌, Option}
use Rattle.machine.specs.Kit.{Kit}
use Rattle.book_history.specs.Book.{Event}
use Rattle.book_history.specs.Journal.{Journal}
use Rattle.book_history.specs.Law.{lead_in}
use Rattle.book_history.specs.Readers.{links_in}
use Rattle.checkpoint_book.specs.Views.{book_of}
use Rattle.segment_verify.specs.Passes.{IsSettle, IsUnfinished}

-- The entries more are those of a settle with at most n passes, whose show has this answer. Each pass made at least one link
-- more lead, so there were no more passes than links.
pub record HasSettled {D S R O : Type 0} (k : Kit D S R O) (old new : Journal D R O) (n : ℕ) (answer : Option ℕ) : Type 0 where
  pub own : List (Event D R O)
  pub settings : new.settings ≡ old.settings
  pub events : new.events ≡ old.events ++ own
  pub is_settle : IsSettle n (links_in (book_of k old)) own
  pub answers : is_settle.answer ≡ answer
  pub within : is_settle.count ≤ links_in (book_of k old)
  pub leads : lead_in (book_of k old) + is_settle.count ≤ lead_in (book_of k new)

-- The entries more are those of a settle that memory ran out for, before the last of its n passes was made.
pub record HasTried {D R O : Type 0} (old new : Journal D R O) (n : ℕ) : Type 0 where
  pub own : List (Event D R O)
  pub settings : new.settings ≡ old.settings
  pub events : new.events ≡ old.events ++ own
  pub unfinished : IsUnfinished own
  pub few : unfinished.count < n
