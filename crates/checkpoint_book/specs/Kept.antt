-- What the type of a book keeps.
use Rattle.std.specs.Prelude.{◌≡◌, ℕ, ◌+◌, ◌<◌, ◌≤◌, ◌^◌, length, Option, Some, None}
use Rattle.machine.specs.Kit.{Kit}
use Rattle.book_history.specs.Book.{Book}
use Rattle.book_history.specs.Journal.{Journal}
use Rattle.book_history.specs.Rooms.{out_of, count_all, no_entry}
use Rattle.checkpoint_book.specs.declared.counters.Counters.{Counters}
use Rattle.checkpoint_book.specs.declared.opened.Opened.{Opened}
use Rattle.checkpoint_book.specs.Counts.{counts}
use Rattle.checkpoint_book.specs.Idle.{left_of}
use Rattle.checkpoint_book.specs.Opened.{core_of}
use Rattle.checkpoint_book.specs.Views.{book_of}

-- the fields are those of the replayed book
pub record StandsFor {D S R : Type 0} (c : Book D S R) (o : Opened D S) (drawn out : ℕ) : Type 0 where
  pub core : c ≡ core_of o c.rows c.tickets c.used
  pub tickets : drawn ≡ length c.tickets
  pub outs : out ≡ out_of c.tickets c.used
  pub few : length o.segs.items < 1024
  pub left_is : o.left ≡ left_of o.segs.items

abbrev pub Stands : {D S R : Type 0} → Option (Book D S R) → Option (Opened D S) → ℕ → ℕ → Type 0
Stands None None drawn out = (drawn ≡ 0) × (out ≡ 0)
Stands None (Some o) drawn out = ⊥
Stands (Some c) None drawn out = ⊥
Stands (Some c) (Some o) drawn out = StandsFor c o drawn out

pub record IsKept {D S R O : Type 0} (k : Kit D S R O) (j : Journal D R O) (opened : Option (Opened D S)) (n : Counters) : Type 0 where
  pub stands : Stands (book_of k j) opened n.drawn n.out
  pub counted : count_all no_entry j.events ≡ counts n
  pub fewer : n.drawn ≤ n.session + n.workers
  pub interval : 1 ≤ j.settings.interval
  pub small_session : j.settings.rooms.session < 2 ^ 32
  pub small_workers : j.settings.rooms.workers < 2 ^ 32
