-- The book that the fields stand for.
use Rattle.std.specs.Prelude.{ℕ, List}
use Rattle.book_history.specs.Book.{Book, DrawnTicket}
use Rattle.checkpoint_book.specs.declared.opened.Opened.{Opened}

-- with this record, and with these tickets drawn and used up
abbrev pub core_of : {D S R : Type 0} → Opened D S → List R → List (DrawnTicket D S R) → List ℕ → Book D S R
core_of o rows tickets used =
    record {
      version = o.version.value.number;
      machine = o.version.value.machine.value;
      rows = rows;
      first = o.first;
      segs = o.segs.items;
      tickets = tickets;
      used = used;
    }
