-- What the fields of a history stand for.
use Rattle.machine.specs.Kit.{Kit}
use Rattle.machine.specs.Rows.{expanded, IsGapless}
use Rattle.book_history.specs.declared.written.Written.{Written}
use Rattle.book_history.specs.Journal.{Journal}
use Rattle.book_history.specs.Legal.{Legal}
use Rattle.book_history.specs.Weave.{weave, AreHeld}

abbrev pub journal_of : {D R O : Type 0} → Written D R O → Journal D R O
journal_of w =
    record {
      settings = record { interval = w.interval; lookback = w.lookback; rooms = w.rooms };
      events = weave w.entries.items w.loads.items (expanded w.runs.items);
    }

pub record IsWritten {D S R O : Type 0} (k : Kit D S R O) (valid : D → D → O → Type 0) (w : Written D R O) : Type 0 where
  pub held : AreHeld w.entries.items w.loads.items (expanded w.runs.items)
  pub gapless : IsGapless 0 w.runs.items w.cycle
  pub legal : Legal k valid (journal_of w).settings (journal_of w).events
