use Rattle.std.proofs.Common.{◌≡◌, ℕ, List, None, false, true}
use Rattle.std.specs.Io.KnownBytes.{Appends}
use Rattle.book_turn.specs.Passes.{IsOf, known}
use Rattle.book_turn.specs.Turns.{GoesOn}
use Rattle.command_read.specs.Readers.{still_of, stopped}
use Rattle.live_options.specs.Words.{OptionsOf}
use Rattle.live_session.specs.AtTurn.{StandsAt, log_of}
use Rattle.live_session.specs.Verdicts.{Told}
use Rattle.livesim.specs.Runs.{HasSettings}
use Rattle.livesim.specs.Settings.{settings}
use Rattle.livesim.specs.Turns.{HasLimits, source_at, shelf_at}
use Rattle.livesim.proofs.Turns.{Done}
use Rattle.livesim.proofs.carrying.carry_out.Given as goal

-- the commands so far are carried out and their lines written, whatever the options are that the book was made with
abbrev pub invariant-commands : goal.invariant-commands
invariant-commands g l = record {
  done : (o : OptionsOf) → HasSettings (settings o) (log_of (known l.initial.pass))
      → (told : List Told) × (text : List ℕ)
      × Done (settings o) (source_at (g.S.Source.left l.initial.source) (g.S.Source.faults l.initial.source)) (source_at (g.S.Source.left l.source) (g.S.Source.faults l.source))
      (shelf_at (g.F.Shelf.answers l.initial.shelf) (g.F.Shelf.faults l.initial.shelf)) (shelf_at (g.F.Shelf.answers l.shelf) (g.F.Shelf.faults l.shelf)) l.session l.reader
      (log_of (known l.pass)) l.refused false told text
      × Appends (g.K.Sink.written l.initial.sink) (g.K.Sink.written l.sink) text;
  limits : HasLimits l.session;
  its_turn : IsOf l.book_turn l.pass true;
  at : StandsAt l.session (known l.pass);
  goes : GoesOn (known l.initial.pass) (known l.pass);
  going : stopped l.reader ≡ None;
  read : g.S.Source.faults l.source ≡ g.S.Source.faults l.initial.source;
  kept : g.K.Sink.faults l.sink ≡ g.K.Sink.faults l.initial.sink;
}

abbrev pub decreases-commands : goal.decreases-commands
decreases-commands g l = still_of l.reader
