use Rattle.std.proofs.Common.{refl}
use Rattle.livesim.specs.Settings.{settings}
use Rattle.livesim.specs.Turns.{source_at, shelf_at}
use Rattle.livesim.proofs.Made.{few_asked, unmade}
use Rattle.livesim.proofs.Over.{stopped_lived}
use Rattle.livesim.proofs.live.live_run.Goals as goal

pub returns-in-Err-clause-lived : goal.returns-in-Err-clause-lived
returns-in-Err-clause-lived g c = λ o is none.
    stopped_lived (settings o) (source_at (g.S.Source.left c.args.source.now) (g.S.Source.faults c.args.source.now))
    (shelf_at (g.F.Shelf.answers c.args.shelf.now) (g.F.Shelf.faults c.args.shelf.now)) (g.K.Sink.written c.args.sink.now) _ _ c.stopped.result.history
    c.stopped.ensures.taken c.stopped.ensures.status c.stopped.ensures.events

pub returns-in-Err-clause-made : goal.returns-in-Err-clause-made
returns-in-Err-clause-made g c = λ o stages is load. (
  c.stopped.ensures.taken,
  refl,
  unmade (settings o) stages (shelf_at (g.F.Shelf.answers c.args.shelf.now) (g.F.Shelf.faults c.args.shelf.now)) (g.K.Sink.written c.args.sink.now) _
      c.stopped.result.history (few_asked c.options_are_within.ensures _ o stages is load) c.stopped.ensures.status c.stopped.ensures.events,
)
