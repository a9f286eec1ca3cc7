use Rattle.std.proofs.Common.{◌∙◌}
use Rattle.live_options.specs.Words.{options_of}
use Rattle.livesim.specs.Settings.{settings}
use Rattle.livesim.specs.Turns.{shelf_at}
use Rattle.livesim.proofs.Made.{made_run, made_short, never_rose, unmade}
use Rattle.livesim.proofs.live.run_made.Goals as goal

pub returns-in_default-clause-made : goal.returns-in_default-clause-made
returns-in_default-clause-made g c =
    unmade (settings (options_of c.args.options)) c.args.stages (shelf_at (g.F.Shelf.answers c.args.shelf.now) (g.F.Shelf.faults c.args.shelf.now))
    (g.K.Sink.written c.args.sink.now) _ c.stopped.result.history c.requires.few c.stopped.ensures.status c.stopped.ensures.events

pub returns-clause-made : goal.returns-clause-made
returns-clause-made g c =
    made_run (settings (options_of c.args.options)) c.args.stages _ _ _ _ _ _ _ _ _ _ c.run-ran.result.history (c.new-source.ensures ∙ c.in-Ok.ensures) c.requires.few
    c.run-ran.ensures.known c.run-ran.ensures.words (never_rose _ c.run-ran.ensures.read_fault) c.run-ran.ensures.lived

pub returns-clause-no_read_fault : goal.returns-clause-no_read_fault
returns-clause-no_read_fault g c = never_rose _ c.run-ran.ensures.read_fault

pub returns-clause-short : goal.returns-clause-short
returns-clause-short g c =
    made_short (settings (options_of c.args.options)) _ _ _ _ _ _ _ _ c.run-ran.result.history
    (made_run (settings (options_of c.args.options)) c.args.stages _ _ _ _ _ _ _ _ _ _ c.run-ran.result.history (c.new-source.ensures ∙ c.in-Ok.ensures) c.requires.few
    c.run-ran.ensures.known c.run-ran.ensures.words (never_rose _ c.run-ran.ensures.read_fault) c.run-ran.ensures.lived)
