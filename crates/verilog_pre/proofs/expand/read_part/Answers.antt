use Rattle.std.proofs.Common.{◌∷◌, sym, subst}
use Rattle.verilog_pre.specs.Expansions.{Leads, context, output, used, work_on}
use Rattle.verilog_pre.specs.Parts.{Read}
use Rattle.verilog_pre.specs.Views.{part_of, work_of, IsListed}
use Rattle.verilog_pre.proofs.Steps.{text_leads}
use Rattle.verilog_pre.proofs.expand.read_part.Goals as goal

pub returns-in-Text-clause-step : goal.returns-in-Text-clause-step
returns-in-Text-clause-step c =
    subst (λ p. Leads c.args.names.now c.emit_stretch.result
    (work_on (context c.args.macros.now c.args.at) c.args.nest.now.open.items (output c.args.out.now) (Read (part_of c.args.macros.now.words p) ∷ work_of c.args.macros.now.words c.args.nest.now))
    (work_on (context c.args.macros.now c.args.at) c.args.nest.now.open.items (output c.emit_stretch.new.out) (work_of c.args.macros.now.words c.args.nest.now)))
    (sym c.in-Text.is)
    (text_leads c.args.names.now c.emit_stretch.result (context c.args.macros.now c.args.at) c.args.nest.now.open.items (output c.args.out.now) (output c.emit_stretch.new.out) c.in-Text.stretch (work_of c.args.macros.now.words c.args.nest.now)
    (c.emit_stretch.ensures.piece c.args.names.now) c.emit_stretch.ensures.uses)

pub enter-requires-clause-within : goal.enter-requires-clause-within
enter-requires-clause-within c = subst (IsListed _) c.in-Use.is c.requires.part

pub returns-in-Use-clause-step : goal.returns-in-Use-clause-step
unfolding used work_on
returns-in-Use-clause-step c =
    subst (λ p. Leads c.enter.new.names c.enter.result
    (work_on (context c.args.macros.now c.args.at) c.args.nest.now.open.items (output c.args.out.now) (Read (part_of c.args.macros.now.words p) ∷ work_of c.args.macros.now.words c.args.nest.now))
    (work_on (context c.args.macros.now c.args.at) c.enter.new.nest.open.items (output c.enter.new.out) (work_of c.args.macros.now.words c.enter.new.nest)))
    (sym c.in-Use.is) c.enter.ensures.used
