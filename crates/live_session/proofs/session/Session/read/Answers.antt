use Rattle.std.proofs.Common.{◌∙◌}
use Rattle.ls_text.proofs.Growth.{grown_text}
use Rattle.module_registry.specs.Views.{entries_of}
use Rattle.version_swap.proofs.HeldUnits.{grown_held}
use Rattle.live_session.proofs.Growing.{running_grown}
use Rattle.live_session.proofs.SessionSteps.{kept_on_names}
use Rattle.live_session.proofs.session.Session.read.Goals as goal

pub invariant_of-self-clause-clock_is : goal.invariant_of-self-clause-clock_is
invariant_of-self-clause-clock_is g c =
    let s = c.args.self.now in
    grown_text s.names c.read_command-end.new.names s.clock.0 c.read_command-end.ensures.grows s.clock_in ∙ s.clock_is

pub invariant_of-self-clause-kept : goal.invariant_of-self-clause-kept
invariant_of-self-clause-kept g c =
    let s = c.args.self.now in
    kept_on_names s.names c.read_command-end.new.names c.read_command-end.ensures.grows s.limits s.running s.kept

pub returns-clause-kept : goal.returns-clause-kept
returns-clause-kept g c grid =
    let s = c.args.self.now in
    running_grown s.names c.read_command-end.new.names c.read_command-end.ensures.grows c.has_each_once.ensures c.has_each_once-2.ensures s.limits
    (entries_of s.registry) grid s.running s.kept

pub returns-clause-beside : goal.returns-clause-beside
returns-clause-beside g c j h = record {
  stands = h.stands;
  held = grown_held c.args.self.now.names c.read_command-end.new.names (entries_of c.args.self.now.registry) c.read_command-end.ensures.grows h.held;
}
