use Rattle.ls_text.specs.Readings.{fault_view}
use Rattle.live_session.proofs.SessionSteps.{fault_steps}
use Rattle.live_session.proofs.session.Session.refusal.Goals as goal

pub returns-clause-steps : goal.returns-clause-steps
returns-clause-steps c = fault_steps (fault_view c.args.self.now.names c.args.fault.now) c.args.self.now c.refused_text.result
    c.refused_text.ensures
