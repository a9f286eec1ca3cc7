use Rattle.live_session.proofs.session.Session.new.Goals as goal

pub invariant_of-result-clause-clock_is : goal.invariant_of-result-clause-clock_is
invariant_of-result-clause-clock_is c = c.in_ok-clock.ensures.id.same
