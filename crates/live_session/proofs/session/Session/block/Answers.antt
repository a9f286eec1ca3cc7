use Rattle.std.proofs.Common.{◌∙◌, sym}
use Rattle.live_session.proofs.session.Session.block.Goals as goal

pub renew-requires-clause-some : goal.renew-requires-clause-some
renew-requires-clause-some g c κs within = sym c.is_some.ensures ∙ c.if-is_some.true

pub begin-requires-clause-none : goal.begin-requires-clause-none
begin-requires-clause-none g c κs within = sym c.is_some.ensures ∙ c.if-is_some.false
