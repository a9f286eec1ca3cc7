use Rattle.live_session.proofs.OneHistory.{one_history}
use Rattle.live_session.proofs.laws.histories_have_one_output.Goals as goal

pub returns-clause-lines : goal.returns-clause-lines
returns-clause-lines c st bs ts es fs l r owned also p q = (one_history st bs ts es fs l r owned also p q).text

pub returns-clause-entries : goal.returns-clause-entries
returns-clause-entries c st bs ts es fs l r owned also p q = (one_history st bs ts es fs l r owned also p q).entries
