use Rattle.live_session.proofs.OneAnswer.{one_answer}
use Rattle.live_session.proofs.laws.texts_have_one_answer.Goals as goal

pub returns : goal.returns
returns c = one_answer
