use Rattle.live_session.proofs.OneOutput.{one_output}
use Rattle.live_session.proofs.laws.commands_have_one_output.Goals as goal

pub returns-clause-lines : goal.returns-clause-lines
returns-clause-lines c st w ts us rest others p q same begun ms =
    (one_output c.texts_have_one_answer.ensures st ts us w rest others p q same begun).lines ms

pub returns-clause-refused : goal.returns-clause-refused
returns-clause-refused c st w ts us rest others p q same begun =
    (one_output c.texts_have_one_answer.ensures st ts us w rest others p q same begun).refused

pub returns-clause-world : goal.returns-clause-world
returns-clause-world c st w ts us rest others p q same begun =
    (one_output c.texts_have_one_answer.ensures st ts us w rest others p q same begun).world

pub returns-clause-scripts : goal.returns-clause-scripts
returns-clause-scripts c st w ts us rest others p q same begun es ms is =
    (one_output c.texts_have_one_answer.ensures st ts us w rest others p q same begun).scripts es ms is
