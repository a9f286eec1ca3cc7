use Rattle.livesim.proofs.Outputs.{histories_alike, outputs_alike}
use Rattle.livesim.proofs.laws.runs_have_one_output.Goals as goal

pub returns-clause-outputs : goal.returns-clause-outputs
returns-clause-outputs c =
    outputs_alike c.commands_have_one_output.ensures.lines c.commands_have_one_output.ensures.scripts c.histories_have_one_output.ensures.lines
    c.histories_have_one_output.ensures.entries

pub returns-clause-entries : goal.returns-clause-entries
returns-clause-entries c =
    histories_alike c.commands_have_one_output.ensures.lines c.commands_have_one_output.ensures.scripts c.histories_have_one_output.ensures.lines
    c.histories_have_one_output.ensures.entries
