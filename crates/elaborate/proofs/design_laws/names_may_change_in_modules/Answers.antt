use Rattle.elaborate.proofs.RenamedNames.{same_beginning, same_reach}
use Rattle.elaborate.proofs.RenamedTexts.{same_spoken}
use Rattle.elaborate.proofs.RenamedTold.{same_blocks}
use Rattle.elaborate.proofs.RenamedUnrolled.{same_steps, same_first_fault}
use Rattle.elaborate.proofs.RenamedValues.{same_evaluated, same_range_value}
use Rattle.elaborate.proofs.design_laws.names_may_change_in_modules.Goals as goal

pub returns-clause-steps : goal.returns-clause-steps
returns-clause-steps c = same_steps

pub returns-clause-faults : goal.returns-clause-faults
returns-clause-faults c = same_first_fault

pub returns-clause-blocks : goal.returns-clause-blocks
returns-clause-blocks c = same_blocks

pub returns-clause-beginnings : goal.returns-clause-beginnings
returns-clause-beginnings c = same_beginning

pub returns-clause-reaches : goal.returns-clause-reaches
returns-clause-reaches c = same_reach

pub returns-clause-values : goal.returns-clause-values
returns-clause-values c = same_evaluated

pub returns-clause-ranges : goal.returns-clause-ranges
returns-clause-ranges c = same_range_value

pub returns-clause-texts : goal.returns-clause-texts
returns-clause-texts c = same_spoken
