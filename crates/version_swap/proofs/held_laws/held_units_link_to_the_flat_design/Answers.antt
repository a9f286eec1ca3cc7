use Rattle.version_swap.proofs.HeldDesign.{jobs_are_under, they_stand, they_are_flat, they_are_named}
use Rattle.version_swap.proofs.OneDesign.{one_design}
use Rattle.version_swap.proofs.held_laws.held_units_link_to_the_flat_design.Goals as goal

pub returns-clause-jobs : goal.returns-clause-jobs
returns-clause-jobs c = jobs_are_under

pub returns-clause-stand : goal.returns-clause-stand
returns-clause-stand c texts known names ms top clock xs js keys es units h of_jobs made held are =
    they_stand texts known names ms top clock xs js h keys es units of_jobs made held are

pub returns-clause-linked : goal.returns-clause-linked
returns-clause-linked c texts known names ms top clock xs js keys es units design h of_jobs made held are first linked =
    they_are_flat texts known names ms top clock xs js h keys es units of_jobs made held are design first linked

pub returns-clause-one : goal.returns-clause-one
returns-clause-one c names ms top clock xs ys a b once spelled g h = one_design names once ms spelled top clock xs ys a b g h

pub returns-clause-named : goal.returns-clause-named
returns-clause-named c texts known names ms top clock xs js keys es units design first rest h of_jobs made held are order linked loop =
    they_are_named texts known names ms top clock xs js h keys es units of_jobs made held are design first rest order linked loop
