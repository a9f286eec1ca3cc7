use Rattle.version_swap.proofs.DesignCopies.{copies_are_of_design, design_is_linked}
use Rattle.version_swap.proofs.flat_laws.copies_are_those_of_the_design.Goals as goal

pub returns-clause-design : goal.returns-clause-design
returns-clause-design c = copies_are_of_design

pub returns-clause-linked : goal.returns-clause-linked
returns-clause-linked c = λ l t ms top clock all xs jobs js us tree turns is view made told built tabled.
    let d = design_is_linked l t ms top clock all xs jobs js us tree turns is view made told built tabled in (d.copies, (d.are_copies, d.linked))
