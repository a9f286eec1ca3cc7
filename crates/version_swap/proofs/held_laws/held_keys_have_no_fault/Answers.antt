use Rattle.version_swap.proofs.EnsuredUnits.{alike_given, among_given, each_given, first_fault}
use Rattle.version_swap.proofs.held_laws.held_keys_have_no_fault.Goals as goal

pub returns-clause-faults : goal.returns-clause-faults
returns-clause-faults c names builds es keys f so once h made jobs is = first_fault names builds es keys so once h made jobs f is

pub returns-clause-found : goal.returns-clause-found
returns-clause-found c names builds es new keys so once h made jobs is = each_given names builds es keys so once h made jobs new is

pub returns-clause-alike : goal.returns-clause-alike
returns-clause-alike c es x y is = alike_given es x y is

pub returns-clause-among : goal.returns-clause-among
returns-clause-among c builds es keys k have among = among_given es keys have.units k have.under among
