use Rattle.version_swap.proofs.GrownSpelling.{grown_spelled}
use Rattle.version_swap.proofs.Parsed.{parsed_spelled}
use Rattle.version_swap.proofs.key_laws.parsed_modules_are_spelled.Goals as goal

pub returns-clause-parsed : goal.returns-clause-parsed
returns-clause-parsed c = parsed_spelled

pub returns-clause-grown : goal.returns-clause-grown
returns-clause-grown c old new x grows h = grown_spelled old new grows x h
