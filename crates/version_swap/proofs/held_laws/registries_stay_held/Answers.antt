use Rattle.version_swap.proofs.GrownTexts.{text_kept}
use Rattle.version_swap.proofs.HeldUnits.{none_held, key_under, same_held, cut_held, ensured_held, grown_held}
use Rattle.version_swap.proofs.held_laws.registries_stay_held.Goals as goal

pub returns-clause-empty : goal.returns-clause-empty
returns-clause-empty c = none_held

pub returns-clause-made : goal.returns-clause-made
returns-clause-made c = key_under

pub returns-clause-ensured : goal.returns-clause-ensured
returns-clause-ensured c = ensured_held

pub returns-clause-same : goal.returns-clause-same
returns-clause-same c = same_held

pub returns-clause-cut : goal.returns-clause-cut
returns-clause-cut c = cut_held

pub returns-clause-grown : goal.returns-clause-grown
returns-clause-grown c = grown_held

pub returns-clause-texts : goal.returns-clause-texts
returns-clause-texts c old new job grows h = text_kept old new grows job h
