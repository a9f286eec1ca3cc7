use Rattle.book_history.proofs.Outlines.{chosen_is, length-cycles}
use Rattle.book_history.proofs.Places.{replay-append, moments-append, still_opened, lead_all}
use Rattle.book_history.proofs.laws.places_of_histories.Goals as goal

pub returns-clause-replays : goal.returns-clause-replays
returns-clause-replays g c = let m = g.M.Machine in λ st b xs ys. replay-append m.kit st b xs ys

pub returns-clause-moments : goal.returns-clause-moments
returns-clause-moments g c = let m = g.M.Machine in λ st b xs ys. moments-append m.kit st b xs ys

pub returns-clause-opened : goal.returns-clause-opened
returns-clause-opened g c = let m = g.M.Machine in λ st b es o. still_opened m.kit st b es o

pub returns-clause-all_lead : goal.returns-clause-all_lead
returns-clause-all_lead g c = λ xs h. lead_all xs h

pub returns-clause-chosen : goal.returns-clause-chosen
returns-clause-chosen g c = λ limit a xs. chosen_is limit a xs

pub returns-clause-marks : goal.returns-clause-marks
returns-clause-marks g c = λ xs. length-cycles xs
