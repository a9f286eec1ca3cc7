use Rattle.book_history.proofs.Bridge.{still_out, next_is_new}
use Rattle.book_history.proofs.Others.{new_ticket}
use Rattle.book_history.proofs.laws.tickets_of_histories.Goals as goal

pub returns-clause-still_out : goal.returns-clause-still_out
returns-clause-still_out g c = let m = g.M.Machine in λ st h es n t by. still_out m.kit st h es n t by

pub returns-clause-next_is_new : goal.returns-clause-next_is_new
returns-clause-next_is_new g c = let m = g.M.Machine in λ st h l n is. next_is_new m.kit st m.valid h l.follows n is

pub returns-clause-claims_new : goal.returns-clause-claims_new
returns-clause-claims_new g c = let m = g.M.Machine in λ st xs ys n a b by l. new_ticket m.kit st m.valid xs ys n a b by l
