use Rattle.std.proofs.Common.{refl, arith}
use Rattle.book_history.proofs.laws.worked_histories.Goals as goal

pub returns-clause-reload : goal.returns-clause-reload
returns-clause-reload c = refl

pub returns-clause-first : goal.returns-clause-first
returns-clause-first c = refl

pub returns-clause-second : goal.returns-clause-second
returns-clause-second c = refl

pub returns-clause-all : goal.returns-clause-all
returns-clause-all c = refl

pub returns-clause-all_legal : goal.returns-clause-all_legal
returns-clause-all_legal c =
    record {
      follows = (refl, ((refl, omega arith), ((refl, tt, refl), ((refl, (0, refl)), ((_, refl, refl, refl, refl), ((refl, (8, refl)), ((_, refl, refl, refl, refl), (refl, ((refl, (16, refl)), ((_, refl, refl, refl, refl), (refl, tt)))))))))));
      in_rooms = (omega arith, (omega arith, (omega arith, ((omega arith, refl), (omega arith, ((omega arith, refl), (omega arith, (omega arith, ((omega arith, refl), (omega arith, (omega arith, tt)))))))))));
    }

pub returns-clause-twice : goal.returns-clause-twice
returns-clause-twice c = refl

pub returns-clause-stale : goal.returns-clause-stale
returns-clause-stale c = refl

pub returns-clause-stale_legal : goal.returns-clause-stale_legal
returns-clause-stale_legal c =
    record {
      follows = (refl, ((refl, omega arith), ((refl, tt, refl), ((refl, (0, refl)), ((refl, tt, refl), ((_, refl, refl, refl, refl), ((refl, (0, refl)), ((refl, (6, refl)), ((_, refl, refl, refl, refl), ((_, refl, refl, refl, refl), ((refl, (10, refl)), ((_, refl, refl, refl), ((refl, (10, refl)), ((_, refl, refl, refl, refl), (refl, ((refl, (20, refl)), ((_, refl, refl, refl, refl), (refl, tt))))))))))))))))));
      in_rooms = (omega arith, (omega arith, (omega arith, ((omega arith, refl), (omega arith, (tt, ((omega arith, refl), ((omega arith, refl), (tt, (tt, ((omega arith, refl), (tt, ((omega arith, refl), (tt, (omega arith, ((omega arith, refl), (tt, (omega arith, tt))))))))))))))))));
    }

pub returns-clause-thins : goal.returns-clause-thins
returns-clause-thins c = refl

pub returns-clause-merges : goal.returns-clause-merges
returns-clause-merges c = refl

pub returns-clause-twice_legal : goal.returns-clause-twice_legal
returns-clause-twice_legal c =
    record {
      follows = (refl, ((refl, omega arith), ((refl, tt, refl), ((refl, (0, refl)), ((refl, (0, refl)), ((_, refl, refl, refl, refl), ((_, refl, refl, refl, refl), tt)))))));
      in_rooms = (omega arith, (omega arith, (omega arith, ((omega arith, refl), ((omega arith, refl), (omega arith, (omega arith, tt)))))));
    }

pub returns-clause-once : goal.returns-clause-once
returns-clause-once c = refl

pub returns-clause-once_legal : goal.returns-clause-once_legal
returns-clause-once_legal c =
    record {
      follows = (refl, ((refl, omega arith), ((refl, tt, refl), ((refl, (0, refl)), ((refl, tt, refl), ((_, refl, refl, refl, refl), tt))))));
      in_rooms = (omega arith, (omega arith, (omega arith, ((omega arith, refl), (omega arith, (omega arith, tt))))));
    }

pub returns-clause-thins_legal : goal.returns-clause-thins_legal
returns-clause-thins_legal c =
    record {
      follows = (refl, ((refl, omega arith), ((refl, tt, refl), ((refl, (0, refl)), ((refl, omega arith), tt)))));
      in_rooms = (omega arith, (omega arith, (omega arith, ((omega arith, refl), (omega arith, tt)))));
    }
