-- A session beside its pass: behind a read, and at the beginning.
use Rattle.std.proofs.Common.{◌≡◌, [], refl, sym, subst}
use Rattle.book_history.specs.Legal.{Legal}
use Rattle.book_turn.specs.Known.{apart_from_splits, begun}
use Rattle.segment_verify.specs.Workers.{IsFree}
use Rattle.live_session.specs.AtTurn.{Sight, StandsAt, log_of}
use Rattle.live_session.specs.Beside.{StandsBeside}
use Rattle.live_session.specs.Logs.{Log, kit, valid}
use Rattle.live_session.specs.declared.session.Session.{Session}

-- a session that has changed, as by reading, and stands beside all that it stood beside
pub stands_as : (s t : Session) (v : Sight) → StandsAt s v → ((j : Log) → StandsBeside s j → StandsBeside t j) → StandsAt t v
stands_as s t v h beside = record { free = h.free; carries = h.carries; sees = h.sees; legal = h.legal; stands = beside (log_of v) h.stands }

-- its pass is free
pub free_at : (s : Session) (v : Sight) → StandsAt s v → IsFree v
free_at s v h = h.free

begun_stands : (s : Session) (j : Log) → j.events ≡ [] → StandsBeside s j → StandsAt s (begun j)
begun_stands s j blank beside = record {
  free = record { outside = refl; no_ticket = refl };
  carries = refl;
  sees = refl;
  legal = subst (Legal kit valid j.settings) (sym blank) (record { follows = tt; in_rooms = tt });
  stands = beside;
}

-- so at the pass of a book that was just made
pub made_at : (s : Session) (v : Sight) (j : Log) → v ≡ begun j → j.events ≡ [] → StandsBeside s j → StandsAt s v
made_at s v j is blank beside = subst (StandsAt s) (sym is) (begun_stands s j blank beside)

-- ---- a pass that was split

-- all that a session asks of its pass is apart from its splits
stands_apart : (s : Session) (u : Sight) → StandsAt s (apart_from_splits u) → StandsAt s u
stands_apart s u h = record {
  free = record { outside = h.free.outside; no_ticket = h.free.no_ticket };
  carries = h.carries;
  sees = h.sees;
  legal = h.legal;
  stands = h.stands;
}

apart_stands : (s : Session) (u : Sight) → StandsAt s u → StandsAt s (apart_from_splits u)
apart_stands s u h = record {
  free = record { outside = h.free.outside; no_ticket = h.free.no_ticket };
  carries = h.carries;
  sees = h.sees;
  legal = h.legal;
  stands = h.stands;
}

pub split_stands : (s : Session) (v u : Sight) → apart_from_splits u ≡ apart_from_splits v → StandsAt s v → StandsAt s u
split_stands s v u same h = stands_apart s u (subst (StandsAt s) (sym same) (apart_stands s v h))
