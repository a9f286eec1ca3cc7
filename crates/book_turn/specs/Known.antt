-- What a pass knows, and what each kind of step does to that.
use Rattle.std.specs.Prelude.{ℕ, ◌+◌, List, [], ◌∷◌, ◌++◌, Bool, true, false, Option, Some, None, length, if◌then◌else◌, leb}
use Rattle.book_history.specs.Event.{Settings, Event}
use Rattle.book_history.specs.Journal.{Journal}
use Rattle.book_history.specs.Owned.{owned, added}
use Rattle.book_history.specs.Tickets.{kept_all}

-- `seen` is the history that the holder has seen, and `heard` what it and a worker had seen when the worker's pass was last joined in.
-- `own` is the holder's own list, what it has added; the session's begins with the session's entries of the history that was put into
-- the turn. `splits` is how many workers' passes were split from it, and `crew` has the own list of each one that was joined in, in the
-- order of the joins. The settings are none until the book is in its turn
pub record Known (D R O : Type 0) : Type 0 where
  pub live : Bool
  pub session : Bool
  pub alone : Bool
  pub holds : Bool
  pub seen : List (Event D R O)
  pub heard : List (List (Event D R O))
  pub own : List (Event D R O)
  pub splits : ℕ
  pub crew : List (List (Event D R O))
  pub tickets : List ℕ
  pub settings : Option Settings

abbrev pub longer : {E : Type 0} → List E → List E → List E
longer xs ys = if leb (length ys) (length xs) then xs else ys

module _ {D R O : Type 0} where
  -- the first pass, before the book is in its turn
  abbrev pub opening : Known D R O
  opening = record { live = true; session = true; alone = true; holds = true; seen = []; heard = []; own = []; splits = 0; crew = []; tickets = []; settings = None }

  -- make: the session pass, with this book in its turn
  abbrev pub begun : Journal D R O → Known D R O
  begun j = record { live = true; session = true; alone = true; holds = false; seen = j.events; heard = []; own = owned j.events; splits = 0; crew = []; tickets = []; settings = Some j.settings }

  -- pop with the book
  abbrev pub entered : Known D R O → Journal D R O → Known D R O
  entered v j = record { live = v.live; session = v.session; alone = v.alone; holds = true; seen = j.events; heard = []; own = v.own; splits = v.splits; crew = v.crew; tickets = v.tickets; settings = v.settings }

  -- push
  abbrev pub left : Known D R O → Journal D R O → Known D R O
  left v j = record {
    live = v.live;
    session = v.session;
    alone = v.alone;
    holds = false;
    seen = j.events;
    heard = [];
    own = v.own ++ added v.seen j.events;
    splits = v.splits;
    crew = v.crew;
    tickets = kept_all v.tickets (added v.seen j.events);
    settings = v.settings;
  }

  -- split: the session pass, and the worker pass
  abbrev pub after_split : Known D R O → Known D R O
  after_split v = record { live = v.live; session = v.session; alone = false; holds = v.holds; seen = v.seen; heard = v.heard; own = v.own; splits = v.splits + 1; crew = v.crew; tickets = v.tickets; settings = v.settings }

  abbrev pub worker_of : Known D R O → Known D R O
  worker_of v = record { live = true; session = false; alone = false; holds = false; seen = v.seen; heard = []; own = []; splits = 0; crew = []; tickets = []; settings = v.settings }

  -- what a pass knows apart from its splits
  abbrev pub apart_from_splits : Known D R O → Known D R O
  apart_from_splits v = record { live = v.live; session = v.session; alone = false; holds = v.holds; seen = v.seen; heard = v.heard; own = v.own; splits = 0; crew = v.crew; tickets = v.tickets; settings = v.settings }

  -- join: the session pass, and the worker pass
  abbrev pub joined : Known D R O → Known D R O → Known D R O
  joined v w = record { live = v.live; session = v.session; alone = v.alone; holds = v.holds; seen = longer v.seen w.seen; heard = v.seen ∷ w.seen ∷ []; own = v.own; splits = v.splits; crew = v.crew ++ w.own ∷ []; tickets = v.tickets; settings = v.settings }

  abbrev pub spent : Known D R O
  spent = record { live = false; session = false; alone = false; holds = false; seen = []; heard = []; own = []; splits = 0; crew = []; tickets = []; settings = None }
