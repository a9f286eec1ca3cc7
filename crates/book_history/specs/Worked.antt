-- Histories worked by hand, over the machine that adds. The facts about them are the contract of `worked_histories`.
use Rattle.std.specs.Prelude.{ℕ, List, [], ◌∷◌, true, false, Option, Some, None, eqb, replicate}
use Rattle.machine.specs.Kit.{Kit}
use Rattle.machine.specs.Tally.{tally_after}
use Rattle.book_history.specs.declared.who.Who.{Who}
use Rattle.book_history.specs.declared.who.Who.TheVariants.{Session, Worker}
use Rattle.book_history.specs.declared.link.Link.{Link}
use Rattle.book_history.specs.declared.segment.Segment.{Segment}
use Rattle.book_history.specs.Book.{Book, Settings, Event, Opens, Runs, Reloads, Claims, Installs, Releases, Shows}

-- a machine is the number that it adds
abbrev pub tally : Kit ℕ ℕ ℕ (Unit {0})
tally = record { start = λ m. 0; seg = λ m rows s. tally_after m rows s; carried = λ old m ops s. s; alike = λ m x y. eqb x y }

abbrev pub always_valid : ℕ → ℕ → Unit {0} → Type 0
always_valid old new ops = Unit {0}

abbrev pub settings : ℕ → ℕ → Settings
settings interval lookback = record { interval = interval; lookback = lookback; rooms = record { session = 100; workers = 100 } }

abbrev pub Tallied : Type 0
Tallied = Event ℕ ℕ (Unit {0})

abbrev pub links_and_marks : Option (Book ℕ ℕ ℕ) → List (Segment ℕ)
links_and_marks None = []
links_and_marks (Some c) = c.segs

abbrev pub mark : Link → ℕ → ℕ → Segment ℕ
mark l to state = record { link = l; to = to; state = state }

-- five cycles with rows of 0 under a machine that adds 3, and a reload with one that adds 4
abbrev pub reloaded_once : List Tallied
reloaded_once = Opens 1 3 ∷ Runs 5 (0 ∷ 0 ∷ 0 ∷ 0 ∷ 0 ∷ []) ∷ Reloads 2 4 tt 4 ∷ []

-- the session then claims and installs link by link
abbrev pub settled_first : List Tallied
settled_first = Opens 1 3 ∷ Runs 5 (0 ∷ 0 ∷ 0 ∷ 0 ∷ 0 ∷ []) ∷ Reloads 2 4 tt 4 ∷ Claims 1 0 2 Session ∷ Installs 1 true Session ∷ []

abbrev pub settled_second : List Tallied
settled_second =
    Opens 1 3 ∷ Runs 5 (0 ∷ 0 ∷ 0 ∷ 0 ∷ 0 ∷ []) ∷ Reloads 2 4 tt 4 ∷ Claims 1 0 2 Session ∷ Installs 1 true Session
    ∷ Claims 2 2 4 Session ∷ Installs 2 true Session ∷ []

abbrev pub settled_all : List Tallied
settled_all =
    Opens 1 3 ∷ Runs 5 (0 ∷ 0 ∷ 0 ∷ 0 ∷ 0 ∷ []) ∷ Reloads 2 4 tt 4 ∷ Claims 1 0 2 Session ∷ Installs 1 true Session
    ∷ Claims 2 2 4 Session ∷ Installs 2 true Session ∷ Shows (Some 4) ∷ Claims 3 4 5 Session ∷ Installs 3 true Session ∷ Shows None ∷ []

-- two claims of the session for the same link, both installed
abbrev pub claimed_twice : List Tallied
claimed_twice =
    Opens 1 3 ∷ Runs 5 (0 ∷ 0 ∷ 0 ∷ 0 ∷ 0 ∷ []) ∷ Reloads 2 4 tt 4 ∷ Claims 1 0 2 Session ∷ Claims 2 0 2 Session
    ∷ Installs 1 true Session ∷ Installs 2 true Session ∷ []

-- a claim of the session, and a reload with 5 before its result comes
abbrev pub stale_once : List Tallied
stale_once =
    Opens 1 3 ∷ Runs 5 (0 ∷ 0 ∷ 0 ∷ 0 ∷ 0 ∷ []) ∷ Reloads 2 4 tt 4 ∷ Claims 1 0 2 Session ∷ Reloads 3 5 tt 4 ∷ Installs 1 false Session ∷ []

-- workers' claims with stale results, a release, and a second reload between
abbrev pub worker : Who
worker = Worker 1

abbrev pub stale_results : List Tallied
stale_results =
    Opens 1 3 ∷ Runs 5 (0 ∷ 0 ∷ 0 ∷ 0 ∷ 0 ∷ []) ∷ Reloads 2 4 tt 4 ∷ Claims 1 0 2 worker ∷ Reloads 3 5 tt 4 ∷ Installs 1 false worker
    ∷ Claims 2 0 2 worker ∷ Claims 3 2 4 worker ∷ Installs 2 true worker ∷ Installs 3 false worker ∷ Claims 4 2 4 worker ∷ Releases 4 worker
    ∷ Claims 5 2 4 worker ∷ Installs 5 true worker ∷ Shows (Some 4) ∷ Claims 6 4 5 worker ∷ Installs 6 true worker ∷ Shows None ∷ []

-- 1,024 marks, and one cycle more under a ticket
abbrev pub thinned : List Tallied
thinned = Opens 1 3 ∷ Runs 1023 (replicate 1023 0) ∷ Reloads 2 4 tt 1022 ∷ Claims 1 0 1 worker ∷ Runs 1 (0 ∷ []) ∷ []

abbrev pub first_of : List (Segment ℕ) → Option (Segment ℕ)
first_of [] = None
first_of (g ∷ gs) = Some g
