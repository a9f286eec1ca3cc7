-- An install and a release: the link of a ticket, and what becomes of it.
use Rattle.std.specs.Prelude.{ℕ, List, [], ◌∷◌, Bool, true, false, ◌&&◌, Option, Some, None, if◌then◌else◌, eqb}
use Rattle.machine.specs.Kit.{Kit}
use Rattle.book_history.specs.declared.link.Link.TheVariants.{Open, Joined}
use Rattle.book_history.specs.declared.segment.Segment.{Segment}
use Rattle.book_history.specs.Ticket.{DrawnTicket}
use Rattle.book_history.specs.State.{Book}
use Rattle.book_history.specs.Links.{free_link}

-- the link from a to g's end is the ticket's, and so is the state at a
abbrev pub matches : {D S R O : Type 0} → Kit D S R O → D → DrawnTicket D S R → ℕ → S → Segment S → Bool
matches k m t a s g = eqb a t.a && (eqb g.to t.b && k.alike m s t.start)

abbrev pub has_link : {D S R O : Type 0} → Kit D S R O → D → DrawnTicket D S R → ℕ → S → List (Segment S) → Bool
has_link k m t a s [] = false
has_link k m t a s (g ∷ gs) = if matches k m t a s g then true else has_link k m t g.to g.state gs

-- the test whether a ticket is current
abbrev pub is_current : {D S R O : Type 0} → Kit D S R O → Book D S R → DrawnTicket D S R → Bool
is_current k c t = if eqb t.version c.version then has_link k c.machine t 0 c.first c.segs else false

abbrev pub reopen : {S : Type 0} → List (Segment S) → List (Segment S)
reopen [] = []
reopen (g ∷ gs) = record { link = Open; to = g.to; state = g.state } ∷ gs

-- the ticket's link is joined; where the result differs, the mark takes it and the next link is opened
abbrev pub joined : {D S R O : Type 0} → Kit D S R O → D → DrawnTicket D S R → S → ℕ → S → List (Segment S) → List (Segment S)
joined k m t r a s [] = []
joined k m t r a s (g ∷ gs) =
    if matches k m t a s g
    then (if k.alike m r g.state
    then record { link = Joined; to = g.to; state = g.state } ∷ gs
    else record { link = Joined; to = g.to; state = r } ∷ reopen gs)
    else g ∷ joined k m t r g.to g.state gs

abbrev pub freed : {S : Type 0} → ℕ → List (Segment S) → List (Segment S)
freed n [] = []
freed n (g ∷ gs) = record { link = free_link n g.link; to = g.to; state = g.state } ∷ freed n gs

abbrev pub with_segs : {D S R : Type 0} → Book D S R → List (Segment S) → Book D S R
with_segs c segs =
    record { version = c.version; machine = c.machine; rows = c.rows; first = c.first; segs = segs; tickets = c.tickets; used = c.used }

abbrev pub with_used : {D S R : Type 0} → Book D S R → ℕ → Book D S R
with_used c n =
    record { version = c.version; machine = c.machine; rows = c.rows; first = c.first; segs = c.segs; tickets = c.tickets; used = n ∷ c.used }

abbrev pub result_of : {D S R O : Type 0} → Kit D S R O → DrawnTicket D S R → S
result_of k t = k.seg t.machine t.rows t.start

abbrev pub install_found : {D S R O : Type 0} → Kit D S R O → Book D S R → ℕ → Option (DrawnTicket D S R) → Book D S R
install_found k c n None = c
install_found k c n (Some t) =
    with_used (if is_current k c t then with_segs c (joined k c.machine t (result_of k t) 0 c.first c.segs) else c) n
