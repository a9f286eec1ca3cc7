-- The rooms of a history.
use Rattle.std.specs.Prelude.{◌≡◌, ℕ, ◌+◌, ◌≤◌, List, [], ◌∷◌, length, Bool, true, false, ◌&&◌, not, Option, Some, None}
use Rattle.machine.specs.Kit.{Kit}
use Rattle.book_history.specs.declared.who.Who.{Who}
use Rattle.book_history.specs.declared.who.Who.TheVariants.{Session, Worker}
pub use Rattle.book_history.specs.Tickets.{is_among}
use Rattle.book_history.specs.Book.{DrawnTicket, Book, Settings, Event, apply}
use Rattle.book_history.specs.Kind.{Kind, SessionsOwn, DrawsTicket, UsesTicket, EndsClaims, kind_of}

abbrev pub is_worker : Who → Bool
is_worker Session = false
is_worker (Worker w) = true

abbrev pub one_if : Bool → ℕ
one_if true = 1
one_if false = 0

-- workers' tickets that are drawn and not used up
abbrev pub out_of : {D S R : Type 0} → List (DrawnTicket D S R) → List ℕ → ℕ
out_of [] used = 0
out_of (t ∷ ts) used = one_if (is_worker t.by && not (is_among (length ts + 1) used)) + out_of ts used

abbrev pub out_in : {D S R : Type 0} → Option (Book D S R) → ℕ
out_in None = 0
out_in (Some c) = out_of c.tickets c.used

-- how many entries are the session's and the workers', and whether a Close came
pub record Counts : Type 0 where
  pub session : ℕ
  pub workers : ℕ
  pub closed : Bool

abbrev pub counted : Counts → Who → Counts
counted n Session = record { session = n.session + 1; workers = n.workers; closed = n.closed }
counted n (Worker w) = record { session = n.session; workers = n.workers + 1; closed = n.closed }

abbrev pub count_kind : Counts → Kind → Counts
count_kind n SessionsOwn = counted n Session
count_kind n (DrawsTicket i by) = counted n by
count_kind n (UsesTicket i by) = counted n by
count_kind n EndsClaims = record { session = n.session; workers = n.workers; closed = true }

abbrev pub count : {D R O : Type 0} → Counts → Event D R O → Counts
count n e = count_kind n (kind_of e)

-- the holder has room for one entry more, beside the `out` tickets of workers that are out
abbrev pub HasRoom : Settings → Counts → ℕ → Who → Type 0
HasRoom st n out Session = n.session + 1 ≤ st.rooms.session
HasRoom st n out (Worker w) = n.workers + out + 2 ≤ st.rooms.workers

-- a worker's ticket has the place of its end kept from its claim on
abbrev pub KindFits : Settings → Counts → ℕ → Kind → Type 0
KindFits st n out SessionsOwn = HasRoom st n out Session
KindFits st n out (DrawsTicket i by) = HasRoom st n out by × (n.closed ≡ false)
KindFits st n out (UsesTicket i Session) = HasRoom st n out Session
KindFits st n out (UsesTicket i (Worker w)) = Unit {0}
KindFits st n out EndsClaims = n.closed ≡ false

abbrev pub FitsRooms : {D R O : Type 0} → Settings → Counts → ℕ → Event D R O → Type 0
FitsRooms st n out e = KindFits st n out (kind_of e)

abbrev pub RoomsFrom : {D S R O : Type 0} → Kit D S R O → Settings → Counts → Option (Book D S R) → List (Event D R O) → Type 0
RoomsFrom k st n b [] = Unit {0}
RoomsFrom k st n b (e ∷ es) = FitsRooms st n (out_in b) e × RoomsFrom k st (count n e) (apply k st b e) es

abbrev pub no_entry : Counts
no_entry = record { session = 0; workers = 0; closed = false }

abbrev pub count_all : {D R O : Type 0} → Counts → List (Event D R O) → Counts
count_all n [] = n
count_all n (e ∷ es) = count_all (count n e) es

-- the entries of each kind stay in their room, with a place kept for each ticket that is out
pub record AreInRooms {D S R : Type 0} (st : Settings) (n : Counts) (b : Option (Book D S R)) : Type 0 where
  pub session : n.session ≤ st.rooms.session
  pub workers : n.workers + out_in b ≤ st.rooms.workers
