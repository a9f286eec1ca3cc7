-- What is true of a book, and which tickets are current in it.
use Rattle.std.specs.Prelude.{true, ◌≡◌, ℕ, List, [], ◌∷◌, length, take, ◌⊎◌, ◌<◌, Option, Some, None}
use Rattle.machine.specs.Kit.{Kit}
use Rattle.book_history.specs.declared.link.Link.{Link}
use Rattle.book_history.specs.declared.link.Link.TheVariants.{Open, Out, Joined}
use Rattle.book_history.specs.Book.{Segment, DrawnTicket, Book, slice, drawn, all_joined, is_joined, last_cycle, last_state}

-- F holds of each state from the mark at a with state s on, the cycles rise, and J holds of each link between its two marks
abbrev pub Chain : {S : Type 0} → (S → Type 0) → (Link → ℕ → S → ℕ → S → Type 0) → ℕ → S → List (Segment S) → Type 0
Chain F J a s [] = F s
Chain F J a s (g ∷ gs) = F s × (a < g.to) × J g.link a s g.to g.state × Chain F J g.to g.state gs

-- a joined link's two marks are a run of the machine apart
abbrev pub LinkIsTrue : {D S R O : Type 0} → Kit D S R O → D → List R → Link → ℕ → S → ℕ → S → Type 0
LinkIsTrue k m rows Open a s b e = Unit {0}
LinkIsTrue k m rows (Out n) a s b e = Unit {0}
LinkIsTrue k m rows Joined a s b e = k.seg m (slice rows a b) s ≡ e

pub record IsTrueBook {D S R O : Type 0} (k : Kit D S R O) (fits : D → S → Type 0) (c : Book D S R) : Type 0 where
  pub first_is : c.first ≡ k.start c.machine
  pub links : Chain (fits c.machine) (LinkIsTrue k c.machine c.rows) 0 c.first c.segs

abbrev pub True : {D S R O : Type 0} → Kit D S R O → (D → S → Type 0) → Option (Book D S R) → Type 0
True k fits None = Unit {0}
True k fits (Some c) = IsTrueBook k fits c

-- the book has a link with the ticket's two cycles, and at the first of them a mark equal to its start
abbrev pub HasLink : {D S R : Type 0} → DrawnTicket D S R → ℕ → S → List (Segment S) → Type 0
HasLink t a s [] = ⊥
HasLink t a s (g ∷ gs) = ((a ≡ t.a) × (g.to ≡ t.b) × (s ≡ t.start)) ⊎ HasLink t g.to g.state gs

abbrev pub Current : {D S R : Type 0} → Book D S R → DrawnTicket D S R → Type 0
Current c t = (t.version ≡ c.version) × HasLink t 0 c.first c.segs

-- the ticket of each link that is out was drawn and is current
abbrev pub OutIsCurrent : {D S R : Type 0} → Book D S R → List (Segment S) → Type 0
OutIsCurrent c [] = Unit {0}
OutIsCurrent {D} {S} {R} c (g ∷ gs) = ((n : ℕ) → g.link ≡ Out n → (t : DrawnTicket D S R) × (drawn n c.tickets ≡ Some t) × Current c t) × OutIsCurrent c gs

abbrev pub OutsAreCurrent : {D S R : Type 0} → Option (Book D S R) → Type 0
OutsAreCurrent None = Unit {0}
OutsAreCurrent (Some c) = OutIsCurrent c c.segs

-- a settled book's last mark is the run of its machine over its record
abbrev pub SettledIsTruth : {D S R O : Type 0} → Kit D S R O → Option (Book D S R) → Type 0
SettledIsTruth k None = Unit {0}
SettledIsTruth k (Some c) = all_joined c.segs ≡ true → last_state c.first c.segs ≡ k.seg c.machine c.rows (k.start c.machine)

-- the run of so many cycles of the record from reset
abbrev pub truth_at : {D S R O : Type 0} → Kit D S R O → Book D S R → ℕ → S
truth_at k c n = k.seg c.machine (take n c.rows) (k.start c.machine)

-- each mark up to the end of the leading joined links is the truth at its cycle
abbrev pub LeadingAreTrue : {D S R O : Type 0} → Kit D S R O → Book D S R → List (Segment S) → Type 0
LeadingAreTrue k c [] = Unit {0}
LeadingAreTrue k c (g ∷ gs) = is_joined g.link ≡ true → (g.state ≡ truth_at k c g.to) × LeadingAreTrue k c gs

abbrev pub LeadsInTruth : {D S R O : Type 0} → Kit D S R O → Option (Book D S R) → Type 0
LeadsInTruth k None = Unit {0}
LeadsInTruth k (Some c) = LeadingAreTrue k c c.segs

-- the last mark stands at the current cycle
abbrev pub EndsAtCycle : {D S R : Type 0} → Option (Book D S R) → Type 0
EndsAtCycle None = Unit {0}
EndsAtCycle (Some c) = last_cycle 0 c.segs ≡ length c.rows
