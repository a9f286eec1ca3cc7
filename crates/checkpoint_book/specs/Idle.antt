-- What links are left to be verified, and whether a claim finds one.
use Rattle.std.specs.Prelude.{List, [], ◌∷◌, Bool, true, false, ◌||◌, if◌then◌else◌}
use Rattle.book_history.specs.declared.segment.Segment.{Segment}
use Rattle.book_history.specs.declared.who.Who.{Who}
use Rattle.book_history.specs.declared.who.Who.TheVariants.{Session, Worker}
use Rattle.book_history.specs.Book.{is_open, all_joined}
use Rattle.checkpoint_book.specs.declared.left.Left.{Left}
use Rattle.checkpoint_book.specs.declared.left.Left.TheVariants.{SomeOpen, SomeOut, AllJoined}

abbrev pub any_open : {S : Type 0} → List (Segment S) → Bool
any_open [] = false
any_open (g ∷ gs) = is_open g.link || any_open gs

abbrev pub left_of : {S : Type 0} → List (Segment S) → Left
left_of segs = if any_open segs then SomeOpen else if all_joined segs then AllJoined else SomeOut

-- what is left of the links of two lists
abbrev pub left_of_both : Left → Left → Left
left_of_both SomeOpen b = SomeOpen
left_of_both SomeOut SomeOpen = SomeOpen
left_of_both SomeOut SomeOut = SomeOut
left_of_both SomeOut AllJoined = SomeOut
left_of_both AllJoined b = b

-- the asker's claims take none of what is left
abbrev pub takes_none : Who → Left → Bool
takes_none Session SomeOpen = false
takes_none Session SomeOut = false
takes_none Session AllJoined = true
takes_none (Worker w) SomeOpen = false
takes_none (Worker w) SomeOut = true
takes_none (Worker w) AllJoined = true
