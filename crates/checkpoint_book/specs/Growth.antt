-- What a run makes of a book's links and marks.
use Rattle.std.specs.Prelude.{◌+◌, ◌≤◌, List, ◌++◌, length, vec_capacity, Bool, true, false}
use Rattle.std.specs.Global.{Vec}
use Rattle.book_history.specs.declared.segment.Segment.{Segment}
use Rattle.checkpoint_book.specs.declared.growth.Growth.{Growth}
use Rattle.checkpoint_book.specs.declared.growth.Growth.TheVariants.{More, All}

abbrev pub grown_to : {S : Type 0} → Growth S → List (Segment S) → List (Segment S)
grown_to (More v) old = old ++ v.items
grown_to (All v) old = v.items

-- it has all links and marks anew, and not those of the run alone
abbrev pub is_all : {S : Type 0} → Growth S → Bool
is_all (More v) = false
is_all (All v) = true

-- there are places for the marks that come behind those that are there
abbrev pub HasPlaces : {S : Type 0} → Growth S → Vec (Segment S) → Type 0
HasPlaces (More v) segs = length segs.items + length v.items ≤ vec_capacity segs
HasPlaces (All v) segs = Unit {0}
