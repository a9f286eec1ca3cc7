-- Which histories are legal.
use Rattle.std.specs.Prelude.{◌≡◌, ◌+◌, ◌-◌, ◌<◌, List, [], ◌∷◌, length, false, Option, Some, None}
use Rattle.machine.specs.Kit.{Kit}
use Rattle.book_history.specs.Rooms.{RoomsFrom, no_entry}
use Rattle.book_history.specs.Tickets.{is_among}
use Rattle.book_history.specs.Book.{DrawnTicket, Book, Settings, Event, Opens, Runs, Reloads, Claims, Installs, Releases, Shows, Closes, takes, first_link, drawn, is_current, shown, chosen, apply}

-- the entry's fields are the book's answers, and its conditions hold
abbrev pub MayFollow : {D S R O : Type 0} → Kit D S R O → (D → D → O → Type 0) → Settings → Book D S R → Event D R O → Type 0
MayFollow k valid st c (Opens v m) = ⊥
MayFollow k valid st c (Runs n rows) = (n ≡ length rows) × (0 < n)
MayFollow k valid st c (Reloads v m ops from) =
    (v ≡ c.version + 1) × valid c.machine m ops × (from ≡ chosen (length c.rows - st.lookback) 0 c.segs)
MayFollow {D} {S} k valid st c (Claims n a b by) =
    (n ≡ length c.tickets + 1) × ((s : S) × (first_link (takes by) 0 c.first c.segs ≡ Some (a, b, s)))
MayFollow {D} {S} {R} k valid st c (Installs n j by) =
    (t : DrawnTicket D S R) × (drawn n c.tickets ≡ Some t) × (t.by ≡ by) × (is_among n c.used ≡ false) × (j ≡ is_current k c t)
MayFollow {D} {S} {R} k valid st c (Releases n by) =
    (t : DrawnTicket D S R) × (drawn n c.tickets ≡ Some t) × (t.by ≡ by) × (is_among n c.used ≡ false)
MayFollow k valid st c (Shows s) = s ≡ shown c.segs
MayFollow k valid st c Closes = Unit {0}

-- before the first open, only a close
abbrev pub MayCome : {D S R O : Type 0} → Kit D S R O → (D → D → O → Type 0) → Settings → Option (Book D S R) → Event D R O → Type 0
MayCome k valid st None (Opens v m) = v ≡ 1
MayCome k valid st None (Runs x rows) = ⊥
MayCome k valid st None (Reloads v m ops from) = ⊥
MayCome k valid st None (Claims n a b by) = ⊥
MayCome k valid st None (Installs n j by) = ⊥
MayCome k valid st None (Releases n by) = ⊥
MayCome k valid st None (Shows s) = ⊥
MayCome k valid st None Closes = Unit {0}
MayCome k valid st (Some c) e = MayFollow k valid st c e

abbrev pub LegalFrom : {D S R O : Type 0} → Kit D S R O → (D → D → O → Type 0) → Settings → Option (Book D S R) → List (Event D R O) → Type 0
LegalFrom k valid st b [] = Unit {0}
LegalFrom k valid st b (e ∷ es) = MayCome k valid st b e × LegalFrom k valid st (apply k st b e) es

abbrev pub Follows : {D S R O : Type 0} → Kit D S R O → (D → D → O → Type 0) → Settings → List (Event D R O) → Type 0
Follows k valid st h = LegalFrom k valid st None h

-- each entry may come at its place, and the entries fit their rooms
pub record Legal {D S R O : Type 0} (k : Kit D S R O) (valid : D → D → O → Type 0) (st : Settings) (h : List (Event D R O)) : Type 0 where
  pub follows : Follows k valid st h
  pub in_rooms : RoomsFrom k st no_entry None h
