use Rattle.std.specs.Prelude.{◌≡◌, ℕ, ◌<◌, ◌≤◌, List, length, Bool, Some, slice_index_or, slice_set}
use Rattle.book_history.specs.declared.segment.Segment.{Segment}
use Rattle.book_history.specs.declared.link.Link.{Link}
use Rattle.book_history.specs.declared.link.Link.TheVariants.{Out}
use Rattle.machine.specs.Kit.{Kit}
use Rattle.book_history.specs.declared.who.Who.{Who}
use Rattle.book_history.specs.Book.{Book, DrawnTicket, first_link, mark_out, takes, with_segs, slice}

-- the link at i is the first that the test takes; it begins at cycle a with state s
pub record IsPlace {S : Type 0} (p : Link → Bool) (first : S) (segs : List (Segment S)) (i a : ℕ) (s : S) : Type 0 where
  pub within : i < length segs
  pub seg : Segment S
  pub is_at : seg ≡ slice_index_or segs i seg
  pub found : first_link p 0 first segs ≡ Some (a, seg.to, s)
  pub marks : (n : ℕ) → mark_out p n segs ≡ slice_set segs i (record { link = Out n; to = seg.to; state = seg.state })

-- a ticket may be drawn for this stretch
pub record IsDrawable {S : Type 0} (fits : S → Type 0) (rows : ℕ) (f : ℕ × ℕ × S) : Type 0 where
  pub rises : f.0 < f.1
  pub within : f.1 ≤ rows
  pub fit : fits f.2

-- from the book c, ticket t with this number was drawn, which left d
pub record IsDrawnAs {D S R O : Type 0} (k : Kit D S R O) (by : Who) (number : ℕ) (c d : Book D S R) (t : ℕ × DrawnTicket D S R) : Type 0 where
  pub place : ℕ × ℕ × S
  pub found : first_link (takes by) 0 c.first c.segs ≡ Some place
  pub book : d ≡ with_segs c (mark_out (takes by) number c.segs)
  pub number_is : t.0 ≡ number
  pub ticket : t.1 ≡ record { by = by; version = c.version; machine = c.machine; a = place.0; b = place.1; rows = slice c.rows place.0 place.1; start = place.2 }
