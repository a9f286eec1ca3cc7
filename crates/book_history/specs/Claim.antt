-- A claim: the first link that it takes, and its ticket.
use Rattle.std.specs.Prelude.{ℕ, ◌+◌, List, [], ◌∷◌, length, Bool, Option, Some, None, if◌then◌else◌}
use Rattle.machine.specs.Rows.{slice}
use Rattle.book_history.specs.declared.link.Link.{Link}
use Rattle.book_history.specs.declared.link.Link.TheVariants.{Out}
use Rattle.book_history.specs.declared.who.Who.{Who}
use Rattle.book_history.specs.declared.segment.Segment.{Segment}
use Rattle.book_history.specs.State.{Book}
use Rattle.book_history.specs.Links.{takes}

-- the first link that the test takes: its two cycles and the state at its beginning
abbrev pub first_link : {S : Type 0} → (Link → Bool) → ℕ → S → List (Segment S) → Option (ℕ × ℕ × S)
first_link p a s [] = None
first_link p a s (g ∷ gs) = if p g.link then Some (a, g.to, s) else first_link p g.to g.state gs

abbrev pub mark_out : {S : Type 0} → (Link → Bool) → ℕ → List (Segment S) → List (Segment S)
mark_out p n [] = []
mark_out p n (g ∷ gs) = if p g.link then record { link = Out n; to = g.to; state = g.state } ∷ gs else g ∷ mark_out p n gs

abbrev pub claim_found : {D S R : Type 0} → Book D S R → Who → Option (ℕ × ℕ × S) → Book D S R
claim_found c by None = c
claim_found c by (Some f) =
    record {
      version = c.version;
      machine = c.machine;
      rows = c.rows;
      first = c.first;
      segs = mark_out (takes by) (length c.tickets + 1) c.segs;
      tickets = record { by = by; version = c.version; machine = c.machine; a = f.0; b = f.1; rows = slice c.rows f.0 f.1; start = f.2 } ∷ c.tickets;
      used = c.used;
    }
