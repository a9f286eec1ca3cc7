use Rattle.std.specs.Prelude.{ℕ, zero, suc, List, [], ◌∷◌, if◌then◌else◌}
use Rattle.machine.specs.Kit.{Kit}
use Rattle.book_history.specs.declared.segment.Segment.{Segment}
use Rattle.book_history.specs.Book.{reopen}
use Rattle.book_history.specs.declared.link.Link.TheVariants.{Joined}

-- the link at i is joined, with the result r
abbrev pub joined_at : {D S R O : Type 0} → Kit D S R O → D → S → ℕ → List (Segment S) → List (Segment S)
joined_at k m r i [] = []
joined_at k m r zero (g ∷ gs) =
    if k.alike m r g.state
    then record { link = Joined; to = g.to; state = g.state } ∷ gs
    else record { link = Joined; to = g.to; state = r } ∷ reopen gs
joined_at k m r (suc i) (g ∷ gs) = g ∷ joined_at k m r i gs
