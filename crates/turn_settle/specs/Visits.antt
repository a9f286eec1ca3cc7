-- One turn of the session, by the entries that it adds there.
use Rattle.std.specs.Prelude.{◌≡◌, ℕ, List, [], ◌∷◌, ◌++◌, Bool, Option, Some, None, Result, Ok, Err}
use Rattle.machine.specs.Kit.{Kit}
use Rattle.book_history.specs.declared.who.Who.TheVariants.{Session}
use Rattle.book_history.specs.Book.{DrawnTicket, Event, Claims, Installs}
use Rattle.book_history.specs.Owned.{owned}
use Rattle.book_turn.specs.Known.{Known}
use Rattle.book_turn.specs.Turns.{HasAdded}
use Rattle.turn_settle.specs.Seen.{IsLegalUnder}

module _ {D S R O : Type 0} where
  -- Others may have added entries since the pass last had the book, and then the session added these. Its own list is all of
  -- the session's entries that it has seen, which are a legal history
  pub record IsVisit (k : Kit D S R O) (valid : D → D → O → Type 0) (mine : List (Event D R O)) (v w : Known D R O) : Type 0 where
    pub others : List (Event D R O)
    pub not_mine : owned others ≡ []
    pub seen : w.seen ≡ (v.seen ++ others) ++ mine
    pub added : HasAdded mine v w
    pub own : owned w.seen ≡ w.own
    pub legal : IsLegalUnder k valid w.settings w.seen

  -- the session has installed this ticket of its own
  pub record HasInstalled (k : Kit D S R O) (valid : D → D → O → Type 0) (n : ℕ) (v w : Known D R O) : Type 0 where
    pub joined : Bool
    pub visit : IsVisit k valid (Installs n joined Session ∷ []) v w

module _ {D S R : Type 0} where
  -- the ticket of the session's claim, which draws none where memory runs out
  abbrev pub drawn_first : {E : Type 0} → Result (Option (ℕ × DrawnTicket D S R)) E → Option (ℕ × DrawnTicket D S R)
  drawn_first (Ok t) = t
  drawn_first (Err e) = None

  -- the claim of the ticket, if one was drawn
  abbrev pub claim_of : {O : Type 0} → Option (ℕ × DrawnTicket D S R) → List (Event D R O)
  claim_of None = []
  claim_of (Some t) = Claims t.0 t.1.a t.1.b Session ∷ []
