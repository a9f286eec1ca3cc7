-- The entries that a holder, a worker or the session, adds to the history by turns with tickets.
use Rattle.std.specs.Prelude.{◌≡◌, ℕ, List, [], ◌∷◌, ◌++◌, Bool, Option, Some, None}
use Rattle.book_history.specs.declared.who.Who.{Who}
use Rattle.book_history.specs.Book.{DrawnTicket, Event, Claims, Installs, Releases}
use Rattle.book_turn.specs.Known.{Known}

-- ticket n, which is this asker's, comes back verified or is given up
pub data IsEnd {D R O : Type 0} (by : Who) (n : ℕ) : Event D R O → Type 0 where
  comes_back : {joined : Bool} → IsEnd by n (Installs n joined by)
  is_given_up : IsEnd by n (Releases n by)

-- for each ticket its claim, and right behind it its end; all are this asker's
pub data AreTurns {D R O : Type 0} (by : Who) : List (Event D R O) → Type 0 where
  no_turn : AreTurns by []
  one_more : (es : List (Event D R O)) (n a b : ℕ) (e : Event D R O) → AreTurns by es → IsEnd by n e → AreTurns by (es ++ Claims n a b by ∷ e ∷ [])

module _ {D R O : Type 0} where
  -- the holder has added the end of this ticket
  pub record HasHandedIn (by : Who) (n : ℕ) (v w : Known D R O) : Type 0 where
    pub entry : Event D R O
    pub is_end : IsEnd by n entry
    pub own : w.own ≡ v.own ++ entry ∷ []

  -- the holder has added such turns of this asker's, and nothing else
  pub record HasTurned (by : Who) (v w : Known D R O) : Type 0 where
    pub entries : List (Event D R O)
    pub turns : AreTurns by entries
    pub own : w.own ≡ v.own ++ entries

  -- the holder has added the claim of its ticket, if one was drawn, and nothing else
  abbrev pub HasAsked : {S : Type 0} → Who → Option (ℕ × DrawnTicket D S R) → Known D R O → Known D R O → Type 0
  HasAsked by None v w = w.own ≡ v.own
  HasAsked by (Some t) v w = w.own ≡ v.own ++ Claims t.0 t.1.a t.1.b by ∷ []
