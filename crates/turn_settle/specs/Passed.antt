-- What a pass of the turn knows before and after a pass of a settle, and several.
use Rattle.std.specs.Prelude.{◌≡◌, ℕ, ◌+◌, ◌≤◌, List, [], ◌∷◌, Bool, true, false, None}
use Rattle.machine.specs.Kit.{Kit}
use Rattle.book_history.specs.declared.who.Who.TheVariants.{Session}
use Rattle.book_history.specs.Book.{Event, Claims, Installs}
use Rattle.book_history.specs.Law.{lead_in}
use Rattle.segment_verify.specs.Passes.{ArePasses, IsGivenUp}
use Rattle.book_turn.specs.Known.{Known}
use Rattle.book_turn.specs.Turns.{HasAdded}
use Rattle.checkpoint_book.specs.Views.{shown_in}
use Rattle.turn_settle.specs.Seen.{book_seen}

module _ {D S R O : Type 0} where
  -- the session added a claim and its install, after which one link more leads
  pub record HasRisenBeside (k : Kit D S R O) (v w : Known D R O) : Type 0 where
    pub ticket : ℕ
    pub a : ℕ
    pub b : ℕ
    pub joined : Bool
    pub added : HasAdded (Claims ticket a b Session ∷ Installs ticket joined Session ∷ []) v w
    pub leads : lead_in (book_seen k v) + 1 ≤ lead_in (book_seen k w)

  -- the session added nothing, since all links were joined when it looked
  pub record HasFoundNone (k : Kit D S R O) (v w : Known D R O) : Type 0 where
    pub added : HasAdded [] v w
    pub leads : lead_in (book_seen k v) ≤ lead_in (book_seen k w)
    pub settled : shown_in (book_seen k w) ≡ None

  -- by whether there was a link that isn't joined
  abbrev pub IsPassBeside : Kit D S R O → Known D R O → Known D R O → Bool → Type 0
  IsPassBeside k v w true = HasRisenBeside k v w
  IsPassBeside k v w false = HasFoundNone k v w

  -- so many passes were made since, and each made a link more lead
  pub record HasPassedBeside (k : Kit D S R O) (v w : Known D R O) (n : ℕ) : Type 0 where
    pub own : List (Event D R O)
    pub added : HasAdded own v w
    pub are : ArePasses n own
    pub leads : lead_in (book_seen k v) + n ≤ lead_in (book_seen k w)

-- a ticket was drawn and given up, or none was drawn
pub record HasGivenUpBeside {D R O : Type 0} (v w : Known D R O) : Type 0 where
  pub entries : List (Event D R O)
  pub added : HasAdded entries v w
  pub gave_up : IsGivenUp entries
