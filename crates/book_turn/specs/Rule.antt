-- The rule over the queue and all passes that are not spent.
use Rattle.std.specs.Prelude.{◌≡◌, ◌≢◌, ℕ, List, [], ◌∷◌, Bool, true, false, Option, Some}
use mathlib.Core.Option.{some}
use lib.ListN.{get_elem?}
use Rattle.book_history.specs.Event.{Settings, Event}
use Rattle.book_history.specs.Journal.{Journal}
use Rattle.book_history.specs.Owned.{owned, AllOwned, IsPrefix, added}
use Rattle.book_history.specs.Tickets.{is_among, AreOut, MayAddAll}
use Rattle.book_turn.specs.Known.{Known}

-- where the book is: it is out, or the queue holds it
abbrev pub IsAt : {T D R O : Type 0} → (T → Journal D R O) → Bool → Option Settings → List (Event D R O) → List T → Type 0
IsAt journal out st h [] = out ≡ true
IsAt journal out st h (b ∷ []) = (out ≡ false) × (st ≡ Some (journal b).settings) × ((journal b).events ≡ h)
IsAt journal out st h (b ∷ c ∷ rest) = ⊥

-- no ticket stands twice in the list
abbrev pub AreOnce : List ℕ → Type 0
AreOnce [] = Unit {0}
AreOnce (n ∷ ns) = (is_among n ns ≡ false) × AreOnce ns

-- the list begins with each of these
abbrev pub EachBegins : {E : Type 0} → List (List E) → List E → Type 0
EachBegins [] ys = Unit {0}
EachBegins (xs ∷ xss) ys = IsPrefix xs ys × EachBegins xss ys

module _ {D R O : Type 0} where
  -- what a pass knows fits the history and the place of the book
  pub record Fits (out : Bool) (holder session : ℕ) (st : Option Settings) (h : List (Event D R O)) (port : ℕ) (u : Known D R O) : Type 0 where
    pub begins : IsPrefix u.seen h
    pub carries : u.settings ≡ st
    pub holding : u.holds ≡ true → (out ≡ true) × (port ≡ holder) × (u.seen ≡ h)
    pub hears : EachBegins u.heard u.seen
    pub own : u.session ≡ true → (port ≡ session) × (u.own ≡ owned h)
    pub whole : u.alone ≡ true → u.seen ≡ h
    pub are_out : AreOut u.tickets h
    pub once : AreOnce u.tickets

  -- of two passes: the one is not alone, and no ticket is of both
  pub record Apart (u v : Known D R O) : Type 0 where
    pub lone : u.alone ≢ true
    pub tickets : (n : ℕ) → is_among n u.tickets ≡ true → is_among n v.tickets ≢ true

  abbrev pub EachFits : Bool → ℕ → ℕ → Option Settings → List (Event D R O) → List (Known D R O) → Type 0
  EachFits out holder session st h views = (port : ℕ) (u : Known D R O) → get_elem? views port ≡ some u → u.live ≡ true → Fits out holder session st h port u

  abbrev pub EachApart : List (Known D R O) → Type 0
  EachApart views = (i j : ℕ) (u v : Known D R O) → i ≢ j → get_elem? views i ≡ some u → get_elem? views j ≡ some v → u.live ≡ true → v.live ≡ true → Apart u v

  -- the holder has the book
  abbrev pub HasBook : ℕ → List (Known D R O) → Type 0
  HasBook holder views = (v : Known D R O) × (get_elem? views holder ≡ some v) × (v.live ≡ true) × (v.holds ≡ true)

  -- the session has a pass that isn't spent
  abbrev pub HasSession : ℕ → List (Known D R O) → Type 0
  HasSession session views = (v : Known D R O) × (get_elem? views session ≡ some v) × (v.live ≡ true) × (v.session ≡ true)

  -- what the holder may have added to the history when it puts the book back
  pub record MayLeave (v : Known D R O) (j : Journal D R O) : Type 0 where
    pub holds : v.holds ≡ true
    pub carries : v.settings ≡ Some j.settings
    pub extends : IsPrefix v.seen j.events
    pub own : AllOwned v.session (added v.seen j.events)
    pub tickets : MayAddAll v.seen v.tickets (added v.seen j.events)

  -- what a pass learns of the book that it is given
  pub record Learned (v : Known D R O) (j : Journal D R O) : Type 0 where
    pub carries : v.settings ≡ Some j.settings
    pub begins : IsPrefix v.seen j.events
    pub own : v.session ≡ true → owned j.events ≡ v.own
    pub whole : v.alone ≡ true → j.events ≡ v.seen
    pub are_out : AreOut v.tickets j.events

pub record Ruled {T D R O : Type 0} (journal : T → Journal D R O) (items : List T) (views : List (Known D R O)) : Type 0 where
  pub out : Bool
  pub holder : ℕ
  pub session : ℕ
  pub settings : Option Settings
  pub history : List (Event D R O)
  pub place : IsAt journal out settings history items
  pub each : EachFits out holder session settings history views
  pub apart : EachApart views
  pub held : out ≡ true → HasBook holder views
  pub served : HasSession session views
