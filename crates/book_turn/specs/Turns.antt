-- What a pass knows after turns of its own.
use Rattle.std.specs.Prelude.{◌≡◌, List, ◌++◌, true}
use Rattle.book_history.specs.Event.{Event}
use Rattle.book_history.specs.Owned.{IsPrefix}
use Rattle.book_turn.specs.Known.{Known}

module _ {D R O : Type 0} where
  -- the pass has added these entries and may have seen more, and no pass was split from it or joined in; where it is alone, it has seen
  -- what it knew, these entries and nothing else
  pub record HasAdded (entries : List (Event D R O)) (v w : Known D R O) : Type 0 where
    pub own : w.own ≡ v.own ++ entries
    pub begins : IsPrefix v.seen w.seen
    pub settings : w.settings ≡ v.settings
    pub splits : w.splits ≡ v.splits
    pub crew : w.crew ≡ v.crew
    pub alone : w.alone ≡ v.alone
    pub whole : v.alone ≡ true → w.seen ≡ v.seen ++ entries

  -- it has added some
  pub record GoesOn (v w : Known D R O) : Type 0 where
    pub entries : List (Event D R O)
    pub added : HasAdded entries v w
