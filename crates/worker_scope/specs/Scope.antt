-- What the session's pass knows before, while and after workers run beside it.
use Rattle.std.specs.Prelude.{◌≡◌, ◌+◌, ℕ, List, [], ◌∷◌, ◌++◌, length, Option, Some, None}
use Rattle.book_history.specs.declared.who.Who.TheVariants.{Worker}
use Rattle.book_history.specs.Book.{Event, Closes}
use Rattle.book_history.specs.Owned.{IsPrefix}
use Rattle.book_turn.specs.Known.{Known, joined, apart_from_splits}
use Rattle.book_turn.specs.Turns.{HasAdded, GoesOn}
use Rattle.segment_verify.specs.Entries.{AreTurns}
use Rattle.worker_scope.specs.declared.start_refusal.StartRefusal.{StartRefusal}
use Rattle.worker_scope.specs.declared.start_refusal.StartRefusal.TheVariants.{NoMemory, NoThread}

-- the numbers of these are n, n + 1 and so on
abbrev pub AreNumbered : {A : Type 0} → (A → ℕ) → ℕ → List A → Type 0
AreNumbered number n [] = Unit {0}
AreNumbered number n (x ∷ xs) = (number x ≡ n) × AreNumbered number (n + 1) xs

-- how many passes are lost with a refused thread, which had its worker's pass
abbrev pub lost_by : StartRefusal → ℕ
lost_by NoMemory = 0
lost_by NoThread = 1

abbrev pub lost_in : Option StartRefusal → ℕ
lost_in None = 0
lost_in (Some refusal) = lost_by refusal

module _ {D R O : Type 0} where
  -- so many workers' passes were split from the pass, which keeps all else that it knew, but that it may be no longer alone
  pub record HasSplit (count : ℕ) (v w : Known D R O) : Type 0 where
    pub splits : w.splits ≡ v.splits + count
    pub else_same : apart_from_splits w ≡ apart_from_splits v

  -- lists of what worker n, worker n + 1 and so on added: turns of each one's own
  abbrev pub AreOfWorkers : ℕ → List (List (Event D R O)) → Type 0
  AreOfWorkers n [] = Unit {0}
  AreOfWorkers n (es ∷ ess) = AreTurns (Worker n) es × AreOfWorkers (n + 1) ess

  -- the pass of worker n, which added turns of its own alone, was joined in
  pub record HasJoinedOne (n : ℕ) (v w : Known D R O) : Type 0 where
    pub worker : Known D R O
    pub turns : AreTurns (Worker n) worker.own
    pub is : w ≡ joined v worker
    pub begins : IsPrefix v.seen w.seen

  -- the passes of workers 0, 1 and so on, so many of them, were joined in: their own lists are in the crew's, and more may be seen
  pub record HasJoined (count : ℕ) (v w : Known D R O) : Type 0 where
    pub lists : List (List (Event D R O))
    pub crew : w.crew ≡ v.crew ++ lists
    pub all : length lists ≡ count
    pub turns : AreOfWorkers 0 lists
    pub own : w.own ≡ v.own
    pub splits : w.splits ≡ v.splits
    pub settings : w.settings ≡ v.settings
    pub alone : w.alone ≡ v.alone
    pub begins : IsPrefix v.seen w.seen

  -- the session did its work, and then closed the book
  pub record HasWorkedAlone {A : Type 0} (does : Known D R O → Known D R O → A → Type 0) (v w : Known D R O) (a : A) : Type 0 where
    pub after : Known D R O
    pub did : does v after a
    pub goes : GoesOn v after
    pub closed : HasAdded (Closes ∷ []) after w

  -- so many workers were started, and a pass was split from the session's for each of them, beside those that were lost; then the session
  -- did its work and closed the book, with no pass split, and the passes of so many workers were joined in. So a pass that was split is
  -- one of those that were joined in, or was lost
  pub record HasWorked {A : Type 0} (does : Known D R O → Known D R O → A → Type 0) (count lost : ℕ) (v w : Known D R O) (a : A) : Type 0 where
    pub before : Known D R O
    pub started : HasSplit (count + lost) v before
    pub behind : Known D R O
    pub worked : HasWorkedAlone does before behind a
    pub all_joined : HasJoined count behind w
