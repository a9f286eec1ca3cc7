-- What the calls of a book say of it, read from its history.
use Rattle.std.specs.Prelude.{◌≡◌, ℕ, suc, ◌+◌, ◌-◌, ◌≤◌, length, Bool, true, false, Option, Some, None, leb}
use Rattle.machine.specs.Kit.{Kit}
use Rattle.book_history.specs.declared.who.Who.{Who}
use Rattle.book_history.specs.declared.who.Who.TheVariants.{Session, Worker}
use Rattle.book_history.specs.Book.{Book, DrawnTicket, Settings, replay, last_state, chosen, shown, first_link, takes}
use Rattle.book_history.specs.Journal.{Journal}
pub use Rattle.book_history.specs.Readers.{IsOpened, version_in, cycle_in, links_in, marks_in}
use Rattle.book_history.specs.Rooms.{Counts, count_all, no_entry, out_in}
use Rattle.checkpoint_book.specs.declared.installed.Installed.{Installed}
use Rattle.checkpoint_book.specs.declared.installed.Installed.TheVariants.{Joined}
use Rattle.checkpoint_book.specs.Answers.{install_answer}

abbrev pub is_none : {A : Type 0} → Option A → Bool
is_none None = true
is_none (Some x) = false

module _ {D S R O : Type 0} where
  -- the replayed book
  abbrev pub book_of : Kit D S R O → Journal D R O → Option (Book D S R)
  book_of k j = replay k j.settings j.events

abbrev pub counts_of : {D R O : Type 0} → Journal D R O → Counts
counts_of j = count_all no_entry j.events

module _ {D S R : Type 0} where
  -- the steps of one cycle of the current machine
  abbrev pub work_in : (D → ℕ) → Option (Book D S R) → ℕ
  work_in work None = 0
  work_in work (Some c) = work c.machine

  -- it is the state of the last mark
  abbrev pub IsLast : Option (Book D S R) → S → Type 0
  IsLast None s = ⊥
  IsLast (Some c) s = s ≡ last_state c.first c.segs

  -- it is one of the current machine's own
  abbrev pub FitsMachine : (D → S → Type 0) → Option (Book D S R) → S → Type 0
  FitsMachine fits None s = ⊥
  FitsMachine fits (Some c) s = fits c.machine s

  -- the operations lead from the current machine to this one
  abbrev pub LeadTo : {O : Type 0} → (D → D → O → Type 0) → Option (Book D S R) → D → O → Type 0
  LeadTo valid None m ops = ⊥
  LeadTo valid (Some c) m ops = valid c.machine m ops

  -- the cycle that a reload chooses
  abbrev pub chosen_in : Settings → Option (Book D S R) → ℕ
  chosen_in st None = 0
  chosen_in st (Some c) = chosen (length c.rows - st.lookback) 0 c.segs

  abbrev pub shown_in : Option (Book D S R) → Option ℕ
  shown_in None = None
  shown_in (Some c) = shown c.segs

  abbrev pub answer_in : {O : Type 0} → Kit D S R O → Option (Book D S R) → DrawnTicket D S R → Installed
  answer_in k None t = Joined
  answer_in k (Some c) t = install_answer k c t

  -- there is no link that a claim takes
  abbrev pub none_free : Who → Option (Book D S R) → Bool
  none_free by None = true
  none_free by (Some c) = is_none (first_link (takes by) 0 c.first c.segs)

-- the workers' room is full
abbrev pub is_full : {D S R : Type 0} → Settings → Counts → Option (Book D S R) → Bool
is_full st n b = leb (suc st.rooms.workers) (n.workers + out_in b + 2)

-- a full room keeps this asker from claiming: the session's claim asks for its room
abbrev pub is_full_for : {D S R : Type 0} → Who → Settings → Counts → Option (Book D S R) → Bool
is_full_for Session st n b = false
is_full_for (Worker w) st n b = is_full st n b

-- the session has room for so many entries
abbrev pub HasSessionRoom : {D R O : Type 0} → Journal D R O → ℕ → Type 0
HasSessionRoom j n = (counts_of j).session + n ≤ j.settings.rooms.session

-- a worker's install or release has its room from the claim on
abbrev pub HasRoomFor : {D R O : Type 0} → Journal D R O → Who → Type 0
HasRoomFor j Session = HasSessionRoom j 1
HasRoomFor j (Worker w) = Unit {0}
