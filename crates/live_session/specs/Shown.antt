-- What a history says at the place of a command that has an entry of its own.
use Rattle.std.specs.Prelude.{ℕ, List, [], ◌++◌, Option, Some, None}
use Rattle.book_history.specs.Book.{Book, Event, Opens, Runs, Reloads, Claims, Installs, Releases, Shows, Closes, last_state}
use Rattle.reg_transform.specs.States.{state_values}
use Rattle.wave_report.specs.Replies.{estimate_text, settled_text, show_text, unsettled_text}
use Rattle.live_session.specs.Logs.{State}
use Rattle.live_session.specs.Spelled.{Spelled}
use Rattle.live_session.specs.Tables.{table_lines, true_registers}
use Rattle.live_session.specs.Worlds.{World, cycle}

module _ {D R O : Type 0} where
  -- what the entry of a show says: None where it is settled, else the cycle up to which it is
  abbrev pub answer_of : Event D R O → Option ℕ
  answer_of (Opens version machine) = None
  answer_of (Runs n rows) = None
  answer_of (Reloads version machine ops from) = None
  answer_of (Claims ticket a b by) = None
  answer_of (Installs ticket joined by) = None
  answer_of (Releases ticket by) = None
  answer_of (Shows answer) = answer
  answer_of Closes = None

module _ {D R : Type 0} where
  -- the values of the registers at the last mark
  abbrev pub last_values : Option (Book D State R) → List ℕ
  last_values None = []
  last_values (Some book) = state_values (last_state book.first book.segs)

-- where it is settled these are the registers of a run from reset on the record, else those of the last mark
abbrev pub shown_registers : World → Spelled → Option ℕ → (last : List ℕ) → List ℕ
shown_registers w design None last = true_registers design w.record_ (cycle w)
shown_registers w design (Some settled_to) last = last

abbrev pub show_line : World → Option ℕ → List ℕ
show_line w None = show_text (cycle w) w.version
show_line w (Some settled_to) = estimate_text (cycle w) w.version settled_to

-- a display
abbrev pub display_lines : World → (prefix : List ℕ) → Spelled → Option ℕ → (last : List ℕ) → List ℕ
display_lines w prefix design answer last =
    show_line w answer ++ table_lines design prefix design.flat.registers (shown_registers w design answer last)

abbrev pub display_text : World → (prefix : List ℕ) → Option Spelled → Option ℕ → (last : List ℕ) → List ℕ
display_text w prefix None answer last = []
display_text w prefix (Some design) answer last = display_lines w prefix design answer last

-- the answer to a settle
abbrev pub settle_text : World → Option ℕ → List ℕ
settle_text w None = settled_text (cycle w) w.version
settle_text w (Some settled_to) = unsettled_text settled_to
