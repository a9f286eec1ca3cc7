-- The history of a session's book, and the book that it leads to.
use Rattle.std.specs.Prelude.{ℕ, List, Option, None}
use Rattle.machine.specs.Kit.{Kit}
use Rattle.book_history.specs.Book.{Book, Event, replay}
use Rattle.book_history.specs.Journal.{Journal}
use Rattle.book_history.specs.Legal.{Legal}
use Rattle.book_history.specs.Moments.{Moment, moments_from}
use Rattle.book_history.specs.Outline.{Outline, outline_in}
use Rattle.cycle_eval.specs.Designs.{design_flat}
use Rattle.cycle_eval.specs.Kits.{IsValid, carried_of, reset_of, run_of}
use Rattle.stimulus.specs.Rows.{are_same as are_alike}
use Rattle.cycle_eval.specs.declared.design.Design.{Design}
use Rattle.reg_ops.specs.declared.reg_op.RegOp.{RegOp}

-- a state has a width and a value for each register; a row has the values of the names that are set
abbrev pub State : Type 0
State = List (ℕ × ℕ)

abbrev pub InputRow : Type 0
InputRow = List (ℕ × ℕ)

-- what an edit does to registers
abbrev pub Ops : Type 0
Ops = List RegOp

abbrev pub Log : Type 0
Log = Journal Design InputRow Ops

abbrev pub LogEvent : Type 0
LogEvent = Event Design InputRow Ops

-- a command's own entry with the book before it
abbrev pub LogMoment : Type 0
LogMoment = Moment Design State InputRow Ops

-- a design as the machine of a book
abbrev pub kit : Kit Design State InputRow Ops
kit = record {
  start = λ m. reset_of (design_flat m);
  seg = λ m rows s. run_of (design_flat m) rows s;
  carried = λ old m ops s. carried_of ops (design_flat old) (design_flat m) s;
  alike = λ m x y. are_alike x y;
}

-- no operation breaks a condition
abbrev pub valid : Design → Design → Ops → Type 0
valid old m ops = IsValid ops (design_flat old) (design_flat m)

-- a legal history of designs
abbrev pub IsLegal : Log → Type 0
IsLegal j = Legal kit valid j.settings j.events

abbrev pub book_in : Log → Option (Book Design State InputRow)
book_in j = replay kit j.settings j.events

abbrev pub outline_of : Log → Outline Design InputRow
outline_of j = outline_in (book_in j)

-- the cycles of the marks behind the one at cycle 0
abbrev pub marks_of : Log → List ℕ
marks_of j = (outline_of j).marks

-- the commands' own entries among these, which follow a history
abbrev pub moments_after : Log → List LogEvent → List LogMoment
moments_after j es = moments_from kit j.settings (book_in j) es

-- those of a whole history
abbrev pub moments_of : Log → List LogMoment
moments_of j = moments_from kit j.settings None j.events
