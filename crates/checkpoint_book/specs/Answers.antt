-- What an install answers.
use Rattle.std.specs.Prelude.{ℕ, List, [], ◌∷◌, Bool, true, false, ◌&&◌, if◌then◌else◌, eqb, Option, Some, None}
use Rattle.checkpoint_book.specs.declared.shown.Shown.{Shown}
use Rattle.checkpoint_book.specs.declared.shown.Shown.TheVariants.{Settled, Estimate}
use Rattle.machine.specs.Kit.{Kit}
use Rattle.book_history.specs.declared.segment.Segment.{Segment}
use Rattle.book_history.specs.Book.{Book, DrawnTicket, is_current}
use Rattle.checkpoint_book.specs.declared.installed.Installed.{Installed}
use Rattle.checkpoint_book.specs.declared.installed.Installed.TheVariants.{Joined, Stale}
use Rattle.checkpoint_book.specs.declared.why.Why.{Why}
use Rattle.checkpoint_book.specs.declared.why.Why.TheVariants.{Version, Link, Start}

abbrev pub is_joined_answer : Installed → Bool
is_joined_answer Joined = true
is_joined_answer (Stale t b why) = false

-- a link, of those after cycle `from`, goes from cycle a to cycle b
abbrev pub has_cycles : {S : Type 0} → ℕ → ℕ → ℕ → List (Segment S) → Bool
has_cycles a b from [] = false
has_cycles a b from (g ∷ gs) = if eqb from a && eqb g.to b then true else has_cycles a b g.to gs

abbrev pub link_or_start : Bool → Why
link_or_start true = Start
link_or_start false = Link

-- the first of version, link and start that differs
abbrev pub stale_why : {D S R : Type 0} → Book D S R → DrawnTicket D S R → Why
stale_why c t = if eqb t.version c.version then link_or_start (has_cycles t.a t.b 0 c.segs) else Version

abbrev pub install_answer : {D S R O : Type 0} → Kit D S R O → Book D S R → DrawnTicket D S R → Installed
install_answer k c t = if is_current k c t then Joined else Stale t.version c.version (stale_why c t)

abbrev pub shown_to : Shown → Option ℕ
shown_to Settled = None
shown_to (Estimate n) = Some n
