-- Whether a book is open, by what a pass of the session knows.
use Rattle.std.proofs.Common.{◌≡◌, true, false, List, refl, sym, ap, ◌∙◌}
use Rattle.book_history.specs.Event.{Event}
use Rattle.book_history.specs.Journal.{Journal}
use Rattle.book_history.specs.Owned.{owned}
use Rattle.book_history.specs.Rooms.{no_entry}
use Rattle.book_history.proofs.Outlines.{owned_counts}
use Rattle.book_turn.specs.Known.{Known, begun}
use Rattle.book_turn.specs.Rule.{Learned}
use Rattle.checkpoint_book.specs.Views.{counts_of}
use Rattle.segment_verify.specs.Workers.{is_closed}

module _ {D R O : Type 0} where
  -- the book is closed exactly where the session has closed it
  closed_by_own : (h : List (Event D R O)) → is_closed h ≡ is_closed (owned h)
  closed_by_own h = (owned_counts no_entry no_entry h refl refl).1

  pub open_now : (v : Known D R O) (i j : Journal D R O) → i ≡ j → Learned v j → v.session ≡ true → is_closed v.own ≡ false → (counts_of i).closed ≡ false
  open_now v i j same learned session open' =
      ap (λ (x : Journal D R O). (counts_of x).closed) same ∙ closed_by_own j.events ∙ ap (λ (h : List (Event D R O)). is_closed h) (learned.own session) ∙ open'

  -- the pass of a turn that was just made
  pub begun_open : (v : Known D R O) (j : Journal D R O) → v ≡ begun j → (counts_of j).closed ≡ false → is_closed v.own ≡ false
  begun_open v j is open' = ap (λ (y : Known D R O). is_closed y.own) is ∙ sym (closed_by_own j.events) ∙ open'
