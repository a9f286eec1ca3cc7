-- A turn that is made for one settle, and the book behind it.
use Rattle.std.proofs.Common.{◌≡◌, ℕ, ◌+◌, ◌≤◌, List, Option, false, true, refl, sym, ap, ◌∙◌, subst, arith}
use Rattle.machine.specs.Kit.{Kit}
use Rattle.book_history.specs.Book.{Event}
use Rattle.book_history.specs.Journal.{Journal}
use Rattle.book_history.specs.Owned.{owned}
use Rattle.book_history.specs.Readers.{IsOpened, links_in}
use Rattle.book_history.specs.Rooms.{Counts, count_all, no_entry}
use Rattle.book_history.proofs.Outlines.{owned_counts}
use Rattle.book_history.proofs.Prefixes.{count-append}
use Rattle.segment_verify.proofs.Counting.{settle_counts}
use Rattle.book_turn.specs.Known.{Known, begun}
use Rattle.book_turn.specs.Rule.{Learned}
use Rattle.checkpoint_book.specs.Views.{book_of, counts_of, HasSessionRoom}
use Rattle.segment_verify.specs.Workers.{is_closed}
use Rattle.turn_settle.specs.Seen.{book_seen, HasOwnRoom}
use Rattle.turn_settle.specs.Settled.{HasSettledBeside}
use Rattle.segment_verify.proofs.Openness.{open_now}

module _ {D R O : Type 0} where
  pub begun_own : (v : Known D R O) (j : Journal D R O) → v ≡ begun j → owned v.seen ≡ v.own
  begun_own v j is = ap (λ (y : Known D R O). owned y.seen) is ∙ sym (ap (λ (y : Known D R O). y.own) is)

  pub begun_room : (v : Known D R O) (j : Journal D R O) (n m : ℕ) → v ≡ begun j → m ≤ n → HasSessionRoom j n → HasOwnRoom v m
  begun_room v j n m is le room =
      let same = (owned_counts no_entry no_entry j.events refl refl).0 in
      let fits : (count_all no_entry (owned j.events)).session + m ≤ j.settings.rooms.session = omega (arith, le, room, same) in
      subst (λ (y : Known D R O). HasOwnRoom y m) (sym is) fits

module _ {D S R O : Type 0} (k : Kit D S R O) where
  pub begun_opened : (v : Known D R O) (j : Journal D R O) → v ≡ begun j → IsOpened (book_of k j) → IsOpened (book_seen k v)
  begun_opened v j is opened = subst (λ (y : Known D R O). IsOpened (book_seen k y)) (sym is) opened

  -- the book that is given back is still open
  pub finished_open : (v w : Known D R O) (n : ℕ) (answer : Option ℕ) (j : Journal D R O) → HasSettledBeside k v w n answer → is_closed v.own ≡ false → w.session ≡ true → Learned w j
      → (counts_of j).closed ≡ false
  finished_open v w n answer j h open' session learned =
      let own : is_closed w.own ≡ is_closed v.own =
      ap (λ (x : List (Event D R O)). is_closed x) h.added.own
      ∙ ap (λ (c : Counts). c.closed) (count-append no_entry v.own h.own ∙ settle_counts (count_all no_entry v.own) n (links_in (book_seen k v)) h.own h.is_settle) in
      open_now w j j refl learned session (own ∙ open')
