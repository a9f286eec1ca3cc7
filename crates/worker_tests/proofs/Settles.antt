-- What the session's pass knows behind a look at the book and behind a settle.
use Rattle.std.proofs.Common.{◌≡◌, ℕ, ◌+◌, true, false, List, [], Option, Some, Result, Ok, Err, IfOk, OnErr, refl, sym, ap, ◌∙◌, subst, arith, append-nil}
use Rattle.machine.specs.Kit.{Kit}
use Rattle.book_history.specs.Book.{Book, Event, Settings}
use Rattle.book_history.specs.Journal.{Journal}
use Rattle.book_history.specs.Owned.{owned}
use Rattle.book_history.specs.Readers.{IsOpened, links_in}
use Rattle.book_history.specs.Rooms.{Counts, count_all, no_entry}
use Rattle.book_history.proofs.Outlines.{owned_counts}
use Rattle.book_history.proofs.Prefixes.{count-append}
use Rattle.segment_verify.proofs.Counting.{settle_counts, unfinished_counts}
use Rattle.book_turn.specs.Known.{Known, entered, left}
use Rattle.book_turn.specs.Rule.{Learned}
use Rattle.book_turn.specs.Turns.{HasAdded}
use Rattle.book_turn.proofs.Turns.{one_turn}
use Rattle.checkpoint_book.specs.Views.{book_of, HasSessionRoom}
use Rattle.segment_verify.specs.Workers.{is_closed}
use Rattle.turn_settle.specs.Seen.{book_seen, FitRoom, HasOwnRoom}
use Rattle.turn_settle.specs.Settled.{HasSettledBeside, HasTriedBeside}
use Rattle.turn_settle.proofs.Visiting.{book_left}

module _ {D R O : Type 0} where
  -- v is what the pass knew before it entered, w what it then knows, x what it knows after it has left; j is the book that it was
  -- given and put back, and i the book behind the reference
  module _ (v w x : Known D R O) (i j : Journal D R O) (knows : w ≡ entered v j) (same : i ≡ j) (learned : Learned v j) (leaves : x ≡ left w i) where
    looked : HasAdded [] v x
    looked = one_turn [] v w x i j i knows same learned (sym (append-nil i.events)) leaves

    own_kept : x.own ≡ v.own
    own_kept = looked.own ∙ append-nil v.own

    seen_now : x.seen ≡ i.events
    seen_now = ap (λ (y : Known D R O). y.seen) leaves

    pub look_open : is_closed v.own ≡ false → is_closed x.own ≡ false
    look_open open' = ap (λ (h : List (Event D R O)). is_closed h) own_kept ∙ open'

    pub look_own : v.session ≡ true → owned x.seen ≡ x.own
    look_own session =
        ap (λ (h : List (Event D R O)). owned h) seen_now ∙ ap (λ (y : Journal D R O). owned y.events) same ∙ learned.own session ∙ sym own_kept

    pub look_room : (n : ℕ) → v.session ≡ true → HasSessionRoom i n → HasOwnRoom x n
    look_room n session room =
        let fits : FitRoom (Some i.settings) ((count_all no_entry (owned i.events)).session + n) = omega (arith, room, (owned_counts no_entry no_entry i.events refl refl).0) in
        let mine : owned i.events ≡ x.own = ap (λ (h : List (Event D R O)). owned h) (sym seen_now) ∙ look_own session in
        let here : x.settings ≡ Some i.settings = looked.settings ∙ learned.carries ∙ ap (λ (y : Journal D R O). Some y.settings) (sym same) in
        subst (λ (o : Option Settings). FitRoom o ((count_all no_entry x.own).session + n)) (sym here)
        (subst (λ (h : List (Event D R O)). FitRoom (Some i.settings) ((count_all no_entry h).session + n)) mine fits)

module _ {D S R O : Type 0} (k : Kit D S R O) where
  pub look_opened : (v w x : Known D R O) (i j : Journal D R O) → w ≡ entered v j → i ≡ j → Learned v j → x ≡ left w i → IsOpened (book_of k i) → IsOpened (book_seen k x)
  look_opened v w x i j knows same learned leaves opened =
      subst (λ (b : Option (Book D S R)). IsOpened b) (sym (book_left k v w x i j i knows same learned refl leaves)) opened

  -- a settle, or one for which memory ran out, leaves the book open
  pub settle_open : {E A : Type 0} (answer : A → Option ℕ) (v w : Known D R O) (n m : ℕ) (r : Result A E) → IfOk r (λ s. HasSettledBeside k v w n (answer s))
      → OnErr r (HasTriedBeside v w m) → is_closed v.own ≡ false → is_closed w.own ≡ false
  settle_open answer v w n m (Ok s) ok err open' =
      ap (λ (h : List (Event D R O)). is_closed h) ok.added.own
      ∙ ap (λ (c : Counts). c.closed) (count-append no_entry v.own ok.own ∙ settle_counts (count_all no_entry v.own) n (links_in (book_seen k v)) ok.own ok.is_settle)
      ∙ open'
  settle_open answer v w n m (Err e) ok err open' =
      ap (λ (h : List (Event D R O)). is_closed h) err.added.own
      ∙ ap (λ (c : Counts). c.closed) (count-append no_entry v.own err.own ∙ unfinished_counts (count_all no_entry v.own) err.own err.unfinished)
      ∙ open'
