-- The book is kept with one entry more.
use Rattle.std.proofs.Common.{◌≡◌, ℕ, ◌+◌, ◌<◌, ◌≤◌, ◌^◌, List, [], ◌∷◌, ◌++◌, sym, ◌∙◌, ap, subst, arith}
use Rattle.std.specs.Prelude.{Option, Some, None}
use Rattle.machine.specs.Kit.{Kit}
use Rattle.book_history.specs.Book.{Book, Settings, Event, apply, replay}
use Rattle.book_history.specs.Journal.{Journal}
use Rattle.book_history.specs.Legal.{MayCome, Legal}
use Rattle.book_history.specs.Rooms.{Counts, count, count_all, no_entry, FitsRooms, out_in}
use Rattle.book_history.proofs.Prefixes.{legal-snoc, replay-snoc, count-snoc, legal_rooms}
use Rattle.checkpoint_book.specs.declared.counters.Counters.{Counters}
use Rattle.checkpoint_book.specs.declared.opened.Opened.{Opened}
use Rattle.checkpoint_book.specs.Counts.{counts, IsSmall}
use Rattle.checkpoint_book.specs.Idle.{left_of}
use Rattle.checkpoint_book.specs.Kept.{Stands, IsKept}
use Rattle.checkpoint_book.specs.Views.{book_of, counts_of}

module _ {D S R O : Type 0} (k : Kit D S R O) where
  pub stands_out : (b : Option (Book D S R)) (o : Option (Opened D S)) (drawn out : ℕ) → Stands b o drawn out → out_in b ≡ out
  stands_out None None drawn out s = sym s.1
  stands_out None (Some o) drawn out s = absurd s
  stands_out (Some c) None drawn out s = absurd s
  stands_out (Some c) (Some o) drawn out s = sym s.outs

  pub kept_more : (j j' : Journal D R O) (e : Event D R O) (o o' : Option (Opened D S)) (n n' : Counters) → IsKept k j o n
      → j'.settings ≡ j.settings → j'.events ≡ j.events ++ e ∷ []
      → Stands (apply k j.settings (book_of k j) e) o' n'.drawn n'.out → count (counts n) e ≡ counts n' → n'.drawn ≤ n'.session + n'.workers
      → IsKept k j' o' n'
  kept_more j j' e o o' n n' kept settings events stands counted fewer =
      let book : book_of k j' ≡ apply k j.settings (book_of k j) e =
      ap (λ (st : Settings). replay k st j'.events) settings ∙ ap (λ (h : List (Event D R O)). replay k j.settings h) events ∙ replay-snoc k j.settings None j.events e in
      record {
        stands = subst (λ (b : Option (Book D S R)). Stands b o' n'.drawn n'.out) (sym book) stands;
        counted = ap (λ (h : List (Event D R O)). count_all no_entry h) events ∙ count-snoc no_entry j.events e ∙ ap (λ (c : Counts). count c e) kept.counted ∙ counted;
        fewer = fewer;
        interval = subst (λ (st : Settings). 1 ≤ st.interval) (sym settings) kept.interval;
        small_session = subst (λ (st : Settings). st.rooms.session < 2 ^ 32) (sym settings) kept.small_session;
        small_workers = subst (λ (st : Settings). st.rooms.workers < 2 ^ 32) (sym settings) kept.small_workers;
      }

  pub left_stands : (b : Option (Book D S R)) (o : Opened D S) (drawn out : ℕ) → Stands b (Some o) drawn out → o.left ≡ left_of o.segs.items
  left_stands None o drawn out s = absurd s
  left_stands (Some c) o drawn out s = s.left_is

  module _ (valid : D → D → O → Type 0) where
    pub legal_next : (j : Journal D R O) (e : Event D R O) (o : Option (Opened D S)) (n : Counters) → IsKept k j o n → Legal k valid j.settings j.events
        → MayCome k valid j.settings (book_of k j) e → FitsRooms j.settings (counts n) n.out e → Legal k valid j.settings (j.events ++ e ∷ [])
    legal_next j e o n kept legal may fits =
        let with_counts : FitsRooms j.settings (counts_of j) n.out e = subst (λ (c : Counts). FitsRooms j.settings c n.out e) (sym kept.counted) fits in
        let with_outs : FitsRooms j.settings (counts_of j) (out_in (book_of k j)) e =
        subst (λ (x : ℕ). FitsRooms j.settings (counts_of j) x e) (sym (stands_out (book_of k j) o n.drawn n.out kept.stands)) with_counts in
        legal-snoc k j.settings valid j.events e legal may with_outs

    pub small_of : (j : Journal D R O) (o : Option (Opened D S)) (n : Counters) → IsKept k j o n → Legal k valid j.settings j.events → IsSmall n
    small_of j o n kept legal =
        let rooms = legal_rooms k j.settings valid j.events legal in
        let session : (counts_of j).session ≡ n.session = ap (λ (c : Counts). c.session) kept.counted in
        let workers : (counts_of j).workers ≡ n.workers = ap (λ (c : Counts). c.workers) kept.counted in
        let out = stands_out (book_of k j) o n.drawn n.out kept.stands in
        record {
          session = omega (arith, rooms.session, session, kept.small_session);
          workers = omega (arith, rooms.workers, workers, kept.small_workers);
          drawn = omega (arith, rooms.session, rooms.workers, session, workers, kept.small_session, kept.small_workers, kept.fewer);
          out = omega (arith, rooms.workers, out, kept.small_workers);
        }
