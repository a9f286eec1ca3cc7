-- Histories with one entry more, and what comes first in a legal history.
use Rattle.std.proofs.Common.{◌≡◌, ℕ, ◌+◌, ◌≤◌, List, [], ◌∷◌, ◌++◌, length, refl, sym, ◌∙◌, ap, arith, append_assoc, append-nil}
use Rattle.std.specs.Prelude.{Option, Some, None}
use Rattle.machine.specs.Kit.{Kit}
use Rattle.book_history.specs.declared.who.Who.{Who}
use Rattle.book_history.specs.declared.who.Who.TheVariants.{Session, Worker}
use Rattle.book_history.specs.Book.{Book, Settings, Event, Opens, Runs, Reloads, Claims, Installs, Releases, Shows, Closes, apply, replay_from, replay, takes, first_link, claim_found, install_found, drawn, is_current, joined, result_of, with_segs, with_used, step, DrawnTicket}
use Rattle.book_history.specs.Legal.{MayCome, LegalFrom, Legal}
use Rattle.book_history.specs.Rooms.{Counts, count, counted, count_all, no_entry, FitsRooms, RoomsFrom, AreInRooms, out_in, one_if}
use Rattle.book_history.specs.Law.{record_in, ran_rows, record_of}
use Rattle.book_history.proofs.InRooms.{one_if-le, rooms_kept}
use Rattle.std.proofs.lemmas.Bool.{cond_both}

module _ {D S R O : Type 0} (k : Kit D S R O) (st : Settings) where
  pub replay-snoc : (b : Option (Book D S R)) (h : List (Event D R O)) (e : Event D R O) → replay_from k st b (h ++ e ∷ []) ≡ apply k st (replay_from k st b h) e
  replay-snoc b [] e = refl
  replay-snoc b (x ∷ xs) e = replay-snoc (apply k st b x) xs e

  pub rooms-snoc : (n : Counts) (b : Option (Book D S R)) (h : List (Event D R O)) (e : Event D R O) → RoomsFrom k st n b h
      → FitsRooms st (count_all n h) (out_in (replay_from k st b h)) e → RoomsFrom k st n b (h ++ e ∷ [])
  rooms-snoc n b [] e r f = (f, tt)
  rooms-snoc n b (x ∷ xs) e r f = (r.0, rooms-snoc (count n x) (apply k st b x) xs e r.1 f)

  pub rooms_first : (n : Counts) (b : Option (Book D S R)) (xs ys : List (Event D R O)) → RoomsFrom k st n b (xs ++ ys) → RoomsFrom k st n b xs
  rooms_first n b [] ys r = tt
  rooms_first n b (x ∷ xs) ys r = (r.0, rooms_first (count n x) (apply k st b x) xs ys r.1)

  module _ (valid : D → D → O → Type 0) where
    pub follows-snoc : (b : Option (Book D S R)) (h : List (Event D R O)) (e : Event D R O) → LegalFrom k valid st b h → MayCome k valid st (replay_from k st b h) e
        → LegalFrom k valid st b (h ++ e ∷ [])
    follows-snoc b [] e l m = (m, tt)
    follows-snoc b (x ∷ xs) e l m = (l.0, follows-snoc (apply k st b x) xs e l.1 m)

    pub follows_first : (b : Option (Book D S R)) (xs ys : List (Event D R O)) → LegalFrom k valid st b (xs ++ ys) → LegalFrom k valid st b xs
    follows_first b [] ys l = tt
    follows_first b (x ∷ xs) ys l = (l.0, follows_first (apply k st b x) xs ys l.1)

    pub legal-snoc : (h : List (Event D R O)) (e : Event D R O) → Legal k valid st h → MayCome k valid st (replay k st h) e
        → FitsRooms st (count_all no_entry h) (out_in (replay k st h)) e → Legal k valid st (h ++ e ∷ [])
    legal-snoc h e l m f = record { follows = follows-snoc None h e l.follows m; in_rooms = rooms-snoc no_entry None h e l.in_rooms f }

    pub legal_first : (xs ys : List (Event D R O)) → Legal k valid st (xs ++ ys) → Legal k valid st xs
    legal_first xs ys l = record { follows = follows_first None xs ys l.follows; in_rooms = rooms_first no_entry None xs ys l.in_rooms }

    pub legal_rooms : (h : List (Event D R O)) → Legal k valid st h → AreInRooms st (count_all no_entry h) (replay k st h)
    legal_rooms h l = rooms_kept k valid st no_entry None h (record { session = omega arith; workers = omega arith }) l.follows l.in_rooms

-- counts

pub count-snoc : {D R O : Type 0} (n : Counts) (h : List (Event D R O)) (e : Event D R O) → count_all n (h ++ e ∷ []) ≡ count (count_all n h) e
count-snoc n [] e = refl
count-snoc n (x ∷ xs) e = count-snoc (count n x) xs e

pub count-append : {D R O : Type 0} (n : Counts) (xs ys : List (Event D R O)) → count_all n (xs ++ ys) ≡ count_all (count_all n xs) ys
count-append n [] ys = refl
count-append n (x ∷ xs) ys = count-append (count n x) xs ys

abbrev pub total : Counts → ℕ
total n = n.session + n.workers + one_if n.closed

pub counted_total : (n : Counts) (by : Who) → total (counted n by) ≡ total n + 1
counted_total n Session = omega arith
counted_total n (Worker w) = omega arith

pub count_total : {D R O : Type 0} (st : Settings) (n : Counts) (out : ℕ) (e : Event D R O) → FitsRooms st n out e → total (count n e) ≡ total n + 1
count_total st n out (Opens v m) f = counted_total n Session
count_total st n out (Runs x rows) f = counted_total n Session
count_total st n out (Reloads v m ops from) f = counted_total n Session
count_total st n out (Claims i a b by) f = counted_total n by
count_total st n out (Installs i j by) f = counted_total n by
count_total st n out (Releases i by) f = counted_total n by
count_total st n out (Shows s) f = counted_total n Session
count_total st n out Closes f = let z : one_if n.closed ≡ 0 = ap one_if f in omega (arith, z)

pub length_total : {D S R O : Type 0} (k : Kit D S R O) (st : Settings) (n : Counts) (b : Option (Book D S R)) (h : List (Event D R O)) → RoomsFrom k st n b h
    → total (count_all n h) ≡ total n + length h
length_total k st n b [] r = omega arith
length_total k st n b (e ∷ es) r = omega (arith, count_total st n (out_in b) e r.0, length_total k st (count n e) (apply k st b e) es r.1)

-- a legal history has no more entries than its rooms and one place for a close
pub legal_length : {D S R O : Type 0} (k : Kit D S R O) (valid : D → D → O → Type 0) (st : Settings) (h : List (Event D R O)) → Legal k valid st h
    → length h ≤ st.rooms.session + st.rooms.workers + 1
legal_length k valid st h l =
    let i = legal_rooms k st valid h l in
    omega (arith, length_total k st no_entry None h l.in_rooms, i.session, i.workers, one_if-le (count_all no_entry h).closed)

-- the record of the replayed book is the rows of the runs

pub claim_record : {D S R : Type 0} (c : Book D S R) (by : Who) (o : Option (ℕ × ℕ × S)) → (claim_found c by o).rows ≡ c.rows
claim_record c by None = refl
claim_record c by (Some f) = refl

pub install_record : {D S R O : Type 0} (k : Kit D S R O) (c : Book D S R) (n : ℕ) (o : Option (DrawnTicket D S R)) → (install_found k c n o).rows ≡ c.rows
install_record k c n None = refl
install_record k c n (Some t) =
    cond_both (is_current k c t) (with_segs c (joined k c.machine t (result_of k t) 0 c.first c.segs)) c (λ x. (with_used x n).rows ≡ c.rows) (λ _. refl) (λ _. refl)

pub step_record : {D S R O : Type 0} (k : Kit D S R O) (st : Settings) (c : Book D S R) (e : Event D R O) → (step k st c e).rows ≡ c.rows ++ ran_rows e
step_record k st c (Opens v m) = sym (append-nil c.rows)
step_record k st c (Runs x rows) = refl
step_record k st c (Reloads v m ops from) = sym (append-nil c.rows)
step_record k st c (Claims n a b by) = claim_record c by (first_link (takes by) 0 c.first c.segs) ∙ sym (append-nil c.rows)
step_record k st c (Installs n j by) = install_record k c n (drawn n c.tickets) ∙ sym (append-nil c.rows)
step_record k st c (Releases n by) = sym (append-nil c.rows)
step_record k st c (Shows s) = sym (append-nil c.rows)
step_record k st c Closes = sym (append-nil c.rows)

pub apply_record : {D S R O : Type 0} (k : Kit D S R O) (valid : D → D → O → Type 0) (st : Settings) (b : Option (Book D S R)) (e : Event D R O) → MayCome k valid st b e
    → record_in (apply k st b e) ≡ record_in b ++ ran_rows e
apply_record k valid st None (Opens v m) may = refl
apply_record k valid st None (Runs x rows) may = absurd may
apply_record k valid st None (Reloads v m ops from) may = absurd may
apply_record k valid st None (Claims n a b by) may = absurd may
apply_record k valid st None (Installs n j by) may = absurd may
apply_record k valid st None (Releases n by) may = absurd may
apply_record k valid st None (Shows s) may = absurd may
apply_record k valid st None Closes may = refl
apply_record k valid st (Some c) e may = step_record k st c e

pub replay_record : {D S R O : Type 0} (k : Kit D S R O) (valid : D → D → O → Type 0) (st : Settings) (b : Option (Book D S R)) (h : List (Event D R O))
    → LegalFrom k valid st b h → record_in (replay_from k st b h) ≡ record_in b ++ record_of h
replay_record k valid st b [] l = sym (append-nil (record_in b))
replay_record {D} {S} {R} k valid st b (e ∷ es) l =
    replay_record k valid st (apply k st b e) es l.1
    ∙ ap (λ (x : List R). x ++ record_of es) (apply_record k valid st b e l.0)
    ∙ append_assoc (record_in b) (ran_rows e) (record_of es)
