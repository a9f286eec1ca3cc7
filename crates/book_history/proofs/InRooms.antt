-- the entries stay in their rooms
use Rattle.std.proofs.Common.{◌≡◌, ℕ, suc, ◌+◌, ◌≤◌, List, [], ◌∷◌, length, refl, sym, ap, subst, arith, Bool, true, false, ◌&&◌, ◌||◌, not, eqb}
use Rattle.std.specs.Prelude.{Option, Some, None}
use Rattle.std.proofs.lemmas.Bool.{cond_both, ne_eqb}
use Rattle.machine.specs.Kit.{Kit}
use Rattle.book_history.specs.declared.who.Who.{Who}
use Rattle.book_history.specs.declared.who.Who.TheVariants.{Session, Worker}
use Rattle.book_history.specs.Book.{DrawnTicket, Book, Settings, Event, Opens, Runs, Reloads, Claims, Installs, Releases, Shows, Closes, drawn, takes, first_link, claim_found, install_found, is_current, joined, result_of, with_segs, with_used, step, apply, replay_from}
use Rattle.book_history.specs.Legal.{MayFollow, MayCome, LegalFrom}
use Rattle.book_history.specs.Rooms.{is_worker, is_among, one_if, out_of, out_in, Counts, counted, count, HasRoom, FitsRooms, RoomsFrom, AreInRooms, count_all}
use Rattle.book_history.proofs.Outs.{out_of-used}
use Rattle.book_history.proofs.KeptInstall.{drawn_within}

pub one_if-le : (b : Bool) → one_if b ≤ 1
one_if-le true = omega arith
one_if-le false = omega arith

-- one more number used up is no ticket more that is out
pub out_of-le : {D S R : Type 0} (ts : List (DrawnTicket D S R)) (n : ℕ) (us : List ℕ) → out_of ts (n ∷ us) ≤ out_of ts us
out_of-le [] n us = omega arith
out_of-le (t ∷ ts) n us = omega (arith, out_of-le ts n us, less (is_worker t.by) (eqb (length ts + 1) n) (is_among (length ts + 1) us))
  where
    less : (w x y : Bool) → one_if (w && not (x || y)) ≤ one_if (w && not y)
    less true true y = omega arith
    less true false y = omega arith
    less false x y = omega arith

pub claim_rooms : {D S R : Type 0} (st : Settings) (n : Counts) (c : Book D S R) (by : Who) (o : Option (ℕ × ℕ × S)) → AreInRooms st n (Some c) → HasRoom st n (out_of c.tickets c.used) by
    → AreInRooms st (counted n by) (Some (claim_found c by o))
claim_rooms st n c Session None h r = record { session = r; workers = h.workers }
claim_rooms st n c (Worker w) None h r = record { session = h.session; workers = omega (arith, r) }
claim_rooms st n c Session (Some f) h r = record { session = r; workers = omega (arith, h.workers) }
claim_rooms st n c (Worker w) (Some f) h r =
    record { session = h.session; workers = omega (arith, r, one_if-le (not (is_among (length c.tickets + 1) c.used))) }

pub used_rooms : {D S R : Type 0} (st : Settings) (n : Counts) (ts : List (DrawnTicket D S R)) (us : List ℕ) (i : ℕ) (t : DrawnTicket D S R) (by : Who)
    → n.session ≤ st.rooms.session → n.workers + out_of ts us ≤ st.rooms.workers → drawn i ts ≡ Some t → t.by ≡ by → is_among i us ≡ false
    → (is_worker by ≡ false → HasRoom st n (out_of ts us) Session)
    → ((counted n by).session ≤ st.rooms.session) × ((counted n by).workers + out_of ts (i ∷ us) ≤ st.rooms.workers)
used_rooms st n ts us i t Session s w d by fresh r = (r refl, omega (arith, w, out_of-le ts i us))
used_rooms {D} {S} {R} st n ts us i t (Worker x) s w d by fresh r =
    let works : is_worker t.by ≡ true = ap is_worker by in
    (s, omega (arith, w, out_of-used ts i us t d works fresh))

pub install_out : {D S R O : Type 0} (k : Kit D S R O) (c : Book D S R) (n : ℕ) (t : DrawnTicket D S R) → out_in (Some (install_found k c n (Some t))) ≡ out_of c.tickets (n ∷ c.used)
install_out k c n t =
    cond_both (is_current k c t) (with_segs c (joined k c.machine t (result_of k t) 0 c.first c.segs)) c (λ x. out_in (Some (with_used x n)) ≡ out_of c.tickets (n ∷ c.used)) (λ _. refl) (λ _. refl)

pub session_room : (D R O : Type 0) (st : Settings) (n : Counts) (out : ℕ) (i : ℕ) (j : Bool) (by : Who) → FitsRooms {D = D} {R = R} {O = O} st n out (Installs i j by) → is_worker by ≡ false → HasRoom st n out Session
session_room D R O st n out i j Session h e = h
session_room D R O st n out i j (Worker w) h e = absurd cc

pub session_room' : (D R O : Type 0) (st : Settings) (n : Counts) (out : ℕ) (i : ℕ) (by : Who) → FitsRooms {D = D} {R = R} {O = O} st n out (Releases i by) → is_worker by ≡ false → HasRoom st n out Session
session_room' D R O st n out i Session h e = h
session_room' D R O st n out i (Worker w) h e = absurd cc

pub step_rooms : {D S R O : Type 0} (k : Kit D S R O) (valid : D → D → O → Type 0) (st : Settings) (n : Counts) (c : Book D S R) (e : Event D R O)
    → AreInRooms st n (Some c) → MayFollow k valid st c e → FitsRooms st n (out_in (Some c)) e → AreInRooms st (count n e) (Some (step k st c e))
step_rooms k valid st n c (Opens v m) h may r = absurd may
step_rooms k valid st n c (Runs x rows) h may r = record { session = r; workers = h.workers }
step_rooms k valid st n c (Reloads v m ops from) h may r = record { session = r; workers = h.workers }
step_rooms k valid st n c (Claims i a b by) h may r = claim_rooms st n c by (first_link (takes by) 0 c.first c.segs) h r.0
step_rooms {D} {S} {R} {O} k valid st n c (Installs i j by) h may r =
    let t = may.0 in
    let u = used_rooms st n c.tickets c.used i t by h.session h.workers may.1 may.2 may.3 (session_room D R O st n (out_in (Some c)) i j by r) in
    let P : Option (DrawnTicket D S R) → Type 0 = λ x. AreInRooms st (counted n by) (Some (install_found k c i x)) in
    let here : P (Some t) = record { session = u.0; workers = rw (install_out k c i t) u.1 } in
    subst P (sym may.1) here
step_rooms {D} {S} {R} {O} k valid st n c (Releases i by) h may r =
    let u = used_rooms st n c.tickets c.used i may.0 by h.session h.workers may.1 may.2 may.3 (session_room' D R O st n (out_in (Some c)) i by r) in
    record { session = u.0; workers = u.1 }
step_rooms k valid st n c (Shows s) h may r = record { session = r; workers = h.workers }
step_rooms k valid st n c Closes h may r = record { session = h.session; workers = h.workers }

pub apply_rooms : {D S R O : Type 0} (k : Kit D S R O) (valid : D → D → O → Type 0) (st : Settings) (n : Counts) (b : Option (Book D S R)) (e : Event D R O)
    → AreInRooms st n b → MayCome k valid st b e → FitsRooms st n (out_in b) e → AreInRooms st (count n e) (apply k st b e)
apply_rooms k valid st n None (Opens v m) h may r = record { session = r; workers = h.workers }
apply_rooms k valid st n None (Runs x rows) h may r = absurd may
apply_rooms k valid st n None (Reloads v m ops from) h may r = absurd may
apply_rooms k valid st n None (Claims i a b by) h may r = absurd may
apply_rooms k valid st n None (Installs i j by) h may r = absurd may
apply_rooms k valid st n None (Releases i by) h may r = absurd may
apply_rooms k valid st n None (Shows s) h may r = absurd may
apply_rooms k valid st n None Closes h may r = record { session = h.session; workers = h.workers }
apply_rooms k valid st n (Some c) e h may r = step_rooms k valid st n c e h may r

-- the entries of each kind stay in their rooms, beside the tickets that are out
pub rooms_kept : {D S R O : Type 0} (k : Kit D S R O) (valid : D → D → O → Type 0) (st : Settings) (n : Counts) (b : Option (Book D S R)) (h : List (Event D R O))
    → AreInRooms st n b → LegalFrom k valid st b h → RoomsFrom k st n b h → AreInRooms st (count_all n h) (replay_from k st b h)
rooms_kept k valid st n b [] i l r = i
rooms_kept k valid st n b (e ∷ es) i l r =
    rooms_kept k valid st (count n e) (apply k st b e) es (apply_rooms k valid st n b e i l.0 r.0) l.1 r.1

-- numbers used up are of tickets drawn

abbrev pub AreDrawn : ℕ → List ℕ → Type 0
AreDrawn top [] = Unit {0}
AreDrawn top (n ∷ ns) = (n ≤ top) × AreDrawn top ns

pub drawn_more : (top top' : ℕ) (ns : List ℕ) → top ≤ top' → AreDrawn top ns → AreDrawn top' ns
drawn_more top top' [] le h = tt
drawn_more top top' (n ∷ ns) le h = (omega (arith, h.0, le), drawn_more top top' ns le h.1)

pub fresh : (top : ℕ) (ns : List ℕ) → AreDrawn top ns → is_among (top + 1) ns ≡ false
fresh top [] h = refl
fresh top (n ∷ ns) h = let ne : top + 1 ≡ n → ⊥ = omega (arith, h.0) in rw (ne_eqb (top + 1) n ne, fresh top ns h.1) refl

abbrev pub UsedAreDrawn : {D S R : Type 0} → Option (Book D S R) → Type 0
UsedAreDrawn None = Unit {0}
UsedAreDrawn (Some c) = AreDrawn (length c.tickets) c.used

pub install_drawn : {D S R O : Type 0} (k : Kit D S R O) (c : Book D S R) (n : ℕ) (o : Option (DrawnTicket D S R)) → drawn n c.tickets ≡ o → AreDrawn (length c.tickets) c.used → UsedAreDrawn (Some (install_found k c n o))
install_drawn k c n None is h = h
install_drawn {D} {S} {R} k c n (Some t) is h =
    let le : n ≤ length c.tickets = drawn_within n c.tickets t is in
    cond_both (is_current k c t) (with_segs c (joined k c.machine t (result_of k t) 0 c.first c.segs)) c (λ x. UsedAreDrawn (Some (with_used x n))) (λ _. (le, h)) (λ _. (le, h))

pub claim_drawn : {D S R : Type 0} (c : Book D S R) (by : Who) (o : Option (ℕ × ℕ × S)) → AreDrawn (length c.tickets) c.used → UsedAreDrawn (Some (claim_found c by o))
claim_drawn c by None h = h
claim_drawn c by (Some f) h = drawn_more (length c.tickets) (suc (length c.tickets)) c.used (omega arith) h

pub step_drawn : {D S R O : Type 0} (k : Kit D S R O) (valid : D → D → O → Type 0) (st : Settings) (c : Book D S R) (e : Event D R O)
    → AreDrawn (length c.tickets) c.used → MayFollow k valid st c e → UsedAreDrawn (Some (step k st c e))
step_drawn k valid st c (Opens v m) h may = h
step_drawn k valid st c (Runs x rows) h may = h
step_drawn k valid st c (Reloads v m ops from) h may = h
step_drawn k valid st c (Claims i a b by) h may = claim_drawn c by (first_link (takes by) 0 c.first c.segs) h
step_drawn k valid st c (Installs i j by) h may = install_drawn k c i (drawn i c.tickets) refl h
step_drawn k valid st c (Releases i by) h may = (drawn_within i c.tickets may.0 may.1, h)
step_drawn k valid st c (Shows s) h may = h
step_drawn k valid st c Closes h may = h
