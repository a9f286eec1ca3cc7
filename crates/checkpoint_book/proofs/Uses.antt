-- Installs and releases of the fields are those of the replayed book.
use Rattle.std.proofs.Common.{◌≡◌, ℕ, ◌+◌, ◌≤◌, List, [], ◌∷◌, length, refl, sym, ◌∙◌, ap, subst, arith, Bool, true, false, cond, eqb, eqb-true, if◌then◌else◌}
use Rattle.std.specs.Prelude.{Option, Some, None}
use Rattle.std.proofs.Common.{Global}
use Rattle.std.specs.declared.sync.Arc.{Arc}
use Rattle.book_history.specs.declared.version.Version.{Version}
use Rattle.std.proofs.lemmas.Bool.{cond_both, ne_eqb, eqb-false}
use Rattle.machine.specs.Kit.{Kit}
use Rattle.book_history.specs.declared.who.Who.{Who}
use Rattle.book_history.specs.declared.who.Who.TheVariants.{Session, Worker}
use Rattle.book_history.specs.declared.segment.Segment.{Segment}
use Rattle.book_history.specs.Book.{Book, DrawnTicket, Settings, Installs, Releases, drawn, is_current, joined, result_of, with_segs, with_used, install_found, freed, step, apply}
use Rattle.book_history.specs.Journal.{Journal}
use Rattle.book_history.specs.Legal.{MayFollow, MayCome}
use Rattle.book_history.specs.Outs.{IsOutFor}
use Rattle.book_history.specs.Tickets.{is_among}
use Rattle.book_history.specs.Rooms.{Counts, counted, FitsRooms, HasRoom, is_worker, out_of, count_all, no_entry}
use Rattle.book_history.proofs.Outs.{out_of-used, out_of-beyond}
use Rattle.checkpoint_book.specs.declared.counters.Counters.{Counters}
use Rattle.checkpoint_book.specs.declared.opened.Opened.{Opened}
use Rattle.checkpoint_book.specs.Answers.{is_joined_answer, install_answer, stale_why}
use Rattle.checkpoint_book.specs.declared.installed.Installed.TheVariants as answers
use Rattle.checkpoint_book.specs.Counts.{counts, used_by}
use Rattle.checkpoint_book.specs.Idle.{left_of}
use Rattle.checkpoint_book.specs.Kept.{Stands, StandsFor}
use Rattle.checkpoint_book.specs.Opened.{core_of}
use Rattle.checkpoint_book.specs.Views.{HasRoomFor}
use Rattle.checkpoint_book.proofs.Frees.{length-freed}
use Rattle.checkpoint_book.proofs.Lengths.{length-joined}

pub out_of-session : {D S R : Type 0} (ts : List (DrawnTicket D S R)) (n : ℕ) (us : List ℕ) (t : DrawnTicket D S R)
    → drawn n ts ≡ Some t → is_worker t.by ≡ false → out_of ts (n ∷ us) ≡ out_of ts us
out_of-session [] n us t e w = absurd cc
out_of-session {D} {S} {R} (u ∷ ts) n us t e w = go (eqb n (length ts + 1)) refl (λ x. out_of-session ts n us t x w) e
  where
    go : (b : Bool) → eqb n (length ts + 1) ≡ b → (drawn n ts ≡ Some t → out_of ts (n ∷ us) ≡ out_of ts us)
        → cond b (Some u) (drawn n ts) ≡ Some t → out_of (u ∷ ts) (n ∷ us) ≡ out_of (u ∷ ts) us
    go true is ih x =
        let same : u ≡ t = cc in
        let n_is : n ≡ length ts + 1 = eqb-true n (length ts + 1) is in
        let rests : is_worker u.by ≡ false = ap (λ (y : DrawnTicket D S R). is_worker y.by) same ∙ w in
        let beyond = out_of-beyond ts n us (omega arith) in
        rw (rests) (omega (arith, beyond))
    go false is ih x =
        let ne : length ts + 1 ≡ n → ⊥ = λ y. eqb-false n (length ts + 1) is (sym y) in
        rw (ne_eqb (length ts + 1) n ne) (omega (arith, ih x))

pub outs_after : {D S R : Type 0} (ts : List (DrawnTicket D S R)) (us : List ℕ) (num : ℕ) (t : DrawnTicket D S R) (by : Who) (n : Counters)
    → drawn num ts ≡ Some t → t.by ≡ by → is_among num us ≡ false → n.out ≡ out_of ts us → (used_by by n).out ≡ out_of ts (num ∷ us)
outs_after ts us num t Session n d by fresh out = out ∙ sym (out_of-session ts num us t d (ap is_worker by))
outs_after ts us num t (Worker w) n d by fresh out = omega (arith, out, out_of-used ts num us t d (ap is_worker by) fresh)

pub used_drawn : (by : Who) (n : Counters) → (used_by by n).drawn ≡ n.drawn
used_drawn Session n = refl
used_drawn (Worker w) n = refl

pub used_counts : (by : Who) (n : Counters) → counted (counts n) by ≡ counts (used_by by n)
used_counts Session n = refl
used_counts (Worker w) n = refl

pub used_fewer : (by : Who) (n : Counters) → n.drawn ≤ n.session + n.workers → (used_by by n).drawn ≤ (used_by by n).session + (used_by by n).workers
used_fewer Session n le = omega (arith, le)
used_fewer (Worker w) n le = omega (arith, le)

pub install_fits : (D R O : Type 0) (st : Settings) (n : Counters) (num : ℕ) (j : Bool) (by : Who) → (is_worker by ≡ false → HasRoom st (counts n) n.out Session) → FitsRooms {D = D} {R = R} {O = O} st (counts n) n.out (Installs num j by)
install_fits D R O st n num j Session h = h refl
install_fits D R O st n num j (Worker w) h = tt

pub release_fits : (D R O : Type 0) (st : Settings) (n : Counters) (num : ℕ) (by : Who) → (is_worker by ≡ false → HasRoom st (counts n) n.out Session) → FitsRooms {D = D} {R = R} {O = O} st (counts n) n.out (Releases num by)
release_fits D R O st n num Session h = h refl
release_fits D R O st n num (Worker w) h = tt

-- the session's room, read from the counters
pub room_of : {D R O : Type 0} (j : Journal D R O) (n : Counters) (by : Who) → count_all no_entry j.events ≡ counts n → HasRoomFor j by → is_worker by ≡ false → HasRoom j.settings (counts n) n.out Session
room_of j n Session e room is = omega (arith, room, ap (λ (c : Counts). c.session) e)
room_of j n (Worker w) e room is = absurd cc

pub install_core : {D S R : Type 0} (o o' : Opened D S) (rows : List R) (ts : List (DrawnTicket D S R)) (us : List ℕ) (num : ℕ) (b : Bool) (segs : List (Segment S))
    → core_of {R = R} o' [] [] [] ≡ cond b (with_segs (core_of {R = R} o [] [] []) segs) (core_of {R = R} o [] [] [])
    → with_used (cond b (with_segs (core_of o rows ts us) segs) (core_of o rows ts us)) num ≡ core_of o' rows ts (num ∷ us)
install_core {D} {S} {R} o o' rows ts us num true segs e =
    ap (λ (y : Book D S R). record { version = y.version; machine = y.machine; rows = rows; first = y.first; segs = y.segs; tickets = ts; used = num ∷ us }) (sym e)
install_core {D} {S} {R} o o' rows ts us num false segs e =
    ap (λ (y : Book D S R). record { version = y.version; machine = y.machine; rows = rows; first = y.first; segs = y.segs; tickets = ts; used = num ∷ us }) (sym e)

module _ {D S R O : Type 0} where
  pub joined_answer : (k : Kit D S R O) (c : Book D S R) (t : DrawnTicket D S R) → is_joined_answer (install_answer k c t) ≡ is_current k c t
  joined_answer k c t = go (is_current k c t)
    where
      go : (b : Bool) → is_joined_answer (cond b answers.Joined (answers.Stale t.version c.version (stale_why c t))) ≡ b
      go true = refl
      go false = refl

  -- what the fields become
  pub record IsInstalled (k : Kit D S R O) (o o' : Opened D S) (t : DrawnTicket D S R) (j : Bool) : Type 0 where
    pub answer : j ≡ is_current k (core_of {R = R} o [] [] []) t
    pub book : core_of {R = R} o' [] [] [] ≡ cond (is_current k (core_of {R = R} o [] [] []) t) (with_segs (core_of {R = R} o [] [] []) (joined k o.version.value.machine.value t (result_of k t) 0 o.first o.segs.items)) (core_of {R = R} o [] [] [])
    pub left_is : o'.left ≡ left_of o'.segs.items

  pub installed_length : (k : Kit D S R O) (o o' : Opened D S) (t : DrawnTicket D S R) (j : Bool) → IsInstalled k o o' t j → length o'.segs.items ≡ length o.segs.items
  installed_length k o o' t j h =
      ap (λ (y : Book D S R). length y.segs) h.book
      ∙ cond_both (is_current k (core_of {R = R} o [] [] []) t)
      (with_segs (core_of {R = R} o [] [] []) (joined k o.version.value.machine.value t (result_of k t) 0 o.first o.segs.items)) (core_of {R = R} o [] [] [])
      (λ (y : Book D S R). length y.segs ≡ length o.segs.items)
      (λ _. length-joined k o.version.value.machine.value t (result_of k t) 0 o.first o.segs.items) (λ _. refl)

  pub install_next : (k : Kit D S R O) (valid : D → D → O → Type 0) (st : Settings) (b : Option (Book D S R)) (o o' : Opened D S) (n : Counters) (num : ℕ) (t : DrawnTicket D S R) (j : Bool) (by : Who)
      → Stands b (Some o) n.drawn n.out → IsOutFor b num t by → IsInstalled k o o' t j
      → MayCome k valid st b (Installs num j by) × Stands (apply k st b (Installs num j by)) (Some o') (used_by by n).drawn (used_by by n).out
  install_next k valid st None o o' n num t j by s out h = absurd s
  install_next k valid st (Some c) o o' n num t j by s out h =
      let x : Book D S R = core_of o c.rows c.tickets c.used in
      let m = o.version.value.machine.value in
      let P : Book D S R → Type 0 = λ y. MayFollow k valid st y (Installs num j by) × Stands (Some (step k st y (Installs num j by))) (Some o') (used_by by n).drawn (used_by by n).out in
      let Q : Option (DrawnTicket D S R) → Type 0 = λ d. Stands (Some (install_found k x num d)) (Some o') (used_by by n).drawn (used_by by n).out in
      let core : with_used (if is_current k x t then with_segs x (joined k m t (result_of k t) 0 o.first o.segs.items) else x) num ≡ core_of o' c.rows c.tickets (num ∷ c.used) =
      install_core o o' c.rows c.tickets c.used num (is_current k x t) (joined k m t (result_of k t) 0 o.first o.segs.items) h.book in
      let after : StandsFor (core_of o' c.rows c.tickets (num ∷ c.used)) o' (used_by by n).drawn (used_by by n).out =
      record {
        core = refl;
        tickets = used_drawn by n ∙ s.tickets;
        outs = outs_after c.tickets c.used num t by n out.0 out.1 out.2 s.outs;
        few = omega (arith, s.few, installed_length k o o' t j h);
        left_is = h.left_is;
      } in
      let fields : Q (Some t) = subst (λ (y : Book D S R). StandsFor y o' (used_by by n).drawn (used_by by n).out) (sym core) after in
      let here : P x = ((t, out.0, out.1, out.2, h.answer), subst Q (sym out.0) fields) in
      subst P (sym s.core) here

  pub release_next : (k : Kit D S R O) (valid : D → D → O → Type 0) (st : Settings) (b : Option (Book D S R)) (o o' : Opened D S) (n : Counters) (num : ℕ) (t : DrawnTicket D S R) (by : Who)
      → Stands b (Some o) n.drawn n.out → IsOutFor b num t by
      → core_of {R = R} o' [] [] [] ≡ with_segs (core_of {R = R} o [] [] []) (freed num o.segs.items) → o'.left ≡ left_of o'.segs.items
      → MayCome k valid st b (Releases num by) × Stands (apply k st b (Releases num by)) (Some o') (used_by by n).drawn (used_by by n).out
  release_next k valid st None o o' n num t by s out e left_is = absurd s
  release_next k valid st (Some c) o o' n num t by s out e left_is =
      let x : Book D S R = core_of o c.rows c.tickets c.used in
      let P : Book D S R → Type 0 = λ y. MayFollow k valid st y (Releases num by) × Stands (Some (step k st y (Releases num by))) (Some o') (used_by by n).drawn (used_by by n).out in
      let core : with_used (with_segs x (freed num o.segs.items)) num ≡ core_of o' c.rows c.tickets (num ∷ c.used) =
      install_core o o' c.rows c.tickets c.used num true (freed num o.segs.items) e in
      let after : StandsFor (core_of o' c.rows c.tickets (num ∷ c.used)) o' (used_by by n).drawn (used_by by n).out =
      record {
        core = refl;
        tickets = used_drawn by n ∙ s.tickets;
        outs = outs_after c.tickets c.used num t by n out.0 out.1 out.2 s.outs;
        few = omega (arith, s.few, ap (λ (y : Book D S R). length y.segs) e, length-freed num o.segs.items);
        left_is = left_is;
      } in
      let fields : StandsFor (with_used (with_segs x (freed num o.segs.items)) num) o' (used_by by n).drawn (used_by by n).out =
      subst (λ (y : Book D S R). StandsFor y o' (used_by by n).drawn (used_by by n).out) (sym core) after in
      let here : P x = ((t, out.0, out.1, out.2), fields) in
      subst P (sym s.core) here

pub released_core : {D S R : Type 0} (o o' : Opened D S) (num : ℕ) → o'.version ≡ o.version → o'.first ≡ o.first → o'.segs.items ≡ freed num o.segs.items
    → core_of {R = R} o' [] [] [] ≡ with_segs (core_of {R = R} o [] [] []) (freed num o.segs.items)
released_core {D} {S} {R} o o' num version first segs =
    ap (λ (v : Arc (Version D) Global). record { version = v.value.number; machine = v.value.machine.value; rows = []; first = o'.first; segs = o'.segs.items; tickets = []; used = [] }) version
    ∙ ap (λ (a : S). record { version = o.version.value.number; machine = o.version.value.machine.value; rows = []; first = a; segs = o'.segs.items; tickets = []; used = [] }) first
    ∙ ap (λ (l : List (Segment S)). record { version = o.version.value.number; machine = o.version.value.machine.value; rows = []; first = o.first; segs = l; tickets = []; used = [] }) segs
