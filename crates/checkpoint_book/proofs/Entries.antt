-- The other entries: what the fields become is what the replayed book does.
use Rattle.std.proofs.Common.{◌≡◌, ℕ, ◌+◌, ◌-◌, ◌<◌, ◌≤◌, List, [], ◌∷◌, ◌++◌, length, refl, sym, ◌∙◌, ap, subst, arith, Bool, false, ◌||◌}
use Rattle.std.specs.Prelude.{Option, Some, None}
use Rattle.std.proofs.Common.{Global}
use Rattle.std.specs.declared.sync.Arc.{Arc}
use Rattle.machine.specs.Kit.{Kit, Laws}
use Rattle.book_history.specs.declared.who.Who.{Who}
use Rattle.book_history.specs.declared.who.Who.TheVariants.{Session, Worker}
use Rattle.book_history.specs.declared.link.Link.{Link}
use Rattle.book_history.specs.declared.segment.Segment.{Segment}
use Rattle.book_history.specs.declared.version.Version.{Version}
use Rattle.book_history.specs.Book.{Book, DrawnTicket, Settings, Event, Opens, Runs, Reloads, Claims, Installs, Releases, Shows, Closes, slice, drawn, takes, first_link, mark_out, claim_found, with_segs, last_cycle, last_state, shown, chosen, reloaded, extend, grid, opened, step, apply, replay_from}
use Rattle.book_history.specs.Journal.{Journal}
use Rattle.book_history.specs.Law.{record_in, record_of}
use Rattle.book_history.specs.Legal.{MayFollow, MayCome, Legal, LegalFrom}
use Rattle.book_history.specs.Outs.{IsOutFor, tickets_drawn}
use Rattle.book_history.specs.Rooms.{count, counted, out_of}
use Rattle.book_history.specs.Tickets.{is_among}
use Rattle.book_history.specs.Truth.{Chain}
use Rattle.book_history.proofs.Kept.{Kept, Inv, chain_head, chain_last}
use Rattle.book_history.proofs.KeptInstall.{find_found, drawn_newest}
use Rattle.book_history.proofs.Law.{InvOf, replay_kept}
use Rattle.book_history.proofs.Prefixes.{replay_record}
use Rattle.book_history.proofs.InRooms.{UsedAreDrawn, step_drawn, fresh}
use Rattle.checkpoint_book.specs.declared.counters.Counters.{Counters}
use Rattle.checkpoint_book.specs.declared.opened.Opened.{Opened}
use Rattle.checkpoint_book.specs.Counts.{counts, drew_by}
use Rattle.checkpoint_book.specs.Draw.{IsDrawable, IsDrawnAs}
use Rattle.checkpoint_book.specs.Idle.{left_of}
use Rattle.checkpoint_book.specs.Kept.{Stands, StandsFor}
use Rattle.checkpoint_book.specs.Opened.{core_of}
use Rattle.checkpoint_book.specs.Renew.{Rises, AllFit}
use Rattle.checkpoint_book.specs.Views.{book_of, version_in, cycle_in, FitsMachine, LeadTo, chosen_in, none_free, is_none}
use Rattle.checkpoint_book.proofs.Lengths.{length-marked}
use Rattle.checkpoint_book.proofs.Thins.{extend_few}
use Rattle.checkpoint_book.proofs.Renewals.{chain-rises}

-- what the law says of the fields

pub record Facts {S R : Type 0} (fits : S → Type 0) (first : S) (segs : List (Segment S)) (rows : List R) : Type 0 where
  pub last_fits : fits (last_state first segs)
  pub all_fit : AllFit fits segs
  pub rises : Rises 0 segs
  pub end : last_cycle 0 segs ≡ length rows
  pub drawable : (p : Link → Bool) (f : ℕ × ℕ × S) → first_link p 0 first segs ≡ Some f → IsDrawable fits (length rows) f

pub chain_fits : {S : Type 0} (F : S → Type 0) (J : Link → ℕ → S → ℕ → S → Type 0) (a : ℕ) (s : S) (segs : List (Segment S)) → Chain F J a s segs → AllFit F segs
chain_fits F J a s [] h = tt
chain_fits F J a s (g ∷ gs) h = (chain_head F J g.to g.state gs h.3, chain_fits F J g.to g.state gs h.3)

module _ {D S R O : Type 0} (k : Kit D S R O) where
  pub facts_at : (fits : D → S → Type 0) (b : Option (Book D S R)) (o : Opened D S) (drawn out : ℕ) → InvOf k fits b → Stands b (Some o) drawn out
      → Facts (fits o.version.value.machine.value) o.first o.segs.items (record_in b)
  facts_at fits None o drawn out i s = absurd s
  facts_at fits (Some c) o drawn out i s =
      let m = o.version.value.machine.value in
      let inv : Inv k fits (core_of o c.rows c.tickets c.used) = subst (λ (x : Book D S R). Inv k fits x) s.core i in
      let J = Kept k m c.rows o.version.value.number c.tickets in
      record {
        last_fits = chain_last (fits m) J 0 o.first o.segs.items inv.links;
        all_fit = chain_fits (fits m) J 0 o.first o.segs.items inv.links;
        rises = chain-rises (fits m) J 0 o.first o.segs.items inv.links;
        end = inv.end_is;
        drawable = λ p f e.
            let found = find_found k (fits m) m c.rows o.version.value.number c.tickets p 0 o.first o.segs.items f inv.links e in
            record { rises = found.rises; within = found.within; fit = found.fit };
      }

  pub facts : (fits : D → S → Type 0) (valid : D → D → O → Type 0) → Laws k fits valid → (j : Journal D R O) (o : Opened D S) (drawn out : ℕ) → Legal k valid j.settings j.events
      → Stands (book_of k j) (Some o) drawn out → Facts (fits o.version.value.machine.value) o.first o.segs.items (record_of j.events)
  facts fits valid laws j o drawn out legal s =
      let here = facts_at fits (book_of k j) o drawn out (replay_kept k fits valid laws j.settings None j.events tt legal.follows) s in
      subst (λ (rows : List R). Facts (fits o.version.value.machine.value) o.first o.segs.items rows) (replay_record k valid j.settings None j.events legal.follows) here

  -- the fields, read of the replayed book
  pub cycle_is : (b : Option (Book D S R)) → cycle_in b ≡ length (record_in b)
  cycle_is None = refl
  cycle_is (Some c) = refl

  pub fits_is : (fits : D → S → Type 0) (b : Option (Book D S R)) (o : Opened D S) (drawn out : ℕ) {x : S} → Stands b (Some o) drawn out → fits o.version.value.machine.value x → FitsMachine fits b x
  fits_is fits None o drawn out s f = absurd s
  fits_is fits (Some c) o drawn out {x} s f = subst (λ (y : Book D S R). fits y.machine x) (sym s.core) f

  pub chosen_is_in : (st : Settings) (b : Option (Book D S R)) (o : Opened D S) (drawn out : ℕ) → Stands b (Some o) drawn out → chosen_in st b ≡ chosen (length (record_in b) - st.lookback) 0 o.segs.items
  chosen_is_in st None o drawn out s = absurd s
  chosen_is_in st (Some c) o drawn out s = ap (λ (x : Book D S R). chosen (length c.rows - st.lookback) 0 x.segs) s.core

  -- entries

  pub show_next : (valid : D → D → O → Type 0) (st : Settings) (b : Option (Book D S R)) (o : Opened D S) (drawn out : ℕ) (x : Option ℕ) → Stands b (Some o) drawn out → x ≡ shown o.segs.items
      → MayCome k valid st b (Shows x) × Stands (apply k st b (Shows x)) (Some o) drawn out
  show_next valid st None o drawn out x s e = absurd s
  show_next valid st (Some c) o drawn out x s e = (e ∙ ap (λ (y : Book D S R). shown y.segs) (sym s.core), s)

  pub close_next : (valid : D → D → O → Type 0) (st : Settings) (b : Option (Book D S R)) (o : Option (Opened D S)) (drawn out : ℕ) → Stands b o drawn out
      → MayCome k valid st b Closes × Stands (apply k st b Closes) o drawn out
  close_next valid st None o drawn out s = (tt, s)
  close_next valid st (Some c) o drawn out s = (tt, s)

  pub open_next : (valid : D → D → O → Type 0) (st : Settings) (b : Option (Book D S R)) (o : Option (Opened D S)) (o' : Opened D S) (v : Version D) (drawn out : ℕ)
      → b ≡ None → Stands b o drawn out → v.number ≡ 1 → o'.version.value ≡ v → o'.first ≡ k.start v.machine.value → o'.segs.items ≡ [] → o'.left ≡ left_of o'.segs.items
      → MayCome k valid st b (Opens v.number v.machine.value) × Stands (apply k st b (Opens v.number v.machine.value)) (Some o') drawn out
  open_next valid st b o o' v drawn out none s one version first segs left_is =
      let P : Option (Book D S R) → Type 0 = λ x. Stands x o drawn out → MayCome k valid st x (Opens v.number v.machine.value) × Stands (apply k st x (Opens v.number v.machine.value)) (Some o') drawn out in
      let F : ℕ → D → S → List (Segment S) → Book D S R = λ n m a gs. record { version = n; machine = m; rows = []; first = a; segs = gs; tickets = []; used = [] } in
      let core : opened k v.machine.value ≡ core_of o' [] [] [] =
      ap (λ (n : ℕ). F n v.machine.value (k.start v.machine.value) []) (sym one)
      ∙ ap (λ (x : Version D). F x.number x.machine.value (k.start v.machine.value) []) (sym version)
      ∙ ap (λ (a : S). F o'.version.value.number o'.version.value.machine.value a []) (sym first)
      ∙ ap (λ (gs : List (Segment S)). F o'.version.value.number o'.version.value.machine.value o'.first gs) (sym segs) in
      let here : P None = λ t.
      let z = zeroes o drawn out t in
      (one, record { core = core; tickets = z.0; outs = z.1; few = omega (arith, ap (λ (gs : List (Segment S)). length gs) segs); left_is = left_is }) in
      subst P (sym none) here s
    where
      zeroes : (o : Option (Opened D S)) (drawn out : ℕ) → Stands {R = R} None o drawn out → (drawn ≡ 0) × (out ≡ 0)
      zeroes None drawn out t = t
      zeroes (Some o) drawn out t = absurd t

  pub run_may : (valid : D → D → O → Type 0) (st : Settings) (b : Option (Book D S R)) (o : Opened D S) (drawn out : ℕ) (rows : List R) (n : ℕ) → Stands b (Some o) drawn out → length rows ≡ n → 1 ≤ n
      → MayCome k valid st b (Runs n rows)
  run_may valid st None o drawn out rows n s count some = absurd s
  run_may valid st (Some c) o drawn out rows n s count some = (sym count, omega (arith, some))

  pub run_next : (valid : D → D → O → Type 0) (st : Settings) (b : Option (Book D S R)) (o o' : Opened D S) (drawn out : ℕ) (rows : ℕ × List R) (n : ℕ)
      → Stands b (Some o) drawn out → rows.0 ≡ cycle_in b → length rows.1 ≡ n → 1 ≤ n
      → o'.version ≡ o.version → o'.first ≡ o.first
      → ((before : List R) → length before ≡ rows.0 → o'.segs.items ≡ extend k o.version.value.machine.value (before ++ rows.1) o.segs.items rows.0 (last_state o.first o.segs.items) (grid st.interval rows.0 n))
      → o'.left ≡ left_of o'.segs.items
      → MayCome k valid st b (Runs n rows.1) × Stands (apply k st b (Runs n rows.1)) (Some o') drawn out
  run_next valid st None o o' drawn out rows n s starts count some version first items left_is = absurd s
  run_next valid st (Some c) o o' drawn out rows n s starts count some version first items left_is =
      let x : Book D S R = core_of o c.rows c.tickets c.used in
      let m = o.version.value.machine.value in
      let P : Book D S R → Type 0 = λ y. MayFollow k valid st y (Runs n rows.1) × Stands (Some (step k st y (Runs n rows.1))) (Some o') drawn out in
      let G : Opened D S → S → List (Segment S) → Book D S R = λ p a gs.
      record { version = p.version.value.number; machine = p.version.value.machine.value; rows = c.rows ++ rows.1; first = a; segs = gs; tickets = c.tickets; used = c.used } in
      let E : ℕ → ℕ → List (Segment S) = λ a i. extend k m (c.rows ++ rows.1) o.segs.items a (last_state o.first o.segs.items) (grid st.interval a i) in
      let segs : E (length c.rows) (length rows.1) ≡ o'.segs.items =
      ap (λ (a : ℕ). E a (length rows.1)) (sym starts) ∙ ap (λ (i : ℕ). E rows.0 i) count ∙ sym (items c.rows (sym starts)) in
      let core : step k st x (Runs n rows.1) ≡ core_of o' (c.rows ++ rows.1) c.tickets c.used =
      ap (λ (gs : List (Segment S)). G o o.first gs) segs
      ∙ ap (λ (a : S). G o a o'.segs.items) (sym first)
      ∙ ap (λ (v : Arc (Version D) Global). record { version = v.value.number; machine = v.value.machine.value; rows = c.rows ++ rows.1; first = o'.first; segs = o'.segs.items; tickets = c.tickets; used = c.used }) (sym version) in
      let few : length o'.segs.items < 1024 = subst (λ (l : List (Segment S)). length l < 1024) segs (extend_few k m (c.rows ++ rows.1) o.segs.items (length c.rows) (last_state o.first o.segs.items) (grid st.interval (length c.rows) (length rows.1)) s.few) in
      let after : StandsFor (step k st x (Runs n rows.1)) o' drawn out = record { core = core; tickets = s.tickets; outs = s.outs; few = few; left_is = left_is } in
      let here : P x = ((sym count, omega (arith, some)), after) in
      subst P (sym s.core) here

  pub reload_next : (valid : D → D → O → Type 0) (st : Settings) (b : Option (Book D S R)) (o o' : Opened D S) (drawn out : ℕ) (v : Version D) (ops : O) (from : ℕ)
      → Stands b (Some o) drawn out → v.number ≡ version_in b + 1 → LeadTo valid b v.machine.value ops
      → from ≡ chosen (length (record_in b) - st.lookback) 0 o.segs.items
      → o'.version.value ≡ v → o'.first ≡ k.start v.machine.value
      → o'.segs.items ≡ reloaded k o.version.value.machine.value v.machine.value ops (record_in b) (length (record_in b) - st.lookback) 0 (k.start v.machine.value) o.segs.items
      → length o'.segs.items < 1024 → o'.left ≡ left_of o'.segs.items
      → MayCome k valid st b (Reloads v.number v.machine.value ops from) × Stands (apply k st b (Reloads v.number v.machine.value ops from)) (Some o') drawn out
  reload_next valid st None o o' drawn out v ops from s number lead choice version first items few left_is = absurd s
  reload_next valid st (Some c) o o' drawn out v ops from s number lead choice version first items few left_is =
      let x : Book D S R = core_of o c.rows c.tickets c.used in
      let e : Event D R O = Reloads v.number v.machine.value ops from in
      let P : Book D S R → Type 0 = λ y. MayFollow k valid st y e × Stands (Some (step k st y e)) (Some o') drawn out in
      let F : ℕ → D → S → List (Segment S) → Book D S R = λ n m a gs. record { version = n; machine = m; rows = c.rows; first = a; segs = gs; tickets = c.tickets; used = c.used } in
      let next : o.version.value.number + 1 ≡ v.number = omega (arith, number, ap (λ (y : Book D S R). y.version) s.core) in
      let core : step k st x e ≡ core_of o' c.rows c.tickets c.used =
      ap (λ (n : ℕ). F n v.machine.value (k.start v.machine.value) (step k st x e).segs) next
      ∙ ap (λ (gs : List (Segment S)). F v.number v.machine.value (k.start v.machine.value) gs) (sym items)
      ∙ ap (λ (y : Version D). F y.number y.machine.value (k.start v.machine.value) o'.segs.items) (sym version)
      ∙ ap (λ (a : S). F o'.version.value.number o'.version.value.machine.value a o'.segs.items) (sym first) in
      let after : StandsFor (step k st x e) o' drawn out = record { core = core; tickets = s.tickets; outs = s.outs; few = few; left_is = left_is } in
      let here : P x = ((sym next, subst (λ (y : Book D S R). valid y.machine v.machine.value ops) s.core lead, choice), after) in
      subst P (sym s.core) here

-- numbers used up are of tickets drawn

pub apply_drawn : {D S R O : Type 0} (k : Kit D S R O) (valid : D → D → O → Type 0) (st : Settings) (b : Option (Book D S R)) (e : Event D R O) → UsedAreDrawn b → MayCome k valid st b e → UsedAreDrawn (apply k st b e)
apply_drawn k valid st None (Opens v m) h may = tt
apply_drawn k valid st None (Runs x rows) h may = tt
apply_drawn k valid st None (Reloads v m ops from) h may = tt
apply_drawn k valid st None (Claims n a b by) h may = tt
apply_drawn k valid st None (Installs n j by) h may = tt
apply_drawn k valid st None (Releases n by) h may = tt
apply_drawn k valid st None (Shows s) h may = tt
apply_drawn k valid st None Closes h may = tt
apply_drawn k valid st (Some c) e h may = step_drawn k valid st c e h may

pub replay_drawn : {D S R O : Type 0} (k : Kit D S R O) (valid : D → D → O → Type 0) (st : Settings) (b : Option (Book D S R)) (h : List (Event D R O)) → UsedAreDrawn b → LegalFrom k valid st b h
    → UsedAreDrawn (replay_from k st b h)
replay_drawn k valid st b [] u l = u
replay_drawn k valid st b (e ∷ es) u l = replay_drawn k valid st (apply k st b e) es (apply_drawn k valid st b e u l.0) l.1

pub drew_counts : (by : Who) (n : Counters) → counted (counts n) by ≡ counts (drew_by by n)
drew_counts Session n = refl
drew_counts (Worker w) n = refl

pub drew_fewer : (by : Who) (n : Counters) → n.drawn ≤ n.session + n.workers → (drew_by by n).drawn ≤ (drew_by by n).session + (drew_by by n).workers
drew_fewer Session n le = omega (arith, le)
drew_fewer (Worker w) n le = omega (arith, le)

pub drew_drawn : (by : Who) (n : Counters) → (drew_by by n).drawn ≡ n.drawn + 1
drew_drawn Session n = refl
drew_drawn (Worker w) n = refl

pub drew_out : {D S R : Type 0} (ts : List (DrawnTicket D S R)) (us : List ℕ) (new : DrawnTicket D S R) (by : Who) (n : Counters) → new.by ≡ by → is_among (length ts + 1) us ≡ false → n.out ≡ out_of ts us
    → (drew_by by n).out ≡ out_of (new ∷ ts) us
drew_out ts us new Session n is fresh out = rw is (omega (arith, out))
drew_out ts us new (Worker w) n is fresh out = rw (is, fresh) (omega (arith, out))

pub claim_next : {D S R O : Type 0} (k : Kit D S R O) (valid : D → D → O → Type 0) (st : Settings) (b : Option (Book D S R)) (o o' : Opened D S) (n : Counters) (by : Who) (t : ℕ × DrawnTicket D S R)
    → UsedAreDrawn b → Stands b (Some o) n.drawn n.out → IsDrawnAs k by (n.drawn + 1) (core_of o (record_in b) [] []) (core_of o' (record_in b) [] []) t → o'.left ≡ left_of o'.segs.items
    → MayCome k valid st b (Claims t.0 t.1.a t.1.b by) × Stands (apply k st b (Claims t.0 t.1.a t.1.b by)) (Some o') (drew_by by n).drawn (drew_by by n).out
    × IsOutFor (apply k st b (Claims t.0 t.1.a t.1.b by)) t.0 t.1 by
claim_next k valid st None o o' n by t u s d left_is = absurd s
claim_next {D} {S} {R} {O} k valid st (Some c) o o' n by t u s d left_is =
    let ts = c.tickets in
    let us = c.used in
    let f = d.place in
    let x : Book D S R = core_of o c.rows ts us in
    let new : DrawnTicket D S R = record { by = by; version = x.version; machine = x.machine; a = f.0; b = f.1; rows = slice c.rows f.0 f.1; start = f.2 } in
    let number : n.drawn + 1 ≡ length ts + 1 = ap (λ (i : ℕ). i + 1) s.tickets in
    let e : Event D R O = Claims t.0 t.1.a t.1.b by in
    let P : Book D S R → Type 0 = λ y. MayFollow k valid st y e × Stands (Some (step k st y e)) (Some o') (drew_by by n).drawn (drew_by by n).out × IsOutFor (Some (step k st y e)) t.0 t.1 by in
    let Q : Option (ℕ × ℕ × S) → Type 0 = λ r. Stands (Some (claim_found x by r)) (Some o') (drew_by by n).drawn (drew_by by n).out × IsOutFor (Some (claim_found x by r)) t.0 t.1 by in
    let marked : core_of o' c.rows [] [] ≡ with_segs (core_of o c.rows [] []) (mark_out (takes by) (length ts + 1) x.segs) =
    d.book ∙ ap (λ (i : ℕ). with_segs (core_of o c.rows [] []) (mark_out (takes by) i x.segs)) number in
    let core : claim_found x by (Some f) ≡ core_of o' c.rows (new ∷ ts) us =
    ap (λ (y : Book D S R). record { version = y.version; machine = y.machine; rows = y.rows; first = y.first; segs = y.segs; tickets = new ∷ ts; used = us }) (sym marked) in
    let not_used : is_among (length ts + 1) us ≡ false = fresh (length ts) us u in
    let newest : drawn t.0 (new ∷ ts) ≡ Some t.1 =
    ap (λ (i : ℕ). drawn i (new ∷ ts)) (d.number_is ∙ number) ∙ drawn_newest new ts ∙ ap (λ (y : DrawnTicket D S R). Some y) (sym d.ticket) in
    let after : StandsFor (claim_found x by (Some f)) o' (drew_by by n).drawn (drew_by by n).out =
    record {
      core = core;
      tickets = drew_drawn by n ∙ omega (arith, number);
      outs = drew_out ts us new by n refl not_used s.outs;
      few = omega (arith, s.few, ap (λ (y : Book D S R). length y.segs) marked, length-marked (takes by) (length ts + 1) x.segs);
      left_is = left_is;
    } in
    let here : Q (Some f) = (
      after,
      (newest, ap (λ (y : DrawnTicket D S R). y.by) d.ticket, subst (λ (i : ℕ). is_among i us ≡ false) (sym (d.number_is ∙ number)) not_used),
    ) in
    let all : Q (first_link (takes by) 0 x.first x.segs) = subst Q (sym d.found) here in
    let place : first_link (takes by) 0 x.first x.segs ≡ Some (t.1.a, t.1.b, f.2) = d.found ∙ ap (λ (y : DrawnTicket D S R). Some (y.a, y.b, f.2)) (sym d.ticket) in
    let q : P x = ((d.number_is ∙ number, (f.2, place)), all.0, all.1) in
    subst P (sym s.core) q

pub none_free_is : {D S R : Type 0} (by : Who) (b : Option (Book D S R)) (o : Opened D S) (drawn out : ℕ) → Stands b (Some o) drawn out → none_free by b ≡ is_none (first_link (takes by) 0 o.first o.segs.items)
none_free_is by None o drawn out s = absurd s
none_free_is {D} {S} {R} by (Some c) o drawn out s = ap (λ (x : Book D S R). is_none (first_link (takes by) 0 x.first x.segs)) s.core

pub tickets_are : {D S R : Type 0} (b : Option (Book D S R)) (o : Option (Opened D S)) (drawn out : ℕ) → Stands b o drawn out → drawn ≡ tickets_drawn b
tickets_are None None drawn out s = s.0
tickets_are None (Some o) drawn out s = absurd s
tickets_are (Some c) None drawn out s = absurd s
tickets_are (Some c) (Some o) drawn out s = s.tickets

pub all_false : {a b c : Bool} → a ≡ false → b ≡ false → c ≡ false → a || b || c ≡ false
all_false {a} {b} {c} x y z = rw (x, y, z) refl
