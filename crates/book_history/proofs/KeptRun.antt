-- opening, runs and reloads keep the invariant
use Rattle.std.proofs.Common.{◌≡◌, ℕ, zero, suc, ◌+◌, ◌-◌, ◌%◌, ◌≤◌, ◌<◌, List, [], ◌∷◌, ◌++◌, length, refl, sym, ◌∙◌, ap, subst, arith, eqb, leb, length-append}
use Rattle.std.proofs.lemmas.Bool.{cond_both}
use Rattle.machine.specs.Kit.{Kit, Laws}
use Rattle.book_history.specs.declared.link.Link.{Link}
use Rattle.book_history.specs.declared.link.Link.TheVariants.{Open, Out, Joined}
use Rattle.book_history.specs.Book.{Segment, DrawnTicket, Book, Settings, slice, last_cycle, last_state, cycles, thin, add_mark, extend, grid, simulated, reloaded, run_by, reload_to}
use Rattle.book_history.specs.Truth.{Chain}
use Rattle.book_history.proofs.Slices.{slice_grows}
use Rattle.book_history.proofs.Kept.{Kept, TicketIsKept, each_map, Inv, chain_head, chain_last, chain_map, chain_snoc, last_cycle-snoc, last_state-snoc, last_cycle-thin, last_state-thin, thin_chain}

-- cycles that rise from a, up to top
abbrev pub Rising : ℕ → List ℕ → ℕ → Type 0
Rising a [] top = Unit {0}
Rising a (c ∷ cs) top = (a < c) × (c ≤ top) × Rising c cs top

abbrev pub last_of : ℕ → List ℕ → ℕ
last_of a [] = a
last_of a (c ∷ cs) = last_of c cs

pub rising_from : (a b : ℕ) (cs : List ℕ) (top : ℕ) → a ≤ b → Rising b cs top → Rising a cs top
rising_from a b [] top le h = tt
rising_from a b (c ∷ cs) top le h = (omega (arith, h.0), h.1, h.2)

-- the grid

pub grid_rises : (interval c n : ℕ) → Rising c (grid interval c n) (c + n)
grid_rises interval c zero = tt
grid_rises interval c (suc zero) = (omega arith, omega arith, tt)
grid_rises interval c (suc (suc n)) =
    let top : (c + 1) + suc n ≡ c + suc (suc n) = omega arith in
    let rest : Rising (c + 1) (grid interval (c + 1) (suc n)) (c + suc (suc n)) =
    subst (λ (t : ℕ). Rising (c + 1) (grid interval (c + 1) (suc n)) t) top (grid_rises interval (c + 1) (suc n)) in
    cond_both
    (eqb ((c + 1) % interval) 0)
    ((c + 1) ∷ grid interval (c + 1) (suc n))
    (grid interval (c + 1) (suc n))
    (λ cs. Rising c cs (c + suc (suc n)))
    (λ _. (omega arith, omega arith, rest))
    (λ _. rising_from c (c + 1) (grid interval (c + 1) (suc n)) (c + suc (suc n)) (omega arith) rest)

-- wherever one begins
pub grid_ends_from : (interval a c n : ℕ) → last_of a (grid interval c (suc n)) ≡ c + suc n
grid_ends_from interval a c zero = omega arith
grid_ends_from interval a c (suc n) =
    let top : (c + 1) + suc n ≡ c + suc (suc n) = omega arith in
    cond_both
    (eqb ((c + 1) % interval) 0)
    ((c + 1) ∷ grid interval (c + 1) (suc n))
    (grid interval (c + 1) (suc n))
    (λ cs. last_of a cs ≡ c + suc (suc n))
    (λ _. grid_ends_from interval (c + 1) (c + 1) n ∙ top)
    (λ _. grid_ends_from interval a (c + 1) n ∙ top)

pub grid_ends : (interval c n : ℕ) → last_of c (grid interval c n) ≡ c + n
grid_ends interval c zero = omega arith
grid_ends interval c (suc n) = grid_ends_from interval c c n

-- a run

pub record Reaches {D S R O : Type 0} (k : Kit D S R O) (fits : D → S → Type 0) (m : D) (rows : List R) (v : ℕ) (ts : List (DrawnTicket D S R)) (first : S) (segs : List (Segment S)) (a : ℕ) (s : S) : Type 0 where
  pub links : Chain (fits m) (Kept k m rows v ts) 0 first segs
  pub cycle_is : last_cycle 0 segs ≡ a
  pub state_is : last_state first segs ≡ s

pub add_reaches : {D S R O : Type 0} (k : Kit D S R O) (fits : D → S → Type 0) (valid : D → D → O → Type 0) → Laws k fits valid
    → (m : D) (rows : List R) (v : ℕ) (ts : List (DrawnTicket D S R)) (first : S) (segs : List (Segment S)) (a : ℕ) (s : S) (c : ℕ)
    → Reaches k fits m rows v ts first segs a s → a < c → c ≤ length rows
    → Reaches k fits m rows v ts first (add_mark segs (record { link = Joined; to = c; state = k.seg m (slice rows a c) s })) c (k.seg m (slice rows a c) s)
add_reaches {D} {S} {R} {O} k fits valid laws m rows v ts first segs a s c h lt within =
    let e : S = k.seg m (slice rows a c) s in
    let g : Segment S = record { link = Joined; to = c; state = e } in
    let f : fits m s = subst (λ (x : S). fits m x) h.state_is (chain_last (fits m) (Kept k m rows v ts) 0 first segs h.links) in
    let lt' : last_cycle 0 segs < c = omega (arith, h.cycle_is) in
    let j : Kept k m rows v ts Joined (last_cycle 0 segs) (last_state first segs) c e =
    (within, ap (λ (i : ℕ). k.seg m (slice rows i c) (last_state first segs)) h.cycle_is ∙ ap (λ (x : S). k.seg m (slice rows a c) x) h.state_is) in
    let more : Chain (fits m) (Kept k m rows v ts) 0 first (segs ++ g ∷ []) =
    chain_snoc (fits m) (Kept k m rows v ts) 0 first segs g h.links (laws.seg_fits m (slice rows a c) s f) lt' j in
    cond_both
    (eqb (length segs + 2) 1025)
    (thin (segs ++ g ∷ []))
    (segs ++ g ∷ [])
    (λ x. Reaches k fits m rows v ts first x c e)
    (λ _. record {
      links = thin_chain k fits valid laws m rows v ts 0 first (segs ++ g ∷ []) more;
      cycle_is = last_cycle-thin 0 (segs ++ g ∷ []) ∙ last_cycle-snoc 0 segs g;
      state_is = last_state-thin first (segs ++ g ∷ []) ∙ last_state-snoc first segs g;
    })
    (λ _. record {
      links = more;
      cycle_is = last_cycle-snoc 0 segs g;
      state_is = last_state-snoc first segs g;
    })

pub extend_reaches : {D S R O : Type 0} (k : Kit D S R O) (fits : D → S → Type 0) (valid : D → D → O → Type 0) → Laws k fits valid
    → (m : D) (rows : List R) (v : ℕ) (ts : List (DrawnTicket D S R)) (first : S) (segs : List (Segment S)) (a : ℕ) (s : S) (cs : List ℕ)
    → Reaches k fits m rows v ts first segs a s → Rising a cs (length rows)
    → (e : S) × Reaches k fits m rows v ts first (extend k m rows segs a s cs) (last_of a cs) e
extend_reaches k fits valid laws m rows v ts first segs a s [] h r = (s, h)
extend_reaches k fits valid laws m rows v ts first segs a s (c ∷ cs) h r =
    extend_reaches k fits valid laws m rows v ts first
    (add_mark segs (record { link = Joined; to = c; state = k.seg m (slice rows a c) s })) c (k.seg m (slice rows a c) s) cs
    (add_reaches k fits valid laws m rows v ts first segs a s c h r.0 r.1) r.2

-- more rows leave what was kept

pub kept_grows : {D S R O : Type 0} (k : Kit D S R O) (m : D) (rows more : List R) (v : ℕ) (ts : List (DrawnTicket D S R))
    (l : Link) (a : ℕ) (s : S) (b : ℕ) (e : S) → a < b → Kept k m rows v ts l a s b e → Kept k m (rows ++ more) v ts l a s b e
kept_grows k m rows more v ts Open a s b e lt h = (omega (arith, h.0, length-append rows more), tt)
kept_grows k m rows more v ts (Out n) a s b e lt h = (omega (arith, h.0, length-append rows more), h.1)
kept_grows k m rows more v ts Joined a s b e lt h =
    (omega (arith, h.0, length-append rows more), ap (λ r. k.seg m r s) (slice_grows rows more a b (omega arith) h.0) ∙ h.1)

pub ticket_grows : {D S R : Type 0} (fits : D → S → Type 0) (m : D) (rows more : List R) (v : ℕ) (t : DrawnTicket D S R)
    → TicketIsKept fits m rows v t → TicketIsKept fits m (rows ++ more) v t
ticket_grows fits m rows more v t h =
    record {
      rises = h.rises;
      within = omega (arith, h.within, length-append rows more);
      rows_are = h.rows_are ∙ sym (slice_grows rows more t.a t.b (omega (arith, h.rises)) h.within);
      no_newer = h.no_newer;
      machine_is = h.machine_is;
      fit = h.fit;
    }

pub run_kept : {D S R O : Type 0} (k : Kit D S R O) (fits : D → S → Type 0) (valid : D → D → O → Type 0) → Laws k fits valid
    → (st : Settings) (c : Book D S R) (rows : List R) → Inv k fits c → Inv k fits (run_by k st c rows)
run_kept {D} {S} k fits valid laws st c rows h =
    let all = c.rows ++ rows in
    let len : length all ≡ length c.rows + length rows = length-append c.rows rows in
    let before : Reaches k fits c.machine all c.version c.tickets c.first c.segs (length c.rows) (last_state c.first c.segs) =
    record {
      links = chain_map (fits c.machine) (Kept k c.machine c.rows c.version c.tickets) (Kept k c.machine all c.version c.tickets) 0 c.first c.segs
          (kept_grows k c.machine c.rows rows c.version c.tickets) h.links;
      cycle_is = h.end_is;
      state_is = refl;
    } in
    let cs = grid st.interval (length c.rows) (length rows) in
    let rising : Rising (length c.rows) cs (length all) =
    subst (λ (t : ℕ). Rising (length c.rows) cs t) (sym len) (grid_rises st.interval (length c.rows) (length rows)) in
    let after = extend_reaches k fits valid laws c.machine all c.version c.tickets c.first c.segs (length c.rows) (last_state c.first c.segs) cs before rising in
    record {
      first_is = h.first_is;
      end_is = after.1.cycle_is ∙ grid_ends st.interval (length c.rows) (length rows) ∙ sym len;
      links = after.1.links;
      tickets = each_map (TicketIsKept fits c.machine c.rows c.version) (TicketIsKept fits c.machine all c.version) c.tickets
          (ticket_grows fits c.machine c.rows rows c.version) h.tickets;
    }

-- a reload

pub simulated_chain : {D S R O : Type 0} (k : Kit D S R O) (fits : D → S → Type 0) (valid : D → D → O → Type 0) → Laws k fits valid
    → (m : D) (rows : List R) (v : ℕ) (ts : List (DrawnTicket D S R)) (a : ℕ) (s : S) (cs : List ℕ)
    → fits m s → Rising a cs (length rows) → Chain (fits m) (Kept k m rows v ts) a s (simulated k m rows a s cs)
simulated_chain k fits valid laws m rows v ts a s [] f r = f
simulated_chain k fits valid laws m rows v ts a s (c ∷ cs) f r = (
  f,
  r.0,
  (r.1, refl),
  simulated_chain k fits valid laws m rows v ts c (k.seg m (slice rows a c) s) cs (laws.seg_fits m (slice rows a c) s f) r.2,
)

pub simulated_ends : {D S R O : Type 0} (k : Kit D S R O) (m : D) (rows : List R) (a : ℕ) (s : S) (cs : List ℕ) → last_cycle a (simulated k m rows a s cs) ≡ last_of a cs
simulated_ends k m rows a s [] = refl
simulated_ends k m rows a s (c ∷ cs) = simulated_ends k m rows c (k.seg m (slice rows a c) s) cs

pub cycles_end : {S : Type 0} (a : ℕ) (segs : List (Segment S)) → last_of a (cycles segs) ≡ last_cycle a segs
cycles_end a [] = refl
cycles_end a (g ∷ gs) = cycles_end g.to gs

pub cycles_rise : {D S R O : Type 0} (k : Kit D S R O) (F : S → Type 0) (m : D) (rows : List R) (v : ℕ) (ts : List (DrawnTicket D S R)) (a : ℕ) (s : S) (segs : List (Segment S))
    → Chain F (Kept k m rows v ts) a s segs → Rising a (cycles segs) (length rows)
cycles_rise k F m rows v ts a s [] h = tt
cycles_rise k F m rows v ts a s (g ∷ gs) h = (h.1, h.2.0, cycles_rise k F m rows v ts g.to g.state gs h.3)

pub reloaded_chain : {D S R O : Type 0} (k : Kit D S R O) (fits : D → S → Type 0) (valid : D → D → O → Type 0) → Laws k fits valid
    → (old new : D) (ops : O) → valid old new ops → (rows : List R) (v : ℕ) (ts : List (DrawnTicket D S R)) (limit a : ℕ) (s0 s : S) (segs : List (Segment S))
    → fits new s → Chain (fits old) (Kept k old rows v ts) a s0 segs
    → Chain (fits new) (Kept k new rows (v + 1) ts) a s (reloaded k old new ops rows limit a s segs)
reloaded_chain k fits valid laws old new ops ok rows v ts limit a s0 s [] f h = f
reloaded_chain {D} {S} k fits valid laws old new ops ok rows v ts limit a s0 s (g ∷ gs) f h =
    let e : S = k.carried old new ops g.state in
    let fe : fits new e = laws.carried_fits old new ops g.state ok (chain_head (fits old) (Kept k old rows v ts) g.to g.state gs h.3) in
    cond_both
    (leb g.to limit)
    (record { link = Open; to = g.to; state = e } ∷ reloaded k old new ops rows limit g.to e gs)
    (simulated k new rows a s (g.to ∷ cycles gs))
    (λ x. Chain (fits new) (Kept k new rows (v + 1) ts) a s x)
    (λ _. (f, h.1, (h.2.0, tt), reloaded_chain k fits valid laws old new ops ok rows v ts limit g.to g.state e gs fe h.3))
    (λ _. simulated_chain k fits valid laws new rows (v + 1) ts a s (g.to ∷ cycles gs) f (cycles_rise k (fits old) old rows v ts a s0 (g ∷ gs) h))

pub reloaded_ends : {D S R O : Type 0} (k : Kit D S R O) (old new : D) (ops : O) (rows : List R) (limit a : ℕ) (s : S) (segs : List (Segment S))
    → last_cycle a (reloaded k old new ops rows limit a s segs) ≡ last_cycle a segs
reloaded_ends k old new ops rows limit a s [] = refl
reloaded_ends {D} {S} k old new ops rows limit a s (g ∷ gs) =
    let e : S = k.carried old new ops g.state in
    cond_both
    (leb g.to limit)
    (record { link = Open; to = g.to; state = e } ∷ reloaded k old new ops rows limit g.to e gs)
    (simulated k new rows a s (g.to ∷ cycles gs))
    (λ x. last_cycle a x ≡ last_cycle a (g ∷ gs))
    (λ _. reloaded_ends k old new ops rows limit g.to e gs)
    (λ _. simulated_ends k new rows a s (g.to ∷ cycles gs) ∙ cycles_end a (g ∷ gs))

pub ticket_older : {D S R : Type 0} (fits : D → S → Type 0) (m n : D) (rows : List R) (v : ℕ) (t : DrawnTicket D S R)
    → TicketIsKept fits m rows v t → TicketIsKept fits n rows (v + 1) t
ticket_older fits m n rows v t h =
    record {
      rises = h.rises;
      within = h.within;
      rows_are = h.rows_are;
      no_newer = omega (arith, h.no_newer);
      machine_is = λ e. absurd (omega (arith, e, h.no_newer));
      fit = h.fit;
    }

pub reload_kept : {D S R O : Type 0} (k : Kit D S R O) (fits : D → S → Type 0) (valid : D → D → O → Type 0) → Laws k fits valid
    → (st : Settings) (c : Book D S R) (m : D) (ops : O) → valid c.machine m ops → Inv k fits c → Inv k fits (reload_to k st c m ops)
reload_kept k fits valid laws st c m ops ok h =
    record {
      first_is = refl;
      end_is = reloaded_ends k c.machine m ops c.rows (length c.rows - st.lookback) 0 (k.start m) c.segs ∙ h.end_is;
      links = reloaded_chain k fits valid laws c.machine m ops ok c.rows c.version c.tickets (length c.rows - st.lookback) 0 c.first (k.start m) c.segs
          (laws.start_fits m) h.links;
      tickets = each_map (TicketIsKept fits c.machine c.rows c.version) (TicketIsKept fits m c.rows (c.version + 1)) c.tickets
          (ticket_older fits c.machine m c.rows c.version) h.tickets;
    }
