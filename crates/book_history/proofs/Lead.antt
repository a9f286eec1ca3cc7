-- lead and settled_to fall only at a reload and at a run that thins
use Rattle.std.proofs.Common.{◌≡◌, ℕ, ◌+◌, ◌≤◌, ◌<◌, List, [], ◌∷◌, ◌++◌, length, refl, sym, ◌∙◌, ap, subst, arith, true, false, eqb, eqb-true, append_assoc, append-nil, length-append, if◌then◌else◌}
use Rattle.std.specs.Prelude.{Option, Some, None}
use Rattle.std.proofs.lemmas.Bool.{cond_both, cond-false, ne_eqb}
use Rattle.machine.specs.Kit.{Kit, Laws}
use Rattle.book_history.specs.declared.who.Who.{Who}
use Rattle.book_history.specs.declared.who.Who.TheVariants.{Session, Worker}
use Rattle.book_history.specs.declared.link.Link.{Link}
use Rattle.book_history.specs.declared.link.Link.TheVariants.{Open, Out, Joined}
use Rattle.book_history.specs.Book.{Segment, DrawnTicket, Book, Settings, Event, Opens, Runs, Reloads, Claims, Installs, Releases, Shows, Closes, slice, drawn, last_cycle, last_state, takes, first_link, mark_out, matches, is_current, reopen, joined, freed, free_link, thin, add_mark, extend, grid, simulated, settled_to, settled_past, result_of, with_segs, install_found, claim_found, step, replay}
use Rattle.book_history.specs.Truth.{Chain}
use Rattle.book_history.specs.Legal.{Follows}
use Rattle.book_history.specs.Law.{Further, ThinsNot, FallsNot, LeadFallsNot}
use Rattle.book_history.proofs.Kept.{Kept, TicketIsKept, Inv, chain_head}
use Rattle.book_history.proofs.KeptRun.{last_of, grid_ends}
use Rattle.book_history.proofs.KeptInstall.{Same, matches_same, if_true, each_drawn}
use Rattle.book_history.proofs.Law.{InvOf, replay_kept}
use Rattle.book_history.proofs.Currents.{legal_at}

pub further_same : {S : Type 0} (a : ℕ) (segs : List (Segment S)) → Further a segs segs
further_same a segs = record { leads = omega arith; settles = omega arith }

-- one link more
pub further_past : {S : Type 0} (a : ℕ) (l : Link) (b : ℕ) (e : S) (old new : List (Segment S)) → Further b old new
    → Further a (record { link = l; to = b; state = e } ∷ old) (record { link = l; to = b; state = e } ∷ new)
further_past a Open b e old new f = record { leads = omega arith; settles = omega arith }
further_past a (Out n) b e old new f = record { leads = omega arith; settles = omega arith }
further_past a Joined b e old new f = record { leads = omega (arith, f.leads); settles = f.settles }

-- a link that isn't joined leads nowhere
pub further_open : {S : Type 0} (a : ℕ) (b : ℕ) (e : S) (l : Link) (old new : List (Segment S)) → (l ≡ Joined → ⊥) → a ≤ settled_to a new
    → Further a (record { link = l; to = b; state = e } ∷ old) new
further_open a b e Open old new unjoined le = record { leads = omega arith; settles = le }
further_open a b e (Out n) old new unjoined le = record { leads = omega arith; settles = le }
further_open a b e Joined old new unjoined le = absurd (unjoined refl)

pub settled_rises : {S : Type 0} (F : S → Type 0) (J : Link → ℕ → S → ℕ → S → Type 0) (a : ℕ) (s : S) (segs : List (Segment S)) → Chain F J a s segs → a ≤ settled_to a segs
settled_rises F J a s [] h = omega arith
settled_rises F J a s (g ∷ gs) h = go g.link (settled_rises F J g.to g.state gs h.3)
  where
    go : (l : Link) → g.to ≤ settled_to g.to gs → a ≤ settled_past l a (settled_to g.to gs)
    go Open ih = omega arith
    go (Out n) ih = omega arith
    go Joined ih = omega (arith, h.1)

-- a claim

pub takes_unjoined : (by : Who) (l : Link) → takes by l ≡ true → l ≡ Joined → ⊥
takes_unjoined Session Open e j = cc
takes_unjoined Session (Out n) e j = cc
takes_unjoined Session Joined e j = cc
takes_unjoined (Worker w) Open e j = cc
takes_unjoined (Worker w) (Out n) e j = cc
takes_unjoined (Worker w) Joined e j = cc

pub out_further : {S : Type 0} (by : Who) (n a : ℕ) (segs : List (Segment S)) → Further a segs (mark_out (takes by) n segs)
out_further by n a [] = further_same a []
out_further by n a (g ∷ gs) =
    cond_both
    (takes by g.link)
    (record { link = Out n; to = g.to; state = g.state } ∷ gs)
    (g ∷ mark_out (takes by) n gs)
    (λ x. Further a (g ∷ gs) x)
    (λ is. further_open a g.to g.state g.link gs (record { link = Out n; to = g.to; state = g.state } ∷ gs) (takes_unjoined by g.link is) (omega arith))
    (λ _. further_past a g.link g.to g.state gs (mark_out (takes by) n gs) (out_further by n g.to gs))

pub claim_further : {D S R : Type 0} (c : Book D S R) (by : Who) (o : Option (ℕ × ℕ × S)) → Further 0 c.segs (claim_found c by o).segs
claim_further c by None = further_same 0 c.segs
claim_further c by (Some f) = out_further by (length c.tickets + 1) 0 c.segs

-- a release

pub freed_further : {S : Type 0} (n a : ℕ) (segs : List (Segment S)) → Further a segs (freed n segs)
freed_further n a [] = further_same a []
freed_further {S} n a (g ∷ gs) = go g.link (freed_further n g.to gs)
  where
    go : (l : Link) → Further g.to gs (freed n gs)
        → Further a (record { link = l; to = g.to; state = g.state } ∷ gs) (record { link = free_link n l; to = g.to; state = g.state } ∷ freed n gs)
    go Open ih = record { leads = omega arith; settles = omega arith }
    go (Out i) ih =
        cond_both (eqb i n) Open (Out i)
        (λ l. Further a (record { link = Out i; to = g.to; state = g.state } ∷ gs) (record { link = l; to = g.to; state = g.state } ∷ freed n gs))
        (λ _. record { leads = omega arith; settles = omega arith })
        (λ _. record { leads = omega arith; settles = omega arith })
    go Joined ih = record { leads = omega (arith, ih.leads); settles = ih.settles }

-- an install

pub joined_further : {D S R O : Type 0} (k : Kit D S R O) (fits : D → S → Type 0) (valid : D → D → O → Type 0) → Laws k fits valid
    → (m : D) (rows : List R) (v : ℕ) (ts : List (DrawnTicket D S R)) (t : DrawnTicket D S R) (r : S)
    → fits m t.start → k.seg m (slice rows t.a t.b) t.start ≡ r
    → (a : ℕ) (s : S) (segs : List (Segment S))
    → Chain (fits m) (Kept k m rows v ts) a s segs → Further a segs (joined k m t r a s segs)
joined_further k fits valid laws m rows v ts t r ft is a s [] h = further_same a []
joined_further {D} {S} k fits valid laws m rows v ts t r ft is a s (g ∷ gs) h =
    let fr : fits m r = subst (λ (x : S). fits m x) is (laws.seg_fits m (slice rows t.a t.b) t.start ft) in
    let fg : fits m g.state = chain_head (fits m) (Kept k m rows v ts) g.to g.state gs h.3 in
    cond_both
    (matches k m t a s g)
    (if k.alike m r g.state
    then record { link = Joined; to = g.to; state = g.state } ∷ gs
    else record { link = Joined; to = g.to; state = r } ∷ reopen gs)
    (g ∷ joined k m t r g.to g.state gs)
    (λ x. Further a (g ∷ gs) x)
    (λ found.
    let same : Same t a s g.to = matches_same k fits valid laws m t a s g h.0 ft found in
    let run : k.seg m (slice rows a g.to) s ≡ r = rw (same.a_is, same.b_is, same.s_is) is in
    cond_both
    (k.alike m r g.state)
    (record { link = Joined; to = g.to; state = g.state } ∷ gs)
    (record { link = Joined; to = g.to; state = r } ∷ reopen gs)
    (λ x. Further a (g ∷ gs) x)
    (λ _. joins g.link (settled_rises (fits m) (Kept k m rows v ts) g.to g.state gs h.3))
    (λ differs. further_open a g.to g.state g.link gs (record { link = Joined; to = g.to; state = r } ∷ reopen gs)
    (λ j.
    let old : Kept k m rows v ts Joined a s g.to g.state = subst (λ (l : Link). Kept k m rows v ts l a s g.to g.state) j h.2 in
    let alike : k.alike m r g.state ≡ true = (laws.alike_is m r g.state fr fg).1 (sym run ∙ old.1) in
    cc)
    (omega (arith, h.1, opens g.to gs))))
    (λ _. further_past a g.link g.to g.state gs (joined k m t r g.to g.state gs) (joined_further k fits valid laws m rows v ts t r ft is g.to g.state gs h.3))
  where
    joins : (l : Link) → g.to ≤ settled_to g.to gs
        → Further a (record { link = l; to = g.to; state = g.state } ∷ gs) (record { link = Joined; to = g.to; state = g.state } ∷ gs)
    joins Open le = record { leads = omega arith; settles = omega (arith, le, h.1) }
    joins (Out n) le = record { leads = omega arith; settles = omega (arith, le, h.1) }
    joins Joined le = further_same a (record { link = Joined; to = g.to; state = g.state } ∷ gs)

    opens : (b : ℕ) (xs : List (Segment S)) → settled_to b (reopen xs) ≡ b
    opens b [] = refl
    opens b (x ∷ xs) = refl

pub install_further : {D S R O : Type 0} (k : Kit D S R O) (fits : D → S → Type 0) (valid : D → D → O → Type 0) → Laws k fits valid
    → (c : Book D S R) (n : ℕ) (o : Option (DrawnTicket D S R)) → drawn n c.tickets ≡ o → Inv k fits c → Further 0 c.segs (install_found k c n o).segs
install_further k fits valid laws c n None is h = further_same 0 c.segs
install_further {D} {S} {R} k fits valid laws c n (Some t) is h =
    let kept : TicketIsKept fits c.machine c.rows c.version t = each_drawn (TicketIsKept fits c.machine c.rows c.version) n c.tickets t is h.tickets in
    let r : S = result_of k t in
    cond_both
    (is_current k c t)
    (with_segs c (joined k c.machine t r 0 c.first c.segs))
    c
    (λ x. Further 0 c.segs x.segs)
    (λ current.
    let version : t.version ≡ c.version = eqb-true t.version c.version ((if_true (eqb t.version c.version) _ current).0) in
    let m_is : t.machine ≡ c.machine = kept.machine_is version in
    let run : k.seg c.machine (slice c.rows t.a t.b) t.start ≡ r = rw (← m_is, ← kept.rows_are) in
    let ft : fits c.machine t.start = subst (λ (m : D). fits m t.start) m_is kept.fit in
    joined_further k fits valid laws c.machine c.rows c.version c.tickets t r ft run 0 c.first c.segs h.links)
    (λ _. further_same 0 c.segs)

-- a run

pub append_further : {S : Type 0} (F : S → Type 0) (J : Link → ℕ → S → ℕ → S → Type 0) (a : ℕ) (s : S) (segs more : List (Segment S)) → Chain F J a s segs
    → last_cycle a segs ≤ settled_to (last_cycle a segs) more → Further a segs (segs ++ more)
append_further F J a s [] more h le = record { leads = omega arith; settles = le }
append_further F J a s (g ∷ gs) more h le = further_past a g.link g.to g.state gs (gs ++ more) (append_further F J g.to g.state gs more h.3 le)

pub simulated_settles : {D S R O : Type 0} (k : Kit D S R O) (m : D) (rows : List R) (a : ℕ) (s : S) (cs : List ℕ)
    → settled_to a (simulated k m rows a s cs) ≡ last_of a cs
simulated_settles k m rows a s [] = refl
simulated_settles k m rows a s (c ∷ cs) = simulated_settles k m rows c (k.seg m (slice rows a c) s) cs

pub extend_plain : {D S R O : Type 0} (k : Kit D S R O) (m : D) (rows : List R) (segs : List (Segment S)) (a : ℕ) (s : S) (cs : List ℕ)
    → length segs + 1 + length cs < 1025 → extend k m rows segs a s cs ≡ segs ++ simulated k m rows a s cs
extend_plain k m rows segs a s [] few = sym (append-nil segs)
extend_plain {D} {S} k m rows segs a s (c ∷ cs) few =
    let e : S = k.seg m (slice rows a c) s in
    let g : Segment S = record { link = Joined; to = c; state = e } in
    let not : eqb (length segs + 2) 1025 ≡ false = ne_eqb (length segs + 2) 1025 (omega arith) in
    let len : length (segs ++ g ∷ []) ≡ length segs + 1 = length-append segs (g ∷ []) in
    let plain : add_mark segs g ≡ segs ++ g ∷ [] = cond-false (eqb (length segs + 2) 1025) (thin (segs ++ g ∷ [])) (segs ++ g ∷ []) not in
    ap (λ (x : List (Segment S)). extend k m rows x c e cs) plain
    ∙ extend_plain k m rows (segs ++ g ∷ []) c e cs (omega arith)
    ∙ append_assoc segs (g ∷ []) (simulated k m rows c e cs)

pub run_further : {D S R O : Type 0} (k : Kit D S R O) (fits : D → S → Type 0) (st : Settings) (c : Book D S R) (x : ℕ) (rows : List R)
    → Inv k fits c → ThinsNot st c rows → Further 0 c.segs (step k st c (Runs x rows)).segs
run_further {D} {S} {R} k fits st c x rows h few =
    let cs = grid st.interval (length c.rows) (length rows) in
    let s = last_state c.first c.segs in
    let plain = extend_plain k c.machine (c.rows ++ rows) c.segs (length c.rows) s cs few in
    let more = simulated k c.machine (c.rows ++ rows) (length c.rows) s cs in
    let ends : settled_to (length c.rows) more ≡ length c.rows + length rows =
    simulated_settles k c.machine (c.rows ++ rows) (length c.rows) s cs ∙ grid_ends st.interval (length c.rows) (length rows) in
    let le : last_cycle 0 c.segs ≤ settled_to (last_cycle 0 c.segs) more =
    subst (λ (i : ℕ). i ≤ settled_to i more) (sym h.end_is) (omega (arith, ends)) in
    subst (λ (x : List (Segment S)). Further 0 c.segs x) (sym plain)
    (append_further (fits c.machine) (Kept k c.machine c.rows c.version c.tickets) 0 c.first c.segs more h.links le)

pub step_falls_not : {D S R O : Type 0} (k : Kit D S R O) (fits : D → S → Type 0) (valid : D → D → O → Type 0) → Laws k fits valid
    → (st : Settings) (c : Book D S R) (e : Event D R O) → Inv k fits c → FallsNot k st c e
step_falls_not k fits valid laws st c (Opens v m) h = tt
step_falls_not k fits valid laws st c (Runs x rows) h = run_further k fits st c x rows h
step_falls_not k fits valid laws st c (Reloads v m ops from) h = tt
step_falls_not k fits valid laws st c (Claims n a b by) h = claim_further c by (first_link (takes by) 0 c.first c.segs)
step_falls_not k fits valid laws st c (Installs n j by) h = install_further k fits valid laws c n (drawn n c.tickets) refl h
step_falls_not k fits valid laws st c (Releases n by) h = freed_further n 0 c.segs
step_falls_not k fits valid laws st c (Shows s) h = further_same 0 c.segs
step_falls_not k fits valid laws st c Closes h = further_same 0 c.segs

pub falls_not : {D S R O : Type 0} (k : Kit D S R O) (fits : D → S → Type 0) (valid : D → D → O → Type 0) → Laws k fits valid
    → (st : Settings) (b : Option (Book D S R)) (e : Event D R O) → InvOf k fits b → LeadFallsNot k st b e
falls_not k fits valid laws st None e h = tt
falls_not k fits valid laws st (Some c) e h = step_falls_not k fits valid laws st c e h

pub legal_falls_not : {D S R O : Type 0} (k : Kit D S R O) (fits : D → S → Type 0) (valid : D → D → O → Type 0) → Laws k fits valid
    → (st : Settings) (xs ys : List (Event D R O)) (e : Event D R O) → Follows k valid st (xs ++ e ∷ ys) → LeadFallsNot k st (replay k st xs) e
legal_falls_not k fits valid laws st xs ys e l =
    falls_not k fits valid laws st (replay k st xs) e (replay_kept k fits valid laws st None xs tt (legal_at k valid st None xs e ys l).0)
