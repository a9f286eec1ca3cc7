-- a session's claim, and its install with neither run nor reload between: it joins, and one link more leads
use Rattle.std.proofs.Common.{◌≡◌, ℕ, zero, suc, ◌+◌, ◌≤◌, List, [], ◌∷◌, ◌++◌, length, refl, sym, ◌∙◌, ap, subst, arith, Bool, true, false, cond, inl, inr, eqb, eqb-true, add-one, if◌then◌else◌}
use Rattle.std.specs.Prelude.{Option, Some, None}
use Rattle.std.proofs.lemmas.Bool.{cond_both, cond-true, cond-false}
use Rattle.machine.specs.Kit.{Kit, Laws}
use Rattle.book_history.specs.declared.who.Who.{Who}
use Rattle.book_history.specs.declared.who.Who.TheVariants.{Session, Worker}
use Rattle.book_history.specs.declared.link.Link.{Link}
use Rattle.book_history.specs.declared.link.Link.TheVariants.{Open, Out, Joined}
use Rattle.book_history.specs.Book.{Segment, DrawnTicket, Book, Settings, Event, Opens, Runs, Reloads, Claims, Installs, Releases, Shows, Closes, slice, drawn, takes, first_link, mark_out, matches, is_current, reopen, joined, freed, free_link, lead, lead_past, result_of, with_segs, with_used, install_found, claim_found, step, apply, replay_from, replay}
use Rattle.book_history.specs.Truth.{Chain, HasLink}
use Rattle.book_history.specs.Legal.{MayFollow, LegalFrom, Follows}
use Rattle.book_history.specs.Law.{IsCalm, AreCalm, lead_in}
use Rattle.book_history.proofs.Kept.{Kept, TicketIsKept, Inv, chain_head}
use Rattle.book_history.proofs.KeptInstall.{Same, matches_same, if_true, each_drawn, drawn_grows, drawn_newest}
use Rattle.book_history.proofs.Law.{InvOf, replay_kept, step_kept}
use Rattle.book_history.proofs.Currents.{legal_at, is_current_iff, same_matches}
use Rattle.book_history.proofs.Places.{replay-append}

-- l links are joined, and the one after them is the ticket's
abbrev pub Ready : {D S R : Type 0} → DrawnTicket D S R → ℕ → ℕ → S → List (Segment S) → Type 0
Ready t l a s [] = ⊥
Ready t zero a s (g ∷ gs) = (a ≡ t.a) × (g.to ≡ t.b) × (s ≡ t.start)
Ready t (suc l) a s (g ∷ gs) = (g.link ≡ Joined) × Ready t l g.to g.state gs

pub ready_has : {D S R : Type 0} (t : DrawnTicket D S R) (l a : ℕ) (s : S) (segs : List (Segment S)) → Ready t l a s segs → HasLink t a s segs
ready_has t l a s [] h = h
ready_has t zero a s (g ∷ gs) h = inl h
ready_has t (suc l) a s (g ∷ gs) h = inr (ready_has t l g.to g.state gs h.1)

pub joined_not_taken : (by : Who) (l : Link) → l ≡ Joined → takes by l ≡ false
joined_not_taken Session l e = rw e refl
joined_not_taken (Worker w) l e = rw e refl

-- a claim
pub ready_out : {D S R : Type 0} (t : DrawnTicket D S R) (by : Who) (n l a : ℕ) (s : S) (segs : List (Segment S)) → Ready t l a s segs → Ready t l a s (mark_out (takes by) n segs)
ready_out t by n l a s [] h = h
ready_out t by n zero a s (g ∷ gs) h =
    cond_both (takes by g.link) (record { link = Out n; to = g.to; state = g.state } ∷ gs) (g ∷ mark_out (takes by) n gs)
    (λ x. Ready t zero a s x) (λ _. h) (λ _. h)
ready_out {D} {S} t by n (suc l) a s (g ∷ gs) h =
    let same : mark_out (takes by) n (g ∷ gs) ≡ g ∷ mark_out (takes by) n gs =
    cond-false (takes by g.link) (record { link = Out n; to = g.to; state = g.state } ∷ gs) (g ∷ mark_out (takes by) n gs) (joined_not_taken by g.link h.0) in
    subst (λ (x : List (Segment S)). Ready t (suc l) a s x) (sym same) (h.0, ready_out t by n l g.to g.state gs h.1)

-- a release
pub ready_freed : {D S R : Type 0} (t : DrawnTicket D S R) (n l a : ℕ) (s : S) (segs : List (Segment S)) → Ready t l a s segs → Ready t l a s (freed n segs)
ready_freed t n l a s [] h = h
ready_freed t n zero a s (g ∷ gs) h = h
ready_freed t n (suc l) a s (g ∷ gs) h = (ap (free_link n) h.0, ready_freed t n l g.to g.state gs h.1)

-- an install of any ticket that is current
pub ready_joined : {D S R O : Type 0} (k : Kit D S R O) (fits : D → S → Type 0) (valid : D → D → O → Type 0) → Laws k fits valid
    → (m : D) (rows : List R) (v : ℕ) (ts : List (DrawnTicket D S R)) (u : DrawnTicket D S R) (r : S)
    → fits m u.start → k.seg m (slice rows u.a u.b) u.start ≡ r
    → (t : DrawnTicket D S R) (l a : ℕ) (s : S) (segs : List (Segment S))
    → Chain (fits m) (Kept k m rows v ts) a s segs → Ready t l a s segs → Ready t l a s (joined k m u r a s segs)
ready_joined k fits valid laws m rows v ts u r ft is t l a s [] h y = y
ready_joined k fits valid laws m rows v ts u r ft is t zero a s (g ∷ gs) h y =
    cond_both
    (matches k m u a s g)
    (if k.alike m r g.state
    then record { link = Joined; to = g.to; state = g.state } ∷ gs
    else record { link = Joined; to = g.to; state = r } ∷ reopen gs)
    (g ∷ joined k m u r g.to g.state gs)
    (λ x. Ready t zero a s x)
    (λ _. cond_both (k.alike m r g.state) (record { link = Joined; to = g.to; state = g.state } ∷ gs) (record { link = Joined; to = g.to; state = r } ∷ reopen gs)
    (λ x. Ready t zero a s x) (λ _. y) (λ _. y))
    (λ _. y)
ready_joined {D} {S} k fits valid laws m rows v ts u r ft is t (suc l) a s (g ∷ gs) h y =
    let fr : fits m r = subst (λ (x : S). fits m x) is (laws.seg_fits m (slice rows u.a u.b) u.start ft) in
    let fg : fits m g.state = chain_head (fits m) (Kept k m rows v ts) g.to g.state gs h.3 in
    cond_both
    (matches k m u a s g)
    (if k.alike m r g.state
    then record { link = Joined; to = g.to; state = g.state } ∷ gs
    else record { link = Joined; to = g.to; state = r } ∷ reopen gs)
    (g ∷ joined k m u r g.to g.state gs)
    (λ x. Ready t (suc l) a s x)
    (λ found.
    let same : Same u a s g.to = matches_same k fits valid laws m u a s g h.0 ft found in
    let run : k.seg m (slice rows a g.to) s ≡ r = rw (same.a_is, same.b_is, same.s_is) is in
    let old : Kept k m rows v ts Joined a s g.to g.state = subst (λ (i : Link). Kept k m rows v ts i a s g.to g.state) y.0 h.2 in
    let alike : k.alike m r g.state ≡ true = (laws.alike_is m r g.state fr fg).1 (sym run ∙ old.1) in
    rw alike (refl, y.1))
    (λ _. (y.0, ready_joined k fits valid laws m rows v ts u r ft is t l g.to g.state gs h.3 y.1))

-- the links before the ticket's end where it begins, or earlier
pub ready_after : {D S R : Type 0} (F : S → Type 0) (J : Link → ℕ → S → ℕ → S → Type 0) (t : DrawnTicket D S R) (l a : ℕ) (s : S) (segs : List (Segment S))
    → Chain F J a s segs → Ready t l a s segs → a ≤ t.a
ready_after F J t l a s [] h y = absurd y
ready_after F J t zero a s (g ∷ gs) h y = omega (arith, y.0)
ready_after F J t (suc l) a s (g ∷ gs) h y = omega (arith, h.1, ready_after F J t l g.to g.state gs h.3 y.1)

-- its own install
pub ready_joins : {D S R O : Type 0} (k : Kit D S R O) (fits : D → S → Type 0) (valid : D → D → O → Type 0) → Laws k fits valid
    → (J : Link → ℕ → S → ℕ → S → Type 0) (m : D) (t : DrawnTicket D S R) (r : S) → fits m t.start → (l a : ℕ) (s : S) (segs : List (Segment S))
    → Chain (fits m) J a s segs → Ready t l a s segs → l + 1 ≤ lead (joined k m t r a s segs)
ready_joins k fits valid laws J m t r ft l a s [] h y = absurd y
ready_joins {D} {S} k fits valid laws J m t r ft zero a s (g ∷ gs) h y =
    let found : matches k m t a s g ≡ true = same_matches k fits valid laws m t a s g h.0 ft y.0 y.1 y.2 in
    let first : (if k.alike m r g.state
    then record { link = Joined; to = g.to; state = g.state } ∷ gs
    else record { link = Joined; to = g.to; state = r } ∷ reopen gs) ≡ joined k m t r a s (g ∷ gs) = sym (cond-true (matches k m t a s g) _ _ found) in
    subst (λ (x : List (Segment S)). zero + 1 ≤ lead x) first
    (cond_both (k.alike m r g.state) (record { link = Joined; to = g.to; state = g.state } ∷ gs) (record { link = Joined; to = g.to; state = r } ∷ reopen gs)
    (λ x. zero + 1 ≤ lead x) (λ _. omega arith) (λ _. omega arith))
ready_joins {D} {S} k fits valid laws J m t r ft (suc l) a s (g ∷ gs) h y =
    let after = ready_after (fits m) J t l g.to g.state gs h.3 y.1 in
    let ih : l + 1 ≤ lead (joined k m t r g.to g.state gs) = ready_joins k fits valid laws J m t r ft l g.to g.state gs h.3 y.1 in
    cond_both
    (matches k m t a s g)
    (if k.alike m r g.state
    then record { link = Joined; to = g.to; state = g.state } ∷ gs
    else record { link = Joined; to = g.to; state = r } ∷ reopen gs)
    (g ∷ joined k m t r g.to g.state gs)
    (λ x. suc l + 1 ≤ lead x)
    (λ found. let same : Same t a s g.to = matches_same k fits valid laws m t a s g h.0 ft found in absurd (omega (arith, same.a_is, after, h.1)))
    (λ _. rw y.0 (omega (arith, ih)))

-- the session's claim makes its ticket ready
pub ready_claimed : {D S R : Type 0} (t : DrawnTicket D S R) (n a : ℕ) (s : S) (segs : List (Segment S)) (f : ℕ × ℕ × S)
    → t.a ≡ f.0 → t.b ≡ f.1 → t.start ≡ f.2 → first_link (takes Session) a s segs ≡ Some f
    → Ready t (lead segs) a s (mark_out (takes Session) n segs)
ready_claimed t n a s [] f ta tb tstart e = absurd cc
ready_claimed {D} {S} {R} t n a s (g ∷ gs) f ta tb tstart e =
    go g.link (ready_claimed t n g.to g.state gs f ta tb tstart) e
  where
    here : (l : Link) → Some (a, g.to, s) ≡ Some f → Ready t 0 a s (record { link = l; to = g.to; state = g.state } ∷ gs)
    here l is =
        let eq : ◌≡◌ {A = ℕ × ℕ × S} (a, g.to, s) f = cc in (
          ap (λ (x : ℕ × ℕ × S). x.0) eq ∙ sym ta,
          ap (λ (x : ℕ × ℕ × S). x.1) eq ∙ sym tb,
          ap (λ (x : ℕ × ℕ × S). x.2) eq ∙ sym tstart,
        )

    go : (l : Link) → (first_link (takes Session) g.to g.state gs ≡ Some f → Ready t (lead gs) g.to g.state (mark_out (takes Session) n gs))
        → cond (takes Session l) (Some (a, g.to, s)) (first_link (takes Session) g.to g.state gs) ≡ Some f
        → Ready t (lead_past l (lead gs)) a s
        (cond (takes Session l) (record { link = Out n; to = g.to; state = g.state } ∷ gs) (record { link = l; to = g.to; state = g.state } ∷ mark_out (takes Session) n gs))
    go Open ih is = here (Out n) is
    go (Out i) ih is = here (Out n) is
    go Joined ih is =
        subst (λ (i : ℕ). Ready t i a s (record { link = Joined; to = g.to; state = g.state } ∷ mark_out (takes Session) n gs)) (sym (add-one (lead gs))) (refl, ih is)

-- ticket n was drawn, is of this version, and is ready behind l links
pub record Pends {D S R : Type 0} (c : Book D S R) (n : ℕ) (t : DrawnTicket D S R) (l : ℕ) : Type 0 where
  pub is_drawn : drawn n c.tickets ≡ Some t
  pub version_is : t.version ≡ c.version
  pub ready : Ready t l 0 c.first c.segs

pub pends_claim : {D S R : Type 0} (c : Book D S R) (n : ℕ) (t : DrawnTicket D S R) (l : ℕ) (by : Who) (o : Option (ℕ × ℕ × S)) → Pends c n t l → Pends (claim_found c by o) n t l
pends_claim c n t l by None p = p
pends_claim {D} {S} {R} c n t l by (Some f) p =
    record {
      is_drawn = drawn_grows n _ c.tickets t p.is_drawn;
      version_is = p.version_is;
      ready = ready_out t by (length c.tickets + 1) l 0 c.first c.segs p.ready;
    }

pub pends_install : {D S R O : Type 0} (k : Kit D S R O) (fits : D → S → Type 0) (valid : D → D → O → Type 0) → Laws k fits valid
    → (c : Book D S R) (n : ℕ) (t : DrawnTicket D S R) (l : ℕ) (i : ℕ) (o : Option (DrawnTicket D S R)) → drawn i c.tickets ≡ o → Inv k fits c → Pends c n t l → Pends (install_found k c i o) n t l
pends_install k fits valid laws c n t l i None is h p = p
pends_install {D} {S} {R} k fits valid laws c n t l i (Some u) is h p =
    let kept : TicketIsKept fits c.machine c.rows c.version u = each_drawn (TicketIsKept fits c.machine c.rows c.version) i c.tickets u is h.tickets in
    let r : S = result_of k u in
    cond_both
    (is_current k c u)
    (with_segs c (joined k c.machine u r 0 c.first c.segs))
    c
    (λ x. Pends (with_used x i) n t l)
    (λ current.
    let version : u.version ≡ c.version = eqb-true u.version c.version ((if_true (eqb u.version c.version) _ current).0) in
    let m_is : u.machine ≡ c.machine = kept.machine_is version in
    let run : k.seg c.machine (slice c.rows u.a u.b) u.start ≡ r = rw (← m_is, ← kept.rows_are) in
    let ft : fits c.machine u.start = subst (λ (m : D). fits m u.start) m_is kept.fit in
    record {
      is_drawn = p.is_drawn;
      version_is = p.version_is;
      ready = ready_joined k fits valid laws c.machine c.rows c.version c.tickets u r ft run t l 0 c.first c.segs h.links p.ready;
    })
    (λ _. record { is_drawn = p.is_drawn; version_is = p.version_is; ready = p.ready })

pub pends_step : {D S R O : Type 0} (k : Kit D S R O) (fits : D → S → Type 0) (valid : D → D → O → Type 0) → Laws k fits valid
    → (st : Settings) (c : Book D S R) (n : ℕ) (t : DrawnTicket D S R) (l : ℕ) (e : Event D R O) → IsCalm e → Inv k fits c → Pends c n t l → Pends (step k st c e) n t l
pends_step k fits valid laws st c n t l (Opens v m) calm h p = absurd calm
pends_step k fits valid laws st c n t l (Runs x rows) calm h p = absurd calm
pends_step k fits valid laws st c n t l (Reloads v m ops from) calm h p = absurd calm
pends_step k fits valid laws st c n t l (Claims i a b by) calm h p = pends_claim c n t l by (first_link (takes by) 0 c.first c.segs) p
pends_step k fits valid laws st c n t l (Installs i j by) calm h p = pends_install k fits valid laws c n t l i (drawn i c.tickets) refl h p
pends_step k fits valid laws st c n t l (Releases i by) calm h p =
    record { is_drawn = p.is_drawn; version_is = p.version_is; ready = ready_freed t i l 0 c.first c.segs p.ready }
pends_step k fits valid laws st c n t l (Shows s) calm h p = p
pends_step k fits valid laws st c n t l Closes calm h p = p

-- its own install, at last
pub pends_joins : {D S R O : Type 0} (k : Kit D S R O) (fits : D → S → Type 0) (valid : D → D → O → Type 0) → Laws k fits valid
    → (st : Settings) (c : Book D S R) (n : ℕ) (t : DrawnTicket D S R) (l : ℕ) (j : Bool) (by : Who) → Inv k fits c → Pends c n t l → MayFollow k valid st c (Installs n j by)
    → (j ≡ true) × (l + 1 ≤ lead (step k st c (Installs n j by)).segs)
pends_joins {D} {S} {R} k fits valid laws st c n t l j by h p may =
    let kept : TicketIsKept fits c.machine c.rows c.version t = each_drawn (TicketIsKept fits c.machine c.rows c.version) n c.tickets t p.is_drawn h.tickets in
    let m_is : t.machine ≡ c.machine = kept.machine_is p.version_is in
    let ft : fits c.machine t.start = subst (λ (m : D). fits m t.start) m_is kept.fit in
    let current : is_current k c t ≡ true = (is_current_iff k fits valid laws c n t h p.is_drawn).1 (p.version_is, ready_has t l 0 c.first c.segs p.ready) in
    let same : may.0 ≡ t = let e : Some may.0 ≡ Some t = sym may.1 ∙ p.is_drawn in cc in
    let leads = ready_joins k fits valid laws (Kept k c.machine c.rows c.version c.tickets) c.machine t (result_of k t) ft l 0 c.first c.segs h.links p.ready in
    let P : Option (DrawnTicket D S R) → Type 0 = λ o. l + 1 ≤ lead (install_found k c n o).segs in (
      may.4 ∙ ap (is_current k c) same ∙ current,
      subst P (sym p.is_drawn) (rw current leads),
    )

pub calm_joins : {D S R O : Type 0} (k : Kit D S R O) (fits : D → S → Type 0) (valid : D → D → O → Type 0) → Laws k fits valid
    → (st : Settings) (c : Book D S R) (n : ℕ) (t : DrawnTicket D S R) (l : ℕ) (j : Bool) (by : Who) (es ys : List (Event D R O))
    → Inv k fits c → Pends c n t l → AreCalm es → LegalFrom k valid st (Some c) (es ++ Installs n j by ∷ ys)
    → (j ≡ true) × (l + 1 ≤ lead_in (apply k st (replay_from k st (Some c) es) (Installs n j by)))
calm_joins k fits valid laws st c n t l j by [] ys h p calm legal = pends_joins k fits valid laws st c n t l j by h p legal.0
calm_joins k fits valid laws st c n t l j by (e ∷ es) ys h p calm legal =
    calm_joins k fits valid laws st (step k st c e) n t l j by es ys
    (step_kept k fits valid laws st c e h legal.0) (pends_step k fits valid laws st c n t l e calm.0 h p) calm.1 legal.1

pub claim_pends : {D S R : Type 0} (c : Book D S R) (o : Option (ℕ × ℕ × S)) (f : ℕ × ℕ × S) → first_link (takes Session) 0 c.first c.segs ≡ o → o ≡ Some f
    → (t : DrawnTicket D S R) × Pends (claim_found c Session o) (length c.tickets + 1) t (lead c.segs)
claim_pends c None f is e = absurd cc
claim_pends {D} {S} {R} c (Some g) f is e =
    let t : DrawnTicket D S R = record { by = Session; version = c.version; machine = c.machine; a = g.0; b = g.1; rows = slice c.rows g.0 g.1; start = g.2 } in (
      t,
      record {
        is_drawn = drawn_newest t c.tickets;
        version_is = refl;
        ready = ready_claimed t (length c.tickets + 1) 0 c.first c.segs g refl refl refl is;
      },
    )

pub settles_from : {D S R O : Type 0} (k : Kit D S R O) (fits : D → S → Type 0) (valid : D → D → O → Type 0) → Laws k fits valid
    → (st : Settings) (b : Option (Book D S R)) (es ys : List (Event D R O)) (n x y : ℕ) (j : Bool) → InvOf k fits b → AreCalm es
    → LegalFrom k valid st b (Claims n x y Session ∷ (es ++ Installs n j Session ∷ ys))
    → (j ≡ true) × (lead_in b + 1 ≤ lead_in (apply k st (replay_from k st (apply k st b (Claims n x y Session)) es) (Installs n j Session)))
settles_from k fits valid laws st None es ys n x y j h calm legal = absurd legal.0
settles_from {D} {S} {R} {O} k fits valid laws st (Some c) es ys n x y j h calm legal =
    let p = claim_pends c (first_link (takes Session) 0 c.first c.segs) (x, y, legal.0.1.0) refl legal.0.1.1 in
    let q : Pends (step k st c (Claims n x y Session)) n p.0 (lead c.segs) =
    subst (λ (i : ℕ). Pends (step k st c (Claims n x y Session)) i p.0 (lead c.segs)) (sym legal.0.0) p.1 in
    calm_joins k fits valid laws st (step k st c (Claims n x y Session)) n p.0 (lead c.segs) j Session es ys
    (step_kept k fits valid laws st c (Claims n x y Session) h legal.0) q calm legal.1

pub legal_settles : {D S R O : Type 0} (k : Kit D S R O) (fits : D → S → Type 0) (valid : D → D → O → Type 0) → Laws k fits valid
    → (st : Settings) (xs es ys : List (Event D R O)) (n x y : ℕ) (j : Bool) → AreCalm es
    → Follows k valid st (xs ++ Claims n x y Session ∷ (es ++ Installs n j Session ∷ ys))
    → (j ≡ true) × (lead_in (replay k st xs) + 1 ≤ lead_in (replay k st (xs ++ Claims n x y Session ∷ (es ++ Installs n j Session ∷ []))))
legal_settles k fits valid laws st xs es ys n x y j calm legal =
    let at = legal_at k valid st None xs (Claims n x y Session) (es ++ Installs n j Session ∷ ys) legal in
    rw (
      replay-append k st None xs (Claims n x y Session ∷ (es ++ Installs n j Session ∷ [])),
      replay-append k st (apply k st (replay k st xs) (Claims n x y Session)) es (Installs n j Session ∷ []),
    )
    (settles_from k fits valid laws st (replay k st xs) es ys n x y j (replay_kept k fits valid laws st None xs tt at.0) calm (at.1, at.2))
