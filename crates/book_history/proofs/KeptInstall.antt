-- claims, installs and releases keep the invariant
use Rattle.std.proofs.Common.{◌≡◌, ℕ, ◌+◌, ◌≤◌, ◌<◌, ◌≢◌, List, [], ◌∷◌, length, refl, sym, ◌∙◌, ap, subst, arith, Bool, true, false, cond, ◌&&◌, eqb, if◌then◌else◌, eqb-true, eq-eqb}
use Rattle.std.specs.Prelude.{Option, Some, None}
use Rattle.std.proofs.lemmas.Bool.{cond_both, cond-false, ne_eqb, and_parts}
use Rattle.machine.specs.Kit.{Kit, Laws}
use Rattle.book_history.specs.declared.who.Who.{Who}
use Rattle.book_history.specs.declared.link.Link.{Link}
use Rattle.book_history.specs.declared.link.Link.TheVariants.{Open, Out, Joined}
use Rattle.book_history.specs.Book.{Segment, DrawnTicket, Book, slice, drawn, last_cycle, takes, first_link, mark_out, claim_found, matches, has_link, is_current, reopen, joined, freed, free_link, with_segs, with_used, result_of, install_found}
use Rattle.book_history.specs.Truth.{Chain}
use Rattle.book_history.proofs.Kept.{Kept, TicketIsKept, Each, Inv, chain_head, chain_map}

-- tickets

pub drawn_within : {D S R : Type 0} (n : ℕ) (ts : List (DrawnTicket D S R)) (t : DrawnTicket D S R) → drawn n ts ≡ Some t → n ≤ length ts
drawn_within n [] t e = cc
drawn_within {D} {S} {R} n (u ∷ ts) t e =
    go (eqb n (length ts + 1)) refl (drawn_within n ts t) e
  where
    go : (b : Bool) → eqb n (length ts + 1) ≡ b → (drawn n ts ≡ Some t → n ≤ length ts) → cond b (Some u) (drawn n ts) ≡ Some t → n ≤ length (u ∷ ts)
    go true is ih h = omega (arith, eqb-true n (length ts + 1) is)
    go false is ih h = omega (arith, ih h)

pub drawn_grows : {D S R : Type 0} (n : ℕ) (u : DrawnTicket D S R) (ts : List (DrawnTicket D S R)) (t : DrawnTicket D S R) → drawn n ts ≡ Some t → drawn n (u ∷ ts) ≡ Some t
drawn_grows n u ts t e =
    let le : n ≤ length ts = drawn_within n ts t e in
    let ne : n ≢ length ts + 1 = omega arith in
    cond-false (eqb n (length ts + 1)) (Some u) (drawn n ts) (ne_eqb n (length ts + 1) ne) ∙ e

pub each_drawn : {D S R : Type 0} (P : DrawnTicket D S R → Type 0) (n : ℕ) (ts : List (DrawnTicket D S R)) (t : DrawnTicket D S R) → drawn n ts ≡ Some t → Each P ts → P t
each_drawn P n [] t e h = absurd cc
each_drawn P n (u ∷ ts) t e h =
    go (eqb n (length ts + 1)) (λ is. each_drawn P n ts t is h.1) e
  where
    go : (b : Bool) → (drawn n ts ≡ Some t → P t) → cond b (Some u) (drawn n ts) ≡ Some t → P t
    go true ih is = let eq : u ≡ t = cc in subst P eq h.0
    go false ih is = ih is

-- a claim

-- what was found: its place, in the chain, with the state at its beginning
pub record Found {S R : Type 0} (F : S → Type 0) (rows : List R) (f : ℕ × ℕ × S) : Type 0 where
  pub rises : f.0 < f.1
  pub within : f.1 ≤ length rows
  pub fit : F f.2

pub find_found : {D S R O : Type 0} (k : Kit D S R O) (F : S → Type 0) (m : D) (rows : List R) (v : ℕ) (ts : List (DrawnTicket D S R))
    (p : Link → Bool) (a : ℕ) (s : S) (segs : List (Segment S)) (f : ℕ × ℕ × S)
    → Chain F (Kept k m rows v ts) a s segs → first_link p a s segs ≡ Some f → Found F rows f
find_found k F m rows v ts p a s [] f h e = absurd cc
find_found {D} {S} {R} k F m rows v ts p a s (g ∷ gs) f h e =
    go (p g.link) (find_found k F m rows v ts p g.to g.state gs f h.3) e
  where
    go : (b : Bool) → (first_link p g.to g.state gs ≡ Some f → Found F rows f) → cond b (Some (a, g.to, s)) (first_link p g.to g.state gs) ≡ Some f → Found F rows f
    go true ih is =
        let here : Found F rows (a, g.to, s) = record { rises = h.1; within = h.2.0; fit = h.0 } in
        let eq : ◌≡◌ {A = ℕ × ℕ × S} (a, g.to, s) f = cc in
        subst (λ (x : ℕ × ℕ × S). Found F rows x) eq here
    go false ih is = ih is

-- one more ticket leaves what was kept
pub kept_draws : {D S R O : Type 0} (k : Kit D S R O) (m : D) (rows : List R) (v : ℕ) (ts : List (DrawnTicket D S R)) (t : DrawnTicket D S R)
    (l : Link) (a : ℕ) (s : S) (b : ℕ) (e : S) → a < b → Kept k m rows v ts l a s b e → Kept k m rows v (t ∷ ts) l a s b e
kept_draws k m rows v ts t Open a s b e lt h = h
kept_draws k m rows v ts t (Out n) a s b e lt h = (
  h.0,
  record {
    ticket = h.1.ticket;
    is_drawn = drawn_grows n t ts h.1.ticket h.1.is_drawn;
    version_is = h.1.version_is;
    a_is = h.1.a_is;
    b_is = h.1.b_is;
    start_is = h.1.start_is;
  },
)
kept_draws k m rows v ts t Joined a s b e lt h = h

pub drawn_newest : {D S R : Type 0} (u : DrawnTicket D S R) (ts : List (DrawnTicket D S R)) → drawn (length ts + 1) (u ∷ ts) ≡ Some u
drawn_newest u ts = rw (eq-eqb (length ts + 1) (length ts + 1) refl)

-- the link that the test finds first is out with the new ticket
pub out_chain : {D S R O : Type 0} (k : Kit D S R O) (F : S → Type 0) (m : D) (rows : List R) (v : ℕ) (ts : List (DrawnTicket D S R)) (t : DrawnTicket D S R)
    (p : Link → Bool) (a : ℕ) (s : S) (segs : List (Segment S)) (f : ℕ × ℕ × S)
    → t.version ≡ v → t.a ≡ f.0 → t.b ≡ f.1 → t.start ≡ f.2
    → Chain F (Kept k m rows v ts) a s segs → first_link p a s segs ≡ Some f
    → Chain F (Kept k m rows v (t ∷ ts)) a s (mark_out p (length ts + 1) segs)
out_chain k F m rows v ts t p a s [] f tv ta tb ts' h e = absurd cc
out_chain {D} {S} {R} {O} k F m rows v ts t p a s (g ∷ gs) f tv ta tb tstart h e =
    go (p g.link) (out_chain k F m rows v ts t p g.to g.state gs f tv ta tb tstart h.3) e
  where
    rest : Chain F (Kept k m rows v (t ∷ ts)) g.to g.state gs
    rest = chain_map F (Kept k m rows v ts) (Kept k m rows v (t ∷ ts)) g.to g.state gs (kept_draws k m rows v ts t) h.3

    go : (b : Bool)
        → (first_link p g.to g.state gs ≡ Some f → Chain F (Kept k m rows v (t ∷ ts)) g.to g.state (mark_out p (length ts + 1) gs))
        → cond b (Some (a, g.to, s)) (first_link p g.to g.state gs) ≡ Some f
        → Chain F (Kept k m rows v (t ∷ ts)) a s
        (cond b (record { link = Out (length ts + 1); to = g.to; state = g.state } ∷ gs) (g ∷ mark_out p (length ts + 1) gs))
    go true ih is =
        let eq : ◌≡◌ {A = ℕ × ℕ × S} (a, g.to, s) f = cc in (
          h.0,
          h.1,
          (
            h.2.0,
            record {
              ticket = t;
              is_drawn = drawn_newest t ts;
              version_is = tv;
              a_is = ta ∙ sym (ap (λ (x : ℕ × ℕ × S). x.0) eq);
              b_is = tb ∙ sym (ap (λ (x : ℕ × ℕ × S). x.1) eq);
              start_is = tstart ∙ sym (ap (λ (x : ℕ × ℕ × S). x.2) eq);
            },
          ),
          rest,
        )
    go false ih is = (h.0, h.1, kept_draws k m rows v ts t g.link a s g.to g.state h.1 h.2, ih is)

pub out_ends : {S : Type 0} (p : Link → Bool) (n a : ℕ) (segs : List (Segment S)) → last_cycle a (mark_out p n segs) ≡ last_cycle a segs
out_ends p n a [] = refl
out_ends p n a (g ∷ gs) =
    cond_both
    (p g.link)
    (record { link = Out n; to = g.to; state = g.state } ∷ gs)
    (g ∷ mark_out p n gs)
    (λ x. last_cycle a x ≡ last_cycle g.to gs)
    (λ _. refl)
    (λ _. out_ends p n g.to gs)

pub claim_found_kept : {D S R O : Type 0} (k : Kit D S R O) (fits : D → S → Type 0) (c : Book D S R) (by : Who) (o : Option (ℕ × ℕ × S))
    → first_link (takes by) 0 c.first c.segs ≡ o → Inv k fits c → Inv k fits (claim_found c by o)
claim_found_kept k fits c by None is h = h
claim_found_kept {D} {S} {R} k fits c by (Some f) is h =
    let found : Found (fits c.machine) c.rows f =
    find_found k (fits c.machine) c.machine c.rows c.version c.tickets (takes by) 0 c.first c.segs f h.links is in
    let t : DrawnTicket D S R =
    record { by = by; version = c.version; machine = c.machine; a = f.0; b = f.1; rows = slice c.rows f.0 f.1; start = f.2 } in
    record {
      first_is = h.first_is;
      end_is = out_ends (takes by) (length c.tickets + 1) 0 c.segs ∙ h.end_is;
      links = out_chain k (fits c.machine) c.machine c.rows c.version c.tickets t (takes by) 0 c.first c.segs f refl refl refl refl h.links is;
      tickets = (
        record { rises = found.rises; within = found.within; rows_are = refl; no_newer = omega arith; machine_is = λ _. refl; fit = found.fit },
        h.tickets,
      );
    }

-- a release

pub freed_kept : {D S R O : Type 0} (k : Kit D S R O) (m : D) (rows : List R) (v : ℕ) (ts : List (DrawnTicket D S R))
    (n : ℕ) (l : Link) (a : ℕ) (s : S) (b : ℕ) (e : S) → Kept k m rows v ts l a s b e → Kept k m rows v ts (free_link n l) a s b e
freed_kept k m rows v ts n Open a s b e h = h
freed_kept k m rows v ts n (Out i) a s b e h =
    cond_both (eqb i n) Open (Out i) (λ l. Kept k m rows v ts l a s b e) (λ _. (h.0, tt)) (λ _. h)
freed_kept k m rows v ts n Joined a s b e h = h

pub freed_chain : {D S R O : Type 0} (k : Kit D S R O) (F : S → Type 0) (m : D) (rows : List R) (v : ℕ) (ts : List (DrawnTicket D S R))
    (n a : ℕ) (s : S) (segs : List (Segment S)) → Chain F (Kept k m rows v ts) a s segs → Chain F (Kept k m rows v ts) a s (freed n segs)
freed_chain k F m rows v ts n a s [] h = h
freed_chain k F m rows v ts n a s (g ∷ gs) h = (h.0, h.1, freed_kept k m rows v ts n g.link a s g.to g.state h.2, freed_chain k F m rows v ts n g.to g.state gs h.3)

pub freed_ends : {S : Type 0} (n a : ℕ) (segs : List (Segment S)) → last_cycle a (freed n segs) ≡ last_cycle a segs
freed_ends n a [] = refl
freed_ends n a (g ∷ gs) = freed_ends n g.to gs

-- an install

pub reopen_chain : {D S R O : Type 0} (k : Kit D S R O) (F : S → Type 0) (m : D) (rows : List R) (v : ℕ) (ts : List (DrawnTicket D S R))
    (a : ℕ) (s r : S) (segs : List (Segment S)) → F r → Chain F (Kept k m rows v ts) a s segs → Chain F (Kept k m rows v ts) a r (reopen segs)
reopen_chain k F m rows v ts a s r [] f h = f
reopen_chain k F m rows v ts a s r (g ∷ gs) f h = (f, h.1, (h.2.0, tt), h.3)

pub reopen_ends : {S : Type 0} (a : ℕ) (segs : List (Segment S)) → last_cycle a (reopen segs) ≡ last_cycle a segs
reopen_ends a [] = refl
reopen_ends a (g ∷ gs) = refl

-- what the tests of a match say
pub record Same {D S R : Type 0} (t : DrawnTicket D S R) (a : ℕ) (s : S) (b : ℕ) : Type 0 where
  pub a_is : a ≡ t.a
  pub b_is : b ≡ t.b
  pub s_is : s ≡ t.start

pub if_true : (b x : Bool) → cond b x false ≡ true → (b ≡ true) × (x ≡ true)
if_true true x e = (refl, e)
if_true false x e = absurd cc

pub matches_same : {D S R O : Type 0} (k : Kit D S R O) (fits : D → S → Type 0) (valid : D → D → O → Type 0) → Laws k fits valid
    → (m : D) (t : DrawnTicket D S R) (a : ℕ) (s : S) (g : Segment S) → fits m s → fits m t.start → matches k m t a s g ≡ true → Same t a s g.to
matches_same k fits valid laws m t a s g f ft e =
    let p = and_parts (eqb a t.a) (eqb g.to t.b && k.alike m s t.start) e in
    let q = and_parts (eqb g.to t.b) (k.alike m s t.start) p.1 in
    record {
      a_is = eqb-true a t.a p.0;
      b_is = eqb-true g.to t.b q.0;
      s_is = (laws.alike_is m s t.start f ft).0 q.1;
    }

pub joined_chain : {D S R O : Type 0} (k : Kit D S R O) (fits : D → S → Type 0) (valid : D → D → O → Type 0) → Laws k fits valid
    → (m : D) (rows : List R) (v : ℕ) (ts : List (DrawnTicket D S R)) (t : DrawnTicket D S R) (r : S)
    → fits m t.start → k.seg m (slice rows t.a t.b) t.start ≡ r
    → (a : ℕ) (s : S) (segs : List (Segment S))
    → Chain (fits m) (Kept k m rows v ts) a s segs → Chain (fits m) (Kept k m rows v ts) a s (joined k m t r a s segs)
joined_chain k fits valid laws m rows v ts t r ft is a s [] h = h
joined_chain {D} {S} k fits valid laws m rows v ts t r ft is a s (g ∷ gs) h =
    let fr : fits m r = subst (λ (x : S). fits m x) is (laws.seg_fits m (slice rows t.a t.b) t.start ft) in
    let fg : fits m g.state = chain_head (fits m) (Kept k m rows v ts) g.to g.state gs h.3 in
    cond_both
    (matches k m t a s g)
    (if k.alike m r g.state
    then record { link = Joined; to = g.to; state = g.state } ∷ gs
    else record { link = Joined; to = g.to; state = r } ∷ reopen gs)
    (g ∷ joined k m t r g.to g.state gs)
    (λ x. Chain (fits m) (Kept k m rows v ts) a s x)
    (λ found.
    let same : Same t a s g.to = matches_same k fits valid laws m t a s g h.0 ft found in
    let run : k.seg m (slice rows a g.to) s ≡ r = rw (same.a_is, same.b_is, same.s_is) is in
    cond_both
    (k.alike m r g.state)
    (record { link = Joined; to = g.to; state = g.state } ∷ gs)
    (record { link = Joined; to = g.to; state = r } ∷ reopen gs)
    (λ x. Chain (fits m) (Kept k m rows v ts) a s x)
    (λ alike. (h.0, h.1, (h.2.0, run ∙ (laws.alike_is m r g.state fr fg).0 alike), h.3))
    (λ _. (h.0, h.1, (h.2.0, run), reopen_chain k (fits m) m rows v ts g.to g.state r gs fr h.3)))
    (λ _. (h.0, h.1, h.2, joined_chain k fits valid laws m rows v ts t r ft is g.to g.state gs h.3))

pub joined_ends : {D S R O : Type 0} (k : Kit D S R O) (m : D) (t : DrawnTicket D S R) (r : S) (a : ℕ) (s : S) (segs : List (Segment S))
    → last_cycle a (joined k m t r a s segs) ≡ last_cycle a segs
joined_ends k m t r a s [] = refl
joined_ends k m t r a s (g ∷ gs) =
    cond_both
    (matches k m t a s g)
    (if k.alike m r g.state
    then record { link = Joined; to = g.to; state = g.state } ∷ gs
    else record { link = Joined; to = g.to; state = r } ∷ reopen gs)
    (g ∷ joined k m t r g.to g.state gs)
    (λ x. last_cycle a x ≡ last_cycle g.to gs)
    (λ _. cond_both
    (k.alike m r g.state)
    (record { link = Joined; to = g.to; state = g.state } ∷ gs)
    (record { link = Joined; to = g.to; state = r } ∷ reopen gs)
    (λ x. last_cycle a x ≡ last_cycle g.to gs)
    (λ _. refl)
    (λ _. reopen_ends g.to gs))
    (λ _. joined_ends k m t r g.to g.state gs)

pub install_found_kept : {D S R O : Type 0} (k : Kit D S R O) (fits : D → S → Type 0) (valid : D → D → O → Type 0) → Laws k fits valid
    → (c : Book D S R) (n : ℕ) (o : Option (DrawnTicket D S R)) → drawn n c.tickets ≡ o → Inv k fits c → Inv k fits (install_found k c n o)
install_found_kept k fits valid laws c n None is h = h
install_found_kept {D} {S} {R} k fits valid laws c n (Some t) is h =
    let kept : TicketIsKept fits c.machine c.rows c.version t = each_drawn (TicketIsKept fits c.machine c.rows c.version) n c.tickets t is h.tickets in
    let r : S = result_of k t in
    cond_both
    (is_current k c t)
    (with_segs c (joined k c.machine t r 0 c.first c.segs))
    c
    (λ x. Inv k fits (with_used x n))
    (λ current.
    let version : t.version ≡ c.version =
    eqb-true t.version c.version ((if_true (eqb t.version c.version) (has_link k c.machine t 0 c.first c.segs) current).0) in
    let m_is : t.machine ≡ c.machine = kept.machine_is version in
    let run : k.seg c.machine (slice c.rows t.a t.b) t.start ≡ r = rw (← m_is, ← kept.rows_are) in
    let ft : fits c.machine t.start = subst (λ (m : D). fits m t.start) m_is kept.fit in
    record {
      first_is = h.first_is;
      end_is = joined_ends k c.machine t r 0 c.first c.segs ∙ h.end_is;
      links = joined_chain k fits valid laws c.machine c.rows c.version c.tickets t r ft run 0 c.first c.segs h.links;
      tickets = h.tickets;
    })
    (λ _. record { first_is = h.first_is; end_is = h.end_is; links = h.links; tickets = h.tickets })

pub release_kept : {D S R O : Type 0} (k : Kit D S R O) (fits : D → S → Type 0) (c : Book D S R) (n : ℕ) → Inv k fits c → Inv k fits (with_used (with_segs c (freed n c.segs)) n)
release_kept k fits c n h =
    record {
      first_is = h.first_is;
      end_is = freed_ends n 0 c.segs ∙ h.end_is;
      links = freed_chain k (fits c.machine) c.machine c.rows c.version c.tickets n 0 c.first c.segs h.links;
      tickets = h.tickets;
    }
