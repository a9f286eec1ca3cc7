-- what every legal history keeps
use Rattle.std.proofs.Common.{◌≡◌, ℕ, ◌≤◌, ◌<◌, List, [], ◌∷◌, ◌++◌, length, refl, sym, ◌∙◌, ap, arith, lt_trans}
use Rattle.std.specs.Prelude.{Some}
use Rattle.machine.specs.Kit.{Kit, Laws}
use Rattle.book_history.specs.declared.link.Link.{Link}
use Rattle.book_history.specs.declared.link.Link.TheVariants.{Open, Out, Joined}
use Rattle.book_history.specs.Book.{Segment, DrawnTicket, Book, slice, drawn, last_cycle, last_state, both, thin}
use Rattle.book_history.specs.Truth.{Chain}
use Rattle.book_history.proofs.Slices.{slice_joins}

-- the ticket of this number was drawn for the link from a to b, whose first mark has the state s
pub record IsOut {D S R : Type 0} (version : ℕ) (tickets : List (DrawnTicket D S R)) (n a b : ℕ) (s : S) : Type 0 where
  pub ticket : DrawnTicket D S R
  pub is_drawn : drawn n tickets ≡ Some ticket
  pub version_is : ticket.version ≡ version
  pub a_is : ticket.a ≡ a
  pub b_is : ticket.b ≡ b
  pub start_is : ticket.start ≡ s

abbrev pub KeptAs : {D S R O : Type 0} → Kit D S R O → D → List R → ℕ → List (DrawnTicket D S R) → Link → ℕ → S → ℕ → S → Type 0
KeptAs k m rows v ts Open a s b e = Unit {0}
KeptAs k m rows v ts (Out n) a s b e = IsOut v ts n a b s
KeptAs k m rows v ts Joined a s b e = k.seg m (slice rows a b) s ≡ e

abbrev pub Kept : {D S R O : Type 0} → Kit D S R O → D → List R → ℕ → List (DrawnTicket D S R) → Link → ℕ → S → ℕ → S → Type 0
Kept k m rows v ts l a s b e = (b ≤ length rows) × KeptAs k m rows v ts l a s b e

pub record TicketIsKept {D S R : Type 0} (fits : D → S → Type 0) (m : D) (rows : List R) (v : ℕ) (t : DrawnTicket D S R) : Type 0 where
  pub rises : t.a < t.b
  pub within : t.b ≤ length rows
  pub rows_are : t.rows ≡ slice rows t.a t.b
  pub no_newer : t.version ≤ v
  pub machine_is : t.version ≡ v → t.machine ≡ m
  pub fit : fits t.machine t.start

abbrev pub Each : {A : Type 0} → (A → Type 0) → List A → Type 0
Each P [] = Unit {0}
Each P (x ∷ xs) = P x × Each P xs

pub each_map : {A : Type 0} (P Q : A → Type 0) (xs : List A) → ((x : A) → P x → Q x) → Each P xs → Each Q xs
each_map P Q [] f h = tt
each_map P Q (x ∷ xs) f h = (f x h.0, each_map P Q xs f h.1)

pub record Inv {D S R O : Type 0} (k : Kit D S R O) (fits : D → S → Type 0) (c : Book D S R) : Type 0 where
  pub first_is : c.first ≡ k.start c.machine
  pub end_is : last_cycle 0 c.segs ≡ length c.rows
  pub links : Chain (fits c.machine) (Kept k c.machine c.rows c.version c.tickets) 0 c.first c.segs
  pub tickets : Each (TicketIsKept fits c.machine c.rows c.version) c.tickets

-- chains

pub chain_head : {S : Type 0} (F : S → Type 0) (J : Link → ℕ → S → ℕ → S → Type 0) (a : ℕ) (s : S) (segs : List (Segment S)) → Chain F J a s segs → F s
chain_head F J a s [] h = h
chain_head F J a s (g ∷ gs) h = h.0

pub chain_last : {S : Type 0} (F : S → Type 0) (J : Link → ℕ → S → ℕ → S → Type 0) (a : ℕ) (s : S) (segs : List (Segment S)) → Chain F J a s segs → F (last_state s segs)
chain_last F J a s [] h = h
chain_last F J a s (g ∷ gs) h = chain_last F J g.to g.state gs h.3

pub chain_map : {S : Type 0} (F : S → Type 0) (J J' : Link → ℕ → S → ℕ → S → Type 0) (a : ℕ) (s : S) (segs : List (Segment S))
    → ((l : Link) (a : ℕ) (s : S) (b : ℕ) (e : S) → a < b → J l a s b e → J' l a s b e)
    → Chain F J a s segs → Chain F J' a s segs
chain_map F J J' a s [] f h = h
chain_map F J J' a s (g ∷ gs) f h = (h.0, h.1, f g.link a s g.to g.state h.1 h.2, chain_map F J J' g.to g.state gs f h.3)

pub chain_snoc : {S : Type 0} (F : S → Type 0) (J : Link → ℕ → S → ℕ → S → Type 0) (a : ℕ) (s : S) (segs : List (Segment S)) (g : Segment S)
    → Chain F J a s segs → F g.state → last_cycle a segs < g.to → J g.link (last_cycle a segs) (last_state s segs) g.to g.state
    → Chain F J a s (segs ++ g ∷ [])
chain_snoc F J a s [] g h f lt j = (h, lt, j, f)
chain_snoc F J a s (h ∷ hs) g c f lt j = (c.0, c.1, c.2, chain_snoc F J h.to h.state hs g c.3 f lt j)

pub chain_rises : {S : Type 0} (F : S → Type 0) (J : Link → ℕ → S → ℕ → S → Type 0) (a : ℕ) (s : S) (segs : List (Segment S)) → Chain F J a s segs → a ≤ last_cycle a segs
chain_rises F J a s [] h = omega arith
chain_rises F J a s (g ∷ gs) h = omega (arith, h.1, chain_rises F J g.to g.state gs h.3)

pub last_cycle-snoc : {S : Type 0} (a : ℕ) (segs : List (Segment S)) (g : Segment S) → last_cycle a (segs ++ g ∷ []) ≡ g.to
last_cycle-snoc a [] g = refl
last_cycle-snoc a (h ∷ hs) g = last_cycle-snoc h.to hs g

pub last_state-snoc : {S : Type 0} (s : S) (segs : List (Segment S)) (g : Segment S) → last_state s (segs ++ g ∷ []) ≡ g.state
last_state-snoc s [] g = refl
last_state-snoc s (h ∷ hs) g = last_state-snoc h.state hs g

-- thinning

pub last_cycle-thin : {S : Type 0} (a : ℕ) (segs : List (Segment S)) → last_cycle a (thin segs) ≡ last_cycle a segs
last_cycle-thin a [] = refl
last_cycle-thin a (g ∷ []) = refl
last_cycle-thin a (g ∷ h ∷ gs) = last_cycle-thin h.to gs

pub last_state-thin : {S : Type 0} (s : S) (segs : List (Segment S)) → last_state s (thin segs) ≡ last_state s segs
last_state-thin s [] = refl
last_state-thin s (g ∷ []) = refl
last_state-thin s (g ∷ h ∷ gs) = last_state-thin h.state gs

pub both_kept : {D S R O : Type 0} (k : Kit D S R O) (fits : D → S → Type 0) (valid : D → D → O → Type 0) → Laws k fits valid
    → (m : D) (rows : List R) (v : ℕ) (ts : List (DrawnTicket D S R)) (l l' : Link) (a b c : ℕ) (s e e' : S) → a < b → b < c
    → Kept k m rows v ts l a s b e → Kept k m rows v ts l' b e c e' → Kept k m rows v ts (both l l') a s c e'
both_kept k fits valid laws m rows v ts Open l' a b c s e e' ab bc x y = (y.0, tt)
both_kept k fits valid laws m rows v ts (Out n) l' a b c s e e' ab bc x y = (y.0, tt)
both_kept k fits valid laws m rows v ts Joined Open a b c s e e' ab bc x y = (y.0, tt)
both_kept k fits valid laws m rows v ts Joined (Out n) a b c s e e' ab bc x y = (y.0, tt)
both_kept k fits valid laws m rows v ts Joined Joined a b c s e e' ab bc x y =
    let j : slice rows a b ++ slice rows b c ≡ slice rows a c = slice_joins rows a b c (omega arith) (omega arith) in (
      y.0,
      ap (λ r. k.seg m r s) (sym j) ∙ laws.seg_more m (slice rows a b) (slice rows b c) s ∙ ap (λ r. k.seg m (slice rows b c) r) x.1 ∙ y.1,
    )

pub thin_chain : {D S R O : Type 0} (k : Kit D S R O) (fits : D → S → Type 0) (valid : D → D → O → Type 0) → Laws k fits valid
    → (m : D) (rows : List R) (v : ℕ) (ts : List (DrawnTicket D S R)) (a : ℕ) (s : S) (segs : List (Segment S))
    → Chain (fits m) (Kept k m rows v ts) a s segs → Chain (fits m) (Kept k m rows v ts) a s (thin segs)
thin_chain k fits valid laws m rows v ts a s [] h = h
thin_chain k fits valid laws m rows v ts a s (g ∷ []) h = h
thin_chain k fits valid laws m rows v ts a s (g ∷ i ∷ gs) h = (
  h.0,
  lt_trans h.1 h.3.1,
  both_kept k fits valid laws m rows v ts g.link i.link a g.to i.to s g.state i.state h.1 h.3.1 h.2 h.3.2,
  thin_chain k fits valid laws m rows v ts i.to i.state gs h.3.3,
)
