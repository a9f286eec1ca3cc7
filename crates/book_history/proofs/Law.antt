-- the law over every legal history
use Rattle.std.proofs.Common.{◌≡◌, ℕ, ◌<◌, List, [], ◌∷◌, refl, sym, subst, inl, inr}
use Rattle.std.specs.Prelude.{Option, Some, None}
use Rattle.machine.specs.Kit.{Kit, Laws}
use Rattle.book_history.specs.declared.link.Link.{Link}
use Rattle.book_history.specs.declared.link.Link.TheVariants.{Open, Out, Joined}
use Rattle.book_history.specs.Book.{Segment, DrawnTicket, Book, Settings, Event, Opens, Runs, Reloads, Claims, Installs, Releases, Shows, Closes, drawn, takes, first_link, opened, step, apply, replay_from, replay}
use Rattle.book_history.specs.Truth.{Chain, LinkIsTrue, True, HasLink, Current, OutIsCurrent, OutsAreCurrent}
use Rattle.book_history.specs.Legal.{MayFollow, MayCome, LegalFrom, Follows}
use Rattle.book_history.proofs.Kept.{Kept, Inv, chain_map}
use Rattle.book_history.proofs.KeptRun.{run_kept, reload_kept}
use Rattle.book_history.proofs.KeptInstall.{claim_found_kept, install_found_kept, release_kept}

pub opened_kept : {D S R O : Type 0} (k : Kit D S R O) (fits : D → S → Type 0) (valid : D → D → O → Type 0) → Laws k fits valid → (m : D) → Inv k fits (opened k m)
opened_kept k fits valid laws m = record { first_is = refl; end_is = refl; links = laws.start_fits m; tickets = tt }

pub step_kept : {D S R O : Type 0} (k : Kit D S R O) (fits : D → S → Type 0) (valid : D → D → O → Type 0) → Laws k fits valid
    → (st : Settings) (c : Book D S R) (e : Event D R O) → Inv k fits c → MayFollow k valid st c e → Inv k fits (step k st c e)
step_kept k fits valid laws st c (Opens v m) h may = h
step_kept k fits valid laws st c (Runs x rows) h may = run_kept k fits valid laws st c rows h
step_kept k fits valid laws st c (Reloads v m ops from) h may = reload_kept k fits valid laws st c m ops may.1 h
step_kept k fits valid laws st c (Claims n a b by) h may = claim_found_kept k fits c by (first_link (takes by) 0 c.first c.segs) refl h
step_kept k fits valid laws st c (Installs n j by) h may = install_found_kept k fits valid laws c n (drawn n c.tickets) refl h
step_kept k fits valid laws st c (Releases n by) h may = release_kept k fits c n h
step_kept k fits valid laws st c (Shows s) h may = h
step_kept k fits valid laws st c Closes h may = h

abbrev pub InvOf : {D S R O : Type 0} → Kit D S R O → (D → S → Type 0) → Option (Book D S R) → Type 0
InvOf k fits None = Unit {0}
InvOf k fits (Some c) = Inv k fits c

pub apply_kept : {D S R O : Type 0} (k : Kit D S R O) (fits : D → S → Type 0) (valid : D → D → O → Type 0) → Laws k fits valid
    → (st : Settings) (b : Option (Book D S R)) (e : Event D R O) → InvOf k fits b → MayCome k valid st b e → InvOf k fits (apply k st b e)
apply_kept k fits valid laws st None (Opens v m) h may = opened_kept k fits valid laws m
apply_kept k fits valid laws st None (Runs x rows) h may = tt
apply_kept k fits valid laws st None (Reloads v m ops from) h may = tt
apply_kept k fits valid laws st None (Claims n a b by) h may = tt
apply_kept k fits valid laws st None (Installs n j by) h may = tt
apply_kept k fits valid laws st None (Releases n by) h may = tt
apply_kept k fits valid laws st None (Shows s) h may = tt
apply_kept k fits valid laws st None Closes h may = tt
apply_kept k fits valid laws st (Some c) e h may = step_kept k fits valid laws st c e h may

pub replay_kept : {D S R O : Type 0} (k : Kit D S R O) (fits : D → S → Type 0) (valid : D → D → O → Type 0) → Laws k fits valid
    → (st : Settings) (b : Option (Book D S R)) (h : List (Event D R O)) → InvOf k fits b → LegalFrom k valid st b h → InvOf k fits (replay_from k st b h)
replay_kept k fits valid laws st b [] i l = i
replay_kept k fits valid laws st b (e ∷ es) i l =
    replay_kept k fits valid laws st (apply k st b e) es (apply_kept k fits valid laws st b e i l.0) l.1

-- what the invariant gives

pub kept_true : {D S R O : Type 0} (k : Kit D S R O) (m : D) (rows : List R) (v : ℕ) (ts : List (DrawnTicket D S R))
    (l : Link) (a : ℕ) (s : S) (b : ℕ) (e : S) → a < b → Kept k m rows v ts l a s b e → LinkIsTrue k m rows l a s b e
kept_true k m rows v ts Open a s b e lt h = tt
kept_true k m rows v ts (Out n) a s b e lt h = tt
kept_true k m rows v ts Joined a s b e lt h = h.1

pub inv_true : {D S R O : Type 0} (k : Kit D S R O) (fits : D → S → Type 0) (b : Option (Book D S R)) → InvOf k fits b → True k fits b
inv_true k fits None h = tt
inv_true k fits (Some c) h =
    record {
      first_is = h.first_is;
      links = chain_map (fits c.machine) (Kept k c.machine c.rows c.version c.tickets) (LinkIsTrue k c.machine c.rows) 0 c.first c.segs
          (kept_true k c.machine c.rows c.version c.tickets) h.links;
    }

pub out_current : {D S R O : Type 0} (k : Kit D S R O) (F : S → Type 0) (c : Book D S R) (a : ℕ) (s : S) (segs : List (Segment S))
    → Chain F (Kept k c.machine c.rows c.version c.tickets) a s segs
    → ((t : DrawnTicket D S R) → HasLink t a s segs → HasLink t 0 c.first c.segs)
    → OutIsCurrent c segs
out_current k F c a s [] h up = tt
out_current {D} {S} {R} {O} k F c a s (g ∷ gs) h up = (
  λ n is. here g.link n is h.2,
  out_current k F c g.to g.state gs h.3 (λ t x. up t (inr x)),
)
  where
    here : (l : Link) (n : ℕ) → l ≡ Out n → Kept k c.machine c.rows c.version c.tickets l a s g.to g.state
        → (t : DrawnTicket D S R) × (drawn n c.tickets ≡ Some t) × Current c t
    here Open n is h = absurd cc
    here (Out i) n is h =
        let same : i ≡ n = cc in
        let o = h.1 in (
          o.ticket,
          subst (λ (j : ℕ). drawn j c.tickets ≡ Some o.ticket) same o.is_drawn,
          (o.version_is, up o.ticket (inl (sym o.a_is, sym o.b_is, sym o.start_is))),
        )
    here Joined n is h = absurd cc

pub inv_outs : {D S R O : Type 0} (k : Kit D S R O) (fits : D → S → Type 0) (b : Option (Book D S R)) → InvOf k fits b → OutsAreCurrent b
inv_outs k fits None h = tt
inv_outs k fits (Some c) h = out_current k (fits c.machine) c 0 c.first c.segs h.links (λ t x. x)

pub legal_true : {D S R O : Type 0} (k : Kit D S R O) (fits : D → S → Type 0) (valid : D → D → O → Type 0) → Laws k fits valid
    → (st : Settings) (h : List (Event D R O)) → Follows k valid st h → True k fits (replay k st h)
legal_true k fits valid laws st h l = inv_true k fits (replay k st h) (replay_kept k fits valid laws st None h tt l)

pub legal_outs : {D S R O : Type 0} (k : Kit D S R O) (fits : D → S → Type 0) (valid : D → D → O → Type 0) → Laws k fits valid
    → (st : Settings) (h : List (Event D R O)) → Follows k valid st h → OutsAreCurrent (replay k st h)
legal_outs k fits valid laws st h l = inv_outs k fits (replay k st h) (replay_kept k fits valid laws st None h tt l)
