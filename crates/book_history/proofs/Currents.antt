-- the test of an install says whether its ticket is current
use Rattle.std.proofs.Common.{◌≡◌, ℕ, List, [], ◌∷◌, ◌++◌, refl, sym, ◌∙◌, subst, Bool, true, false, cond, inl, inr, ◌↔◌, eqb, eqb-true, eq-eqb}
use Rattle.std.specs.Prelude.{Option, Some, None}
use Rattle.std.proofs.lemmas.Bool.{cond_both, cond-true}
use Rattle.machine.specs.Kit.{Kit, Laws}
use Rattle.book_history.specs.declared.who.Who.{Who}
use Rattle.book_history.specs.declared.link.Link.{Link}
use Rattle.book_history.specs.Book.{Segment, DrawnTicket, Book, Settings, Event, Installs, drawn, matches, has_link, is_current, install_found, apply, replay_from, replay}
use Rattle.book_history.specs.Truth.{Chain, HasLink, Current}
use Rattle.book_history.specs.Legal.{MayCome, LegalFrom, Follows}
use Rattle.book_history.specs.Law.{SameBook, InstallIsRight}
use Rattle.book_history.proofs.Kept.{Kept, TicketIsKept, Inv}
use Rattle.book_history.proofs.KeptInstall.{matches_same, if_true, each_drawn}
use Rattle.book_history.proofs.Law.{InvOf, replay_kept}

pub same_matches : {D S R O : Type 0} (k : Kit D S R O) (fits : D → S → Type 0) (valid : D → D → O → Type 0) → Laws k fits valid
    → (m : D) (t : DrawnTicket D S R) (a : ℕ) (s : S) (g : Segment S) → fits m s → fits m t.start → a ≡ t.a → g.to ≡ t.b → s ≡ t.start → matches k m t a s g ≡ true
same_matches k fits valid laws m t a s g f ft ea eb es =
    rw (eq-eqb a t.a ea, eq-eqb g.to t.b eb, (laws.alike_is m s t.start f ft).1 es)

pub has_link_sound : {D S R O : Type 0} (k : Kit D S R O) (fits : D → S → Type 0) (valid : D → D → O → Type 0) → Laws k fits valid
    → (J : Link → ℕ → S → ℕ → S → Type 0) (m : D) (t : DrawnTicket D S R) → fits m t.start → (a : ℕ) (s : S) (segs : List (Segment S))
    → Chain (fits m) J a s segs → has_link k m t a s segs ≡ true → HasLink t a s segs
has_link_sound k fits valid laws J m t ft a s [] h e = absurd cc
has_link_sound k fits valid laws J m t ft a s (g ∷ gs) h e =
    go (matches k m t a s g) refl (has_link_sound k fits valid laws J m t ft g.to g.state gs h.3) e
  where
    go : (b : Bool) → matches k m t a s g ≡ b → (has_link k m t g.to g.state gs ≡ true → HasLink t g.to g.state gs)
        → cond b true (has_link k m t g.to g.state gs) ≡ true → HasLink t a s (g ∷ gs)
    go true is ih x = let same = matches_same k fits valid laws m t a s g h.0 ft is in inl (same.a_is, same.b_is, same.s_is)
    go false is ih x = inr (ih x)

pub has_link_complete : {D S R O : Type 0} (k : Kit D S R O) (fits : D → S → Type 0) (valid : D → D → O → Type 0) → Laws k fits valid
    → (J : Link → ℕ → S → ℕ → S → Type 0) (m : D) (t : DrawnTicket D S R) → fits m t.start → (a : ℕ) (s : S) (segs : List (Segment S))
    → Chain (fits m) J a s segs → HasLink t a s segs → has_link k m t a s segs ≡ true
has_link_complete k fits valid laws J m t ft a s [] h e = absurd e
has_link_complete k fits valid laws J m t ft a s (g ∷ gs) h (inl x) =
    cond-true (matches k m t a s g) true (has_link k m t g.to g.state gs) (same_matches k fits valid laws m t a s g h.0 ft x.0 x.1 x.2)
has_link_complete k fits valid laws J m t ft a s (g ∷ gs) h (inr x) =
    cond_both (matches k m t a s g) true (has_link k m t g.to g.state gs) (λ b. b ≡ true) (λ _. refl)
    (λ _. has_link_complete k fits valid laws J m t ft g.to g.state gs h.3 x)

pub is_current_iff : {D S R O : Type 0} (k : Kit D S R O) (fits : D → S → Type 0) (valid : D → D → O → Type 0) → Laws k fits valid
    → (c : Book D S R) (n : ℕ) (t : DrawnTicket D S R) → Inv k fits c → drawn n c.tickets ≡ Some t → (is_current k c t ≡ true) ↔ Current c t
is_current_iff {D} {S} {R} k fits valid laws c n t h is =
    let kept : TicketIsKept fits c.machine c.rows c.version t = each_drawn (TicketIsKept fits c.machine c.rows c.version) n c.tickets t is h.tickets in
    let fit : t.version ≡ c.version → fits c.machine t.start = λ v. subst (λ (m : D). fits m t.start) (kept.machine_is v) kept.fit in
    let J = Kept k c.machine c.rows c.version c.tickets in (
      λ e.
          let both = if_true (eqb t.version c.version) (has_link k c.machine t 0 c.first c.segs) e in
          let v : t.version ≡ c.version = eqb-true t.version c.version both.0 in
          (v, has_link_sound k fits valid laws J c.machine t (fit v) 0 c.first c.segs h.links both.1),
      λ cur.
          cond-true (eqb t.version c.version) (has_link k c.machine t 0 c.first c.segs) false (eq-eqb t.version c.version cur.0)
          ∙ has_link_complete k fits valid laws J c.machine t (fit cur.0) 0 c.first c.segs h.links cur.1,
    )

-- the beginning of a legal history is legal, and the entry after it may come there
pub legal_at : {D S R O : Type 0} (k : Kit D S R O) (valid : D → D → O → Type 0) (st : Settings) (b : Option (Book D S R)) (xs : List (Event D R O)) (e : Event D R O) (ys : List (Event D R O))
    → LegalFrom k valid st b (xs ++ e ∷ ys) → LegalFrom k valid st b xs × MayCome k valid st (replay_from k st b xs) e × LegalFrom k valid st (apply k st (replay_from k st b xs) e) ys
legal_at k valid st b [] e ys l = (tt, l.0, l.1)
legal_at k valid st b (x ∷ xs) e ys l =
    let r = legal_at k valid st (apply k st b x) xs e ys l.1 in
    ((l.0, r.0), r.1, r.2)

pub install_right : {D S R O : Type 0} (k : Kit D S R O) (fits : D → S → Type 0) (valid : D → D → O → Type 0) → Laws k fits valid
    → (st : Settings) (b : Option (Book D S R)) (n : ℕ) (j : Bool) (by : Who) → InvOf k fits b → MayCome k valid st b (Installs n j by) → InstallIsRight k st b n j by
install_right k fits valid laws st None n j by h may = may
install_right {D} {S} {R} {O} k fits valid laws st (Some c) n j by h may =
    let t = may.0 in
    let iff = is_current_iff k fits valid laws c n t h may.1 in (
      t,
      may.1,
      (λ e. iff.0 (sym may.4 ∙ e), λ cur. may.4 ∙ iff.1 cur),
      λ e.
          let no : is_current k c t ≡ false = sym may.4 ∙ e in
          let P : Option (DrawnTicket D S R) → Type 0 = λ o. SameBook c (install_found k c n o) in
          let here : SameBook c (install_found k c n (Some t)) =
          rw no (record { version = refl; machine = refl; rows = refl; first = refl; segs = refl; tickets = refl }) in
          subst P (sym may.1) here,
    )

pub legal_installs : {D S R O : Type 0} (k : Kit D S R O) (fits : D → S → Type 0) (valid : D → D → O → Type 0) → Laws k fits valid
    → (st : Settings) (xs ys : List (Event D R O)) (n : ℕ) (j : Bool) (by : Who) → Follows k valid st (xs ++ Installs n j by ∷ ys)
    → InstallIsRight k st (replay k st xs) n j by
legal_installs k fits valid laws st xs ys n j by l =
    let at = legal_at k valid st None xs (Installs n j by) ys l in
    install_right k fits valid laws st (replay k st xs) n j by (replay_kept k fits valid laws st None xs tt at.0) at.1
