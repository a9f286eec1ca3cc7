-- Two books that have the same states, marks and links have the same passes of a settle and the same answer to it.
use Rattle.std.proofs.Common.{◌≡◌, ◌∙◌, ℕ, suc, ◌+◌, ◌<◌, Bool, true, false, eqb, cond, List, [], ◌∷◌, ◌++◌, map, length, refl, sym, ap, ap₂, subst}
use Rattle.std.proofs.Common.{arith, eq-eqb, true≢false}
use Rattle.std.specs.Prelude.{⊤, Option, Some, None, is_some}
use Rattle.book_history.specs.declared.link.Link.{Link}
use Rattle.book_history.specs.declared.link.Link.TheVariants.{Open, Out, Joined}
use Rattle.book_history.specs.declared.segment.Segment.{Segment}
use Rattle.book_history.specs.declared.who.Who.TheVariants.{Session}
use Rattle.machine.specs.Rows.{slice}
use Rattle.book_history.specs.Book.{DrawnTicket, Event, Settings, Claims, Installs, Shows, all_joined, apply, claim_found, drawn, first_link}
use Rattle.book_history.specs.Book.{has_link, install_found, is_current, is_joined, joined, mark_out, matches, reopen, replay_from, result_of}
use Rattle.book_history.specs.Book.{settled_to, shown, step, takes, with_segs, with_used}
use Rattle.book_history.specs.Legal.{LegalFrom, MayFollow}
use Rattle.book_history.specs.Moments.{moments_from}
use Rattle.segment_verify.specs.Passes.{ArePasses, no_pass, one_more}
use Rattle.cycle_eval.specs.declared.design.Design.{Design}
use Rattle.live_session.specs.Entries.{bare}
use Rattle.live_session.specs.Logs.{InputRow, LogEvent, State, kit, valid}
use Rattle.live_session.proofs.OneBook.{SessionBook, IsOneBook, AreOneBooks, one_books}

-- ---- passes, from the first on

-- so many claims of the session, each with its install right behind it
pub data Passes : ℕ → List LogEvent → Type 0 where
  no_more : Passes 0 []
  one_first : (t a e : ℕ) (j : Bool) {n : ℕ} {es : List LogEvent} → Passes n es
      → Passes (suc n) (Claims t a e Session ∷ Installs t j Session ∷ es)

-- one more behind them, so all of them from the first on
one_behind : (t a e : ℕ) (j : Bool) {n : ℕ} {es : List LogEvent} → Passes n es
    → Passes (suc n) (es ++ Claims t a e Session ∷ Installs t j Session ∷ [])
one_behind t a e j no_more = one_first t a e j no_more
one_behind t a e j (one_first u b f i h) = one_first u b f i (one_behind t a e j h)

pub passes_turned : {n : ℕ} {es : List LogEvent} → ArePasses n es → Passes n es
passes_turned no_pass = no_more
passes_turned (one_more m n t a b j es h is) =
    subst (λ (k : ℕ). Passes k (es ++ Claims t a b Session ∷ Installs t j Session ∷ [])) (omega (arith, is)) (one_behind t a b j (passes_turned h))

-- they are no commands' own entries
pub passes_moments : (bs : Settings) (b : Option SessionBook) (answer : Option ℕ) {n : ℕ} {es : List LogEvent} → Passes n es
    → moments_from kit bs b (es ++ Shows answer ∷ []) ≡ record { entry = Shows answer; book = replay_from kit bs b es } ∷ []
passes_moments bs b answer no_more = refl
passes_moments bs b answer (one_first t a e j h) =
    passes_moments bs (apply kit bs (apply kit bs b (Claims t a e Session)) (Installs t j Session)) answer h

-- ---- one pass

-- the books are one, and their machines lead alike between any two cycles of their records
pub record RunAlike (b c : SessionBook) : Type 0 where
  pub one : IsOneBook b c
  pub runs : (a e : ℕ) (s : State) → kit.seg b.machine (slice b.rows a e) s ≡ kit.seg c.machine (slice c.rows a e) s

-- the ticket for a link, the book that has drawn it, and the book behind its install
abbrev ticket : SessionBook → (f : ℕ × ℕ × State) → DrawnTicket Design State InputRow
ticket b f = record { by = Session; version = b.version; machine = b.machine; a = f.0; b = f.1; rows = slice b.rows f.0 f.1; start = f.2 }

abbrev claimed : SessionBook → (f : ℕ × ℕ × State) → SessionBook
claimed b f = claim_found b Session (Some f)

abbrev settled : SessionBook → (f : ℕ × ℕ × State) → Bool → SessionBook
settled b f current =
    with_used
    (cond current
    (with_segs (claimed b f)
    (joined kit b.machine (ticket b f) (result_of kit (ticket b f)) 0 b.first (mark_out (takes Session) (length b.tickets + 1) b.segs)))
    (claimed b f)) (length b.tickets + 1)

abbrev passed : SessionBook → (f : ℕ × ℕ × State) → SessionBook
passed b f = settled b f (is_current kit (claimed b f) (ticket b f))

newest : (b : SessionBook) (f : ℕ × ℕ × State) → drawn (length b.tickets + 1) (ticket b f ∷ b.tickets) ≡ Some (ticket b f)
newest b f =
    ap (λ (t : Bool). cond t (Some (ticket b f)) (drawn (length b.tickets + 1) b.tickets))
    (eq-eqb (length b.tickets + 1) (length b.tickets + 1) refl)

-- a claim and its install
pass_is : (bs : Settings) (b : SessionBook) (t a e : ℕ) (j : Bool) (s : State) → t ≡ length b.tickets + 1
    → first_link (takes Session) 0 b.first b.segs ≡ Some (a, e, s)
    → step kit bs (step kit bs b (Claims t a e Session)) (Installs t j Session) ≡ passed b (a, e, s)
pass_is bs b t a e j s number found =
    ap (λ (o : Option (ℕ × ℕ × State)). install_found kit (claim_found b Session o) t (drawn t (claim_found b Session o).tickets)) found
    ∙ ap (λ (n : ℕ). install_found kit (claimed b (a, e, s)) n (drawn n (ticket b (a, e, s) ∷ b.tickets))) number
    ∙ ap (install_found kit (claimed b (a, e, s)) (length b.tickets + 1)) (newest b (a, e, s))

abbrev ticket_or : DrawnTicket Design State InputRow → Option (DrawnTicket Design State InputRow) → DrawnTicket Design State InputRow
ticket_or d None = d
ticket_or d (Some e) = e

-- a legal install says whether the link of the ticket that was just drawn is current
install_says : (bs : Settings) (b : SessionBook) (t a e : ℕ) (j : Bool) (s : State) → t ≡ length b.tickets + 1
    → first_link (takes Session) 0 b.first b.segs ≡ Some (a, e, s)
    → MayFollow kit valid bs (step kit bs b (Claims t a e Session)) (Installs t j Session)
    → j ≡ is_current kit (claimed b (a, e, s)) (ticket b (a, e, s))
install_says bs b t a e j s number found l =
    let f : ℕ × ℕ × State = (a, e, s) in
    let may : MayFollow kit valid bs (claimed b f) (Installs t j Session) =
    subst (λ (o : Option (ℕ × ℕ × State)). MayFollow kit valid bs (claim_found b Session o) (Installs t j Session)) found l in
    let same : ticket b f ≡ may.0 =
    ap (ticket_or (ticket b f))
    (sym (newest b f) ∙ ap (λ (n : ℕ). drawn n (ticket b f ∷ b.tickets)) (sym number) ∙ may.1) in
    may.4 ∙ ap (is_current kit (claimed b f)) (sym same)

-- it leaves the machine and the record
settled_machine : (b : SessionBook) (f : ℕ × ℕ × State) (current : Bool) → (settled b f current).machine ≡ b.machine
settled_machine b f true = refl
settled_machine b f false = refl

settled_rows : (b : SessionBook) (f : ℕ × ℕ × State) (current : Bool) → (settled b f current).rows ≡ b.rows
settled_rows b f true = refl
settled_rows b f false = refl

module _ (b c : SessionBook) (f : ℕ × ℕ × State) where
  -- the ticket's link is found in both, and joined alike
  link_alike : (a : ℕ) (s : State) (segs : List (Segment State))
      → has_link kit b.machine (ticket b f) a s segs ≡ has_link kit c.machine (ticket c f) a s segs
  link_alike a s [] = refl
  link_alike a s (g ∷ gs) = ap (cond (matches kit c.machine (ticket c f) a s g) true) (link_alike g.to g.state gs)

  joined_alike : (r : State) (a : ℕ) (s : State) (segs : List (Segment State))
      → joined kit b.machine (ticket b f) r a s segs ≡ joined kit c.machine (ticket c f) r a s segs
  joined_alike r a s [] = refl
  joined_alike r a s (g ∷ gs) =
      ap (λ (hs : List (Segment State)). cond (matches kit c.machine (ticket c f) a s g)
      (cond (kit.alike c.machine r g.state) (record { link = Joined; to = g.to; state = g.state } ∷ gs)
      (record { link = Joined; to = g.to; state = r } ∷ reopen gs))
      (g ∷ hs)) (joined_alike r g.to g.state gs)

  module _ (h : RunAlike b c) where
    out_alike : mark_out (takes Session) (length b.tickets + 1) b.segs ≡ mark_out (takes Session) (length c.tickets + 1) c.segs
    out_alike = ap₂ (λ (n : ℕ) (gs : List (Segment State)). mark_out (takes Session) (n + 1) gs) h.one.tickets h.one.segs

    current_alike : is_current kit (claimed b f) (ticket b f) ≡ is_current kit (claimed c f) (ticket c f)
    current_alike =
        ap₂ (λ (v : ℕ) (t : Bool). cond (eqb v v) t false) h.one.version
        (link_alike 0 b.first (mark_out (takes Session) (length b.tickets + 1) b.segs)
        ∙ ap₂ (has_link kit c.machine (ticket c f) 0) h.one.first out_alike)

    settled_alike : (current : Bool) → RunAlike (settled b f current) (settled c f current)
    settled_alike true = record {
      one = record {
        version = h.one.version;
        first = h.one.first;
        segs =
            joined_alike (result_of kit (ticket b f)) 0 b.first (mark_out (takes Session) (length b.tickets + 1) b.segs)
            ∙ ap (λ (r : State). joined kit c.machine (ticket c f) r 0 b.first (mark_out (takes Session) (length b.tickets + 1) b.segs))
            (h.runs f.0 f.1 f.2)
            ∙ ap₂ (joined kit c.machine (ticket c f) (result_of kit (ticket c f)) 0) h.one.first out_alike;
        tickets = ap suc h.one.tickets;
      };
      runs = h.runs;
    }
    settled_alike false = record {
      one = record { version = h.one.version; first = h.one.first; segs = out_alike; tickets = ap suc h.one.tickets };
      runs = h.runs;
    }

    passed_alike : RunAlike (passed b f) (passed c f)
    passed_alike =
        subst (λ (t : Bool). RunAlike (passed b f) (settled c f t)) current_alike (settled_alike (is_current kit (claimed b f) (ticket b f)))

-- ---- where all links are joined there is no pass

-- no link is free, so none is claimed
none_free : (a : ℕ) (s : State) (segs : List (Segment State)) → all_joined segs ≡ true → first_link (takes Session) a s segs ≡ None
none_free a s [] all = refl
none_free a s (g ∷ gs) all = by g.link all (none_free g.to g.state gs)
  where
    by : (l : Link) → cond (is_joined l) (all_joined gs) false ≡ true → (all_joined gs ≡ true → first_link (takes Session) g.to g.state gs ≡ None)
        → cond (takes Session l) (Some (a, g.to, s)) (first_link (takes Session) g.to g.state gs) ≡ None
    by Open all rest = absurd (true≢false (sym all))
    by (Out n) all rest = absurd (true≢false (sym all))
    by Joined all rest = rest all

none_shown : (segs : List (Segment State)) → shown segs ≡ None → all_joined segs ≡ true
none_shown segs is = by (all_joined segs) is
  where
    by : (t : Bool) → cond t None (Some (settled_to 0 segs)) ≡ None → t ≡ true
    by true is = refl
    by false is = absurd (true≢false (ap is_some is))

none_left : (P : Type 0) (b c : SessionBook) (f : ℕ × ℕ × State) → IsOneBook b c → shown b.segs ≡ None
    → first_link (takes Session) 0 c.first c.segs ≡ Some f → P
none_left P b c f one is found =
    let none : first_link (takes Session) 0 c.first c.segs ≡ None =
    ap₂ (first_link (takes Session) 0) (sym one.first) (sym one.segs) ∙ none_free 0 b.first b.segs (none_shown b.segs is) in
    absurd (true≢false (ap is_some (sym found ∙ none)))

one_from : (b c : SessionBook) → IsOneBook b c → IsOneBook c b
one_from b c one = record { version = sym one.version; first = sym one.first; segs = sym one.segs; tickets = sym one.tickets }

abbrev link_or : (ℕ × ℕ × State) → Option (ℕ × ℕ × State) → ℕ × ℕ × State
link_or f None = f
link_or f (Some g) = g

-- ---- all passes

-- the books behind them, the passes, and what the shows behind them say
pub record IsOneSettle (b c : Option SessionBook) (es fs : List LogEvent) (answer other : Option ℕ) : Type 0 where
  pub books : AreOneBooks b c
  pub passes : map bare es ≡ map bare fs
  pub answers : answer ≡ other

-- a claim and its install before others
bare_first : {t u a x e y : ℕ} {j k : Bool} (es fs : List LogEvent) → t ≡ u → a ≡ x → e ≡ y → j ≡ k → map bare es ≡ map bare fs
    → map bare (Claims t a e Session ∷ Installs t j Session ∷ es) ≡ map bare (Claims u x y Session ∷ Installs u k Session ∷ fs)
bare_first {t} {u} {a} {x} {e} {y} {j} {k} es fs number from to current rest =
    ap (λ (n : ℕ). Claims n a e Session ∷ Installs n j Session ∷ map bare es) number
    ∙ ap₂ (λ (m n : ℕ). Claims u m n Session ∷ Installs u j Session ∷ map bare es) from to
    ∙ ap₂ (λ (i : Bool) (more : List (Event ⊤ ⊤ ⊤)). Claims u x y Session ∷ Installs u i Session ∷ more) current rest

module _ (bs : Settings) where
  -- what is legal behind a pass, and what stands behind it
  legal_behind : (b : SessionBook) (t a e : ℕ) (j : Bool) (s : State) → t ≡ length b.tickets + 1
      → first_link (takes Session) 0 b.first b.segs ≡ Some (a, e, s) → (es : List LogEvent)
      → LegalFrom kit valid bs (Some (step kit bs (step kit bs b (Claims t a e Session)) (Installs t j Session))) es
      → LegalFrom kit valid bs (Some (passed b (a, e, s))) es
  legal_behind b t a e j s number found es l =
      subst (λ (d : SessionBook). LegalFrom kit valid bs (Some d) es) (pass_is bs b t a e j s number found) l

  replay_behind : (b : SessionBook) (t a e : ℕ) (j : Bool) (s : State) → t ≡ length b.tickets + 1
      → first_link (takes Session) 0 b.first b.segs ≡ Some (a, e, s) → (es : List LogEvent)
      → replay_from kit bs (Some (passed b (a, e, s))) es ≡ replay_from kit bs (Some b) (Claims t a e Session ∷ Installs t j Session ∷ es)
  replay_behind b t a e j s number found es =
      ap (λ (d : SessionBook). replay_from kit bs (Some d) es) (sym (pass_is bs b t a e j s number found))

  -- as many passes on both sides, since a show behind fewer says that all links are joined
  pub settle_alike : {n i : ℕ} {es fs : List LogEvent} → Passes n es → Passes i fs → (b c : SessionBook) → RunAlike b c → (answer other : Option ℕ)
      → LegalFrom kit valid bs (Some b) (es ++ Shows answer ∷ []) → LegalFrom kit valid bs (Some c) (fs ++ Shows other ∷ [])
      → (n < i → answer ≡ None) → (i < n → other ≡ None)
      → IsOneSettle (replay_from kit bs (Some b) es) (replay_from kit bs (Some c) fs) es fs answer other
  settle_alike no_more no_more b c h answer other l r fewer more =
      record { books = one_books h.one; passes = refl; answers = l.0 ∙ ap shown h.one.segs ∙ sym r.0 }
  settle_alike {fs = gs} no_more (one_first u x y k q) b c h answer other l r fewer more =
      none_left (IsOneSettle (Some b) (replay_from kit bs (Some c) gs) [] gs answer other) b c (x, y, r.0.1.0) h.one (sym l.0 ∙ fewer (omega arith))
      r.0.1.1
  settle_alike {es = gs} (one_first t a e j p) no_more b c h answer other l r fewer more =
      none_left (IsOneSettle (replay_from kit bs (Some b) gs) (Some c) gs [] answer other) c b (a, e, l.0.1.0) (one_from b c h.one)
      (sym r.0 ∙ more (omega arith)) l.0.1.1
  settle_alike (one_first t a e j {n = n} {es = es} p) (one_first u x y k {n = i} {es = fs} q) b c h answer other l r fewer more =
      let f : ℕ × ℕ × State = (a, e, l.0.1.0) in
      let g : ℕ × ℕ × State = (x, y, r.0.1.0) in
      let same : f ≡ g =
      ap (link_or f) (sym l.0.1.1 ∙ ap₂ (first_link (takes Session) 0) h.one.first h.one.segs ∙ r.0.1.1) in
      let after : RunAlike (passed b f) (passed c g) =
      subst (λ (d : ℕ × ℕ × State). RunAlike (passed b f) (passed c d)) same (passed_alike b c f h) in
      let current : j ≡ k =
      install_says bs b t a e j l.0.1.0 l.0.0 l.0.1.1 l.1.0 ∙ current_alike b c f h
      ∙ ap (λ (d : ℕ × ℕ × State). is_current kit (claimed c d) (ticket c d)) same ∙ sym (install_says bs c u x y k r.0.1.0 r.0.0 r.0.1.1 r.1.0) in
      let rest : IsOneSettle (replay_from kit bs (Some (passed b f)) es) (replay_from kit bs (Some (passed c g)) fs) es fs answer other =
      settle_alike p q (passed b f) (passed c g) after answer other
      (legal_behind b t a e j l.0.1.0 l.0.0 l.0.1.1 (es ++ Shows answer ∷ []) l.1.1)
      (legal_behind c u x y k r.0.1.0 r.0.0 r.0.1.1 (fs ++ Shows other ∷ []) r.1.1)
      (λ (lt : n < i). fewer (omega (arith, lt))) (λ (lt : i < n). more (omega (arith, lt))) in
      record {
        books =
            subst (λ (d : Option SessionBook). AreOneBooks d (replay_from kit bs (Some c) (Claims u x y Session ∷ Installs u k Session ∷ fs)))
            (replay_behind b t a e j l.0.1.0 l.0.0 l.0.1.1 es)
            (subst (λ (d : Option SessionBook). AreOneBooks (replay_from kit bs (Some (passed b f)) es) d)
            (replay_behind c u x y k r.0.1.0 r.0.0 r.0.1.1 fs) rest.books);
        passes =
            bare_first es fs (l.0.0 ∙ ap (λ (n : ℕ). n + 1) h.one.tickets ∙ sym r.0.0) (ap (λ (d : ℕ × ℕ × State). d.0) same)
            (ap (λ (d : ℕ × ℕ × State). d.1) same) current rest.passes;
        answers = rest.answers;
      }

  -- passes leave the machine and the record
  pub record IsLeft (b : SessionBook) (d : Option SessionBook) : Type 0 where
    pub book : SessionBook
    pub is : d ≡ Some book
    pub machine : book.machine ≡ b.machine
    pub rows : book.rows ≡ b.rows

  pub settle_leaves : {n : ℕ} {es : List LogEvent} → Passes n es → (b : SessionBook) (answer : Option ℕ)
      → LegalFrom kit valid bs (Some b) (es ++ Shows answer ∷ []) → IsLeft b (replay_from kit bs (Some b) es)
  settle_leaves no_more b answer l = record { book = b; is = refl; machine = refl; rows = refl }
  settle_leaves (one_first t a e j {es = es} p) b answer l =
      let f : ℕ × ℕ × State = (a, e, l.0.1.0) in
      let rest : IsLeft (passed b f) (replay_from kit bs (Some (passed b f)) es) =
      settle_leaves p (passed b f) answer (legal_behind b t a e j l.0.1.0 l.0.0 l.0.1.1 (es ++ Shows answer ∷ []) l.1.1) in
      let current = is_current kit (claimed b f) (ticket b f) in
      record {
        book = rest.book;
        is = sym (replay_behind b t a e j l.0.1.0 l.0.0 l.0.1.1 es) ∙ rest.is;
        machine = rest.machine ∙ settled_machine b f current;
        rows = rest.rows ∙ settled_rows b f current;
      }
