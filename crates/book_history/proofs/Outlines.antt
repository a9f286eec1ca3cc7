-- The outline of the replayed book is what the session's own entries alone make of it.
use Rattle.std.proofs.Common.{◌≡◌, ℕ, ◌+◌, ◌-◌, ◌≤◌, List, [], ◌∷◌, ◌++◌, length, refl, sym, ◌∙◌, ap, arith, Bool, true, false, eqb, leb}
use Rattle.std.specs.Prelude.{Option, Some, None, if◌then◌else◌}
use Rattle.std.proofs.lemmas.Bool.{cond_both}
use Rattle.machine.specs.Kit.{Kit}
use Rattle.book_history.specs.declared.segment.Segment.{Segment}
use Rattle.book_history.specs.declared.link.Link.{Link}
use Rattle.book_history.specs.declared.link.Link.TheVariants.{Open, Out, Joined}
use Rattle.book_history.specs.declared.who.Who.{Who}
use Rattle.book_history.specs.declared.who.Who.TheVariants.{Session, Worker}
use Rattle.book_history.specs.Book.{Book, DrawnTicket, Settings, Event, Opens, Runs, Reloads, Claims, Installs, Releases, Shows, Closes, apply, step, replay_from, replay, cycles, chosen, slice, takes, first_link, mark_out, claim_found, install_found, drawn, is_current, matches, joined, reopen, freed, result_of, with_segs, with_used, thin, add_mark, extend, grid, simulated, reloaded, last_state}
use Rattle.book_history.specs.Legal.{MayCome, LegalFrom, Legal}
use Rattle.book_history.proofs.Prefixes.{follows_first}
use Rattle.book_history.specs.Kind.{Kind, SessionsOwn, DrawsTicket, UsesTicket, EndsClaims, kind_of}
use Rattle.book_history.specs.Owned.{is_owned, is_of_session, owned}
use Rattle.book_history.specs.Rooms.{Counts, count, count_kind, counted, count_all, no_entry}
use Rattle.book_history.specs.Outline.{Outline, blank, outline_in, thin_marks, add_mark_at, add_marks, last_until, outline_after, outline_from, VersionIs}
use Rattle.book_history.specs.Readers.{links_in}

-- cycles of marks

pub length-cycles : {S : Type 0} (xs : List (Segment S)) → length (cycles xs) ≡ length xs
length-cycles [] = refl
length-cycles (x ∷ xs) = omega (arith, length-cycles xs)

-- the number of links is that of the outline's marks
pub links_marked : {D S R : Type 0} (b : Option (Book D S R)) → links_in b ≡ length (outline_in b).marks
links_marked None = refl
links_marked (Some c) = sym (length-cycles c.segs)

cycles-append : {S : Type 0} (xs ys : List (Segment S)) → cycles (xs ++ ys) ≡ cycles xs ++ cycles ys
cycles-append [] ys = refl
cycles-append (x ∷ xs) ys = ap (λ (l : List ℕ). x.to ∷ l) (cycles-append xs ys)

cycles-marked : {S : Type 0} (p : Link → Bool) (n : ℕ) (xs : List (Segment S)) → cycles (mark_out p n xs) ≡ cycles xs
cycles-marked p n [] = refl
cycles-marked {S} p n (g ∷ gs) =
    cond_both (p g.link) (record { link = Out n; to = g.to; state = g.state } ∷ gs) (g ∷ mark_out p n gs) (λ (x : List (Segment S)). cycles x ≡ g.to ∷ cycles gs)
    (λ _. refl) (λ _. ap (λ (l : List ℕ). g.to ∷ l) (cycles-marked p n gs))

cycles-freed : {S : Type 0} (n : ℕ) (xs : List (Segment S)) → cycles (freed n xs) ≡ cycles xs
cycles-freed n [] = refl
cycles-freed n (g ∷ gs) = ap (λ (l : List ℕ). g.to ∷ l) (cycles-freed n gs)

cycles-reopen : {S : Type 0} (xs : List (Segment S)) → cycles (reopen xs) ≡ cycles xs
cycles-reopen [] = refl
cycles-reopen (x ∷ xs) = refl

cycles-joined : {D S R O : Type 0} (k : Kit D S R O) (m : D) (t : DrawnTicket D S R) (r : S) (a : ℕ) (s : S) (xs : List (Segment S)) → cycles (joined k m t r a s xs) ≡ cycles xs
cycles-joined k m t r a s [] = refl
cycles-joined {D} {S} k m t r a s (g ∷ gs) =
    let here : cycles (if k.alike m r g.state then record { link = Joined; to = g.to; state = g.state } ∷ gs else record { link = Joined; to = g.to; state = r } ∷ reopen gs) ≡ g.to ∷ cycles gs =
    cond_both (k.alike m r g.state) (record { link = Joined; to = g.to; state = g.state } ∷ gs) (record { link = Joined; to = g.to; state = r } ∷ reopen gs)
    (λ (x : List (Segment S)). cycles x ≡ g.to ∷ cycles gs) (λ _. refl) (λ _. ap (λ (l : List ℕ). g.to ∷ l) (cycles-reopen gs)) in
    cond_both (matches k m t a s g)
    (if k.alike m r g.state then record { link = Joined; to = g.to; state = g.state } ∷ gs else record { link = Joined; to = g.to; state = r } ∷ reopen gs)
    (g ∷ joined k m t r g.to g.state gs)
    (λ (x : List (Segment S)). cycles x ≡ g.to ∷ cycles gs) (λ _. here) (λ _. ap (λ (l : List ℕ). g.to ∷ l) (cycles-joined k m t r g.to g.state gs))

cycles-simulated : {D S R O : Type 0} (k : Kit D S R O) (m : D) (rows : List R) (a : ℕ) (s : S) (cs : List ℕ) → cycles (simulated k m rows a s cs) ≡ cs
cycles-simulated k m rows a s [] = refl
cycles-simulated k m rows a s (c ∷ cs) = ap (λ (l : List ℕ). c ∷ l) (cycles-simulated k m rows c (k.seg m (slice rows a c) s) cs)

cycles-reloaded : {D S R O : Type 0} (k : Kit D S R O) (old new : D) (ops : O) (rows : List R) (limit a : ℕ) (s : S) (xs : List (Segment S))
    → cycles (reloaded k old new ops rows limit a s xs) ≡ cycles xs
cycles-reloaded k old new ops rows limit a s [] = refl
cycles-reloaded {D} {S} k old new ops rows limit a s (g ∷ gs) =
    cond_both (leb g.to limit)
    (record { link = Open; to = g.to; state = k.carried old new ops g.state } ∷ reloaded k old new ops rows limit g.to (k.carried old new ops g.state) gs)
    (simulated k new rows a s (g.to ∷ cycles gs))
    (λ (x : List (Segment S)). cycles x ≡ g.to ∷ cycles gs)
    (λ _. ap (λ (l : List ℕ). g.to ∷ l) (cycles-reloaded k old new ops rows limit g.to (k.carried old new ops g.state) gs))
    (λ _. cycles-simulated k new rows a s (g.to ∷ cycles gs))

cycles-thin : {S : Type 0} (xs : List (Segment S)) → cycles (thin xs) ≡ thin_marks (cycles xs)
cycles-thin [] = refl
cycles-thin (g ∷ []) = refl
cycles-thin (g ∷ h ∷ gs) = ap (λ (l : List ℕ). h.to ∷ l) (cycles-thin gs)

cycles-add : {S : Type 0} (xs : List (Segment S)) (g : Segment S) → cycles (add_mark xs g) ≡ add_mark_at (cycles xs) g.to
cycles-add {S} xs g =
    let more : cycles (xs ++ g ∷ []) ≡ cycles xs ++ g.to ∷ [] = cycles-append xs (g ∷ []) in
    let test : eqb (length xs + 2) 1025 ≡ eqb (length (cycles xs) + 2) 1025 = ap (λ (n : ℕ). eqb (n + 2) 1025) (sym (length-cycles xs)) in
    go (eqb (length xs + 2) 1025) (eqb (length (cycles xs) + 2) 1025) test more
  where
    go : (b d : Bool) → b ≡ d → cycles (xs ++ g ∷ []) ≡ cycles xs ++ g.to ∷ []
        → cycles (if b then thin (xs ++ g ∷ []) else xs ++ g ∷ []) ≡ (if d then thin_marks (cycles xs ++ g.to ∷ []) else cycles xs ++ g.to ∷ [])
    go true true e more = cycles-thin (xs ++ g ∷ []) ∙ ap thin_marks more
    go false false e more = more
    go true false e more = absurd cc
    go false true e more = absurd cc

cycles-extend : {D S R O : Type 0} (k : Kit D S R O) (m : D) (rows : List R) (xs : List (Segment S)) (a : ℕ) (s : S) (cs : List ℕ) → cycles (extend k m rows xs a s cs) ≡ add_marks (cycles xs) cs
cycles-extend k m rows xs a s [] = refl
cycles-extend {D} {S} k m rows xs a s (c ∷ cs) =
    let g : Segment S = record { link = Joined; to = c; state = k.seg m (slice rows a c) s } in
    cycles-extend k m rows (add_mark xs g) c (k.seg m (slice rows a c) s) cs ∙ ap (λ (l : List ℕ). add_marks l cs) (cycles-add xs g)

-- the cycle that a reload chooses
pub chosen_is : {S : Type 0} (limit a : ℕ) (xs : List (Segment S)) → chosen limit a xs ≡ last_until limit a (cycles xs)
chosen_is limit a [] = refl
chosen_is limit a (g ∷ gs) = ap (λ (n : ℕ). if leb g.to limit then n else a) (chosen_is limit g.to gs)

-- one entry

module _ {D S R O : Type 0} (k : Kit D S R O) (st : Settings) where
  abbrev with_marks : Book D S R → List ℕ → Outline D R
  with_marks c ms = record { version = c.version; machine = Some c.machine; rows = c.rows; marks = ms }

  claim_outline : (c : Book D S R) (by : Who) (o : Option (ℕ × ℕ × S)) → outline_in (Some (claim_found c by o)) ≡ outline_in (Some c)
  claim_outline c by None = refl
  claim_outline c by (Some f) = ap (with_marks c) (cycles-marked (takes by) (length c.tickets + 1) c.segs)

  install_outline : (c : Book D S R) (n : ℕ) (o : Option (DrawnTicket D S R)) → outline_in (Some (install_found k c n o)) ≡ outline_in (Some c)
  install_outline c n None = refl
  install_outline c n (Some t) =
      cond_both (is_current k c t) (with_segs c (joined k c.machine t (result_of k t) 0 c.first c.segs)) c (λ (x : Book D S R). outline_in (Some (with_used x n)) ≡ outline_in (Some c))
      (λ _. ap (with_marks c) (cycles-joined k c.machine t (result_of k t) 0 c.first c.segs)) (λ _. refl)

  pub step_outline : (c : Book D S R) (e : Event D R O) → ((v : ℕ) (m : D) → e ≡ Opens v m → ⊥) → outline_in (Some (step k st c e)) ≡ outline_after st (outline_in (Some c)) e
  step_outline c (Opens v m) ne = absurd (ne v m refl)
  step_outline c (Runs n rows) ne =
      ap (λ (ms : List ℕ). record { version = c.version; machine = Some c.machine; rows = c.rows ++ rows; marks = ms })
      (cycles-extend k c.machine (c.rows ++ rows) c.segs (length c.rows) (last_state c.first c.segs) (grid st.interval (length c.rows) (length rows)))
  step_outline c (Reloads v m ops from) ne =
      ap (λ (ms : List ℕ). record { version = c.version + 1; machine = Some m; rows = c.rows; marks = ms })
      (cycles-reloaded k c.machine m ops c.rows (length c.rows - st.lookback) 0 (k.start m) c.segs)
  step_outline c (Claims n a b by) ne = claim_outline c by (first_link (takes by) 0 c.first c.segs)
  step_outline c (Installs n j by) ne = install_outline c n (drawn n c.tickets)
  step_outline c (Releases n by) ne = ap (with_marks c) (cycles-freed n c.segs)
  step_outline c (Shows s) ne = refl
  step_outline c Closes ne = refl

  module _ (valid : D → D → O → Type 0) where
    pub apply_outline : (b : Option (Book D S R)) (e : Event D R O) → MayCome k valid st b e → outline_in (apply k st b e) ≡ outline_after st (outline_in b) e
    apply_outline None (Opens v m) may = refl
    apply_outline None (Runs x rows) may = absurd may
    apply_outline None (Reloads v m ops from) may = absurd may
    apply_outline None (Claims n a b by) may = absurd may
    apply_outline None (Installs n j by) may = absurd may
    apply_outline None (Releases n by) may = absurd may
    apply_outline None (Shows s) may = absurd may
    apply_outline None Closes may = refl
    apply_outline (Some c) (Opens v m) may = absurd may
    apply_outline (Some c) (Runs n rows) may = step_outline c (Runs n rows) (λ v m e. cc)
    apply_outline (Some c) (Reloads v m ops from) may = step_outline c (Reloads v m ops from) (λ v m e. cc)
    apply_outline (Some c) (Claims n a b by) may = claim_outline c by (first_link (takes by) 0 c.first c.segs)
    apply_outline (Some c) (Installs n j by) may = install_outline c n (drawn n c.tickets)
    apply_outline (Some c) (Releases n by) may = ap (with_marks c) (cycles-freed n c.segs)
    apply_outline (Some c) (Shows s) may = refl
    apply_outline (Some c) Closes may = refl

    pub replay_outline : (b : Option (Book D S R)) (h : List (Event D R O)) → LegalFrom k valid st b h → outline_in (replay_from k st b h) ≡ outline_from st (outline_in b) h
    replay_outline b [] l = refl
    replay_outline b (e ∷ es) l = replay_outline (apply k st b e) es l.1 ∙ ap (λ (o : Outline D R). outline_from st o es) (apply_outline b e l.0)

-- the outline is that of the session's own entries

unowned_outline : {D R O : Type 0} (st : Settings) (o : Outline D R) (e : Event D R O) → is_owned e ≡ false → outline_after st o e ≡ o
unowned_outline st o (Opens v m) h = absurd cc
unowned_outline st o (Runs n rows) h = absurd cc
unowned_outline st o (Reloads v m ops from) h = absurd cc
unowned_outline st o (Claims n a b by) h = refl
unowned_outline st o (Installs n j by) h = refl
unowned_outline st o (Releases n by) h = refl
unowned_outline st o (Shows s) h = refl
unowned_outline st o Closes h = refl

pub owned_outline : {D R O : Type 0} (st : Settings) (o : Outline D R) (h : List (Event D R O)) → outline_from st o h ≡ outline_from st o (owned h)
owned_outline st o [] = refl
owned_outline {D} {R} {O} st o (e ∷ es) =
    let ih = owned_outline st (outline_after st o e) es in
    cond_both (is_owned e) (e ∷ owned es) (owned es) (λ (x : List (Event D R O)). outline_from st o (e ∷ es) ≡ outline_from st o x)
    (λ _. ih) (λ un. ih ∙ ap (λ (p : Outline D R). outline_from st p (owned es)) (unowned_outline st o e un))

-- what a legal history makes of its book's outline is decided by the session's own entries
pub legal_outline : {D S R O : Type 0} (k : Kit D S R O) (valid : D → D → O → Type 0) (st : Settings) (h : List (Event D R O)) → Legal k valid st h
    → outline_in (replay k st h) ≡ outline_from st blank (owned h)
legal_outline k valid st h l = replay_outline k st valid None h l.follows ∙ owned_outline st blank h

pub outline-append : {D R O : Type 0} (st : Settings) (o : Outline D R) (xs ys : List (Event D R O)) → outline_from st o (xs ++ ys) ≡ outline_from st (outline_from st o xs) ys
outline-append st o [] ys = refl
outline-append st o (x ∷ xs) ys = outline-append st (outline_after st o x) xs ys

-- counts

count_owned : (n m : Counts) (x : Kind) → is_of_session x ≡ true → n.session ≡ m.session → n.closed ≡ m.closed
    → ((count_kind n x).session ≡ (count_kind m x).session) × ((count_kind n x).closed ≡ (count_kind m x).closed)
count_owned n m SessionsOwn h s c = (omega (arith, s), c)
count_owned n m (DrawsTicket i Session) h s c = (omega (arith, s), c)
count_owned n m (DrawsTicket i (Worker w)) h s c = absurd cc
count_owned n m (UsesTicket i Session) h s c = (omega (arith, s), c)
count_owned n m (UsesTicket i (Worker w)) h s c = absurd cc
count_owned n m EndsClaims h s c = (s, refl)

count_unowned : (n : Counts) (x : Kind) → is_of_session x ≡ false → ((count_kind n x).session ≡ n.session) × ((count_kind n x).closed ≡ n.closed)
count_unowned n SessionsOwn h = absurd cc
count_unowned n (DrawsTicket i Session) h = absurd cc
count_unowned n (DrawsTicket i (Worker w)) h = (refl, refl)
count_unowned n (UsesTicket i Session) h = absurd cc
count_unowned n (UsesTicket i (Worker w)) h = (refl, refl)
count_unowned n EndsClaims h = absurd cc

-- the session's count and whether there is a Close are those of its own entries
pub owned_counts : {D R O : Type 0} (n m : Counts) (h : List (Event D R O)) → n.session ≡ m.session → n.closed ≡ m.closed
    → ((count_all n h).session ≡ (count_all m (owned h)).session) × ((count_all n h).closed ≡ (count_all m (owned h)).closed)
owned_counts n m [] s c = (s, c)
owned_counts {D} {R} {O} n m (e ∷ es) s c =
    cond_both (is_owned e) (e ∷ owned es) (owned es)
    (λ (x : List (Event D R O)). ((count_all (count n e) es).session ≡ (count_all m x).session) × ((count_all (count n e) es).closed ≡ (count_all m x).closed))
    (λ own. let t = count_owned n m (kind_of e) own s c in owned_counts (count n e) (count m e) es t.0 t.1)
    (λ un. let t = count_unowned n (kind_of e) un in owned_counts (count n e) m es (t.0 ∙ s) (t.1 ∙ c))

-- versions

counted_least : (n : Counts) (by : Who) → n.session ≤ (counted n by).session
counted_least n Session = omega arith
counted_least n (Worker w) = omega arith

module _ {D S R O : Type 0} (k : Kit D S R O) (st : Settings) (valid : D → D → O → Type 0) where
  same_version : (c d : Book D S R) (n m : ℕ) → outline_in (Some d) ≡ outline_in (Some c) → n ≤ m → VersionIs (Some c) n → VersionIs (Some d) m
  same_version c d n m e le v = let same : d.version ≡ c.version = ap (λ (o : Outline D R). o.version) e in (omega (arith, same, v.0), omega (arith, same, v.1, le))

  version_after : (b : Option (Book D S R)) (n : Counts) (e : Event D R O) → MayCome k valid st b e → VersionIs b n.session → VersionIs (apply k st b e) (count n e).session
  version_after None n (Opens v m) may h = (omega arith, omega arith)
  version_after None n (Runs x rows) may h = absurd may
  version_after None n (Reloads v m ops from) may h = absurd may
  version_after None n (Claims i a b by) may h = absurd may
  version_after None n (Installs i j by) may h = absurd may
  version_after None n (Releases i by) may h = absurd may
  version_after None n (Shows s) may h = absurd may
  version_after None n Closes may h = tt
  version_after (Some c) n (Opens v m) may h = absurd may
  version_after (Some c) n (Runs x rows) may h = (h.0, omega (arith, h.1))
  version_after (Some c) n (Reloads v m ops from) may h = (omega (arith, h.0), omega (arith, h.1))
  version_after (Some c) n (Claims i a b by) may h =
      same_version c (claim_found c by (first_link (takes by) 0 c.first c.segs)) n.session (counted n by).session (claim_outline k st c by (first_link (takes by) 0 c.first c.segs)) (counted_least n by) h
  version_after (Some c) n (Installs i j by) may h =
      same_version c (install_found k c i (drawn i c.tickets)) n.session (counted n by).session (install_outline k st c i (drawn i c.tickets)) (counted_least n by) h
  version_after (Some c) n (Releases i by) may h = (h.0, omega (arith, h.1, counted_least n by))
  version_after (Some c) n (Shows s) may h = (h.0, omega (arith, h.1))
  version_after (Some c) n Closes may h = h

  version_from : (b : Option (Book D S R)) (n : Counts) (h : List (Event D R O)) → LegalFrom k valid st b h → VersionIs b n.session → VersionIs (replay_from k st b h) (count_all n h).session
  version_from b n [] l v = v
  version_from b n (e ∷ es) l v = version_from (apply k st b e) (count n e) es l.1 (version_after b n e l.0 v)

  pub legal_version : (h : List (Event D R O)) → Legal k valid st h → VersionIs (replay k st h) (count_all no_entry h).session
  legal_version h l = version_from None no_entry h l.follows tt

module _ {D S R O : Type 0} (k : Kit D S R O) (valid : D → D → O → Type 0) where
  -- the outline after more entries
  pub outline_more : (st : Settings) (h es : List (Event D R O)) → Legal k valid st (h ++ es)
      → outline_in (replay k st (h ++ es)) ≡ outline_from st (outline_in (replay k st h)) es
  outline_more st h es l =
      replay_outline k st valid None (h ++ es) l.follows
      ∙ outline-append st blank h es
      ∙ ap (λ (o : Outline D R). outline_from st o es) (sym (replay_outline k st valid None h (follows_first k st valid None h es l.follows)))
