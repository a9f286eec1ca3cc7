-- What passes of a settle, a whole one and an unfinished one leave of a book, and how they are counted.
use Rattle.std.proofs.Common.{◌≡◌, ℕ, ◌+◌, ◌*◌, ◌≤◌, List, [], ◌∷◌, ◌++◌, length, refl, sym, ◌∙◌, ap, subst, arith, append_assoc}
use Rattle.std.specs.Prelude.{Option, None}
use Rattle.std.proofs.lemmas.List.{length-append}
use Rattle.machine.specs.Kit.{Kit}
use Rattle.book_history.specs.declared.who.Who.TheVariants.{Session}
use Rattle.book_history.specs.Book.{Book, Settings, Event, Claims, Installs, Shows, replay, replay_from}
use Rattle.book_history.specs.Legal.{Legal}
use Rattle.book_history.specs.Moments.{Moment, moments_from}
use Rattle.book_history.specs.Outline.{Outline, outline_in, outline_from}
use Rattle.book_history.specs.Owned.{owned}
use Rattle.book_history.specs.Readers.{links_in}
use Rattle.book_history.specs.Rooms.{Counts, count, count_all}
use Rattle.book_history.proofs.Outlines.{outline-append, outline_more, links_marked}
use Rattle.book_history.proofs.Owned.{owned_append}
use Rattle.book_history.proofs.Places.{moments-append, replay-append}
use Rattle.book_history.proofs.Prefixes.{count-append, legal_first}
use Rattle.segment_verify.specs.Passes.{ArePasses, no_pass, one_more, IsSettle, IsGivenUp, no_ticket, one_ticket, IsUnfinished}
use Rattle.segment_verify.specs.Counted.{with_more}

with_none : (c : Counts) → c ≡ with_more c 0
with_none c =
    let same : c.session ≡ c.session + 0 = omega arith in
    ap (λ (n : ℕ). record { session = n; workers = c.workers; closed = c.closed }) same

with_sum : (c : Counts) (n m : ℕ) → with_more (with_more c n) m ≡ with_more c (n + m)
with_sum c n m =
    let same : c.session + n + m ≡ c.session + (n + m) = omega arith in
    ap (λ (x : ℕ). record { session = x; workers = c.workers; closed = c.closed }) same

with_two : (c : Counts) (n : ℕ) → record { session = c.session + n + 1 + 1; workers = c.workers; closed = c.closed } ≡ with_more c (n + 2)
with_two c n =
    let same : c.session + n + 1 + 1 ≡ c.session + (n + 2) = omega arith in
    ap (λ (m : ℕ). record { session = m; workers = c.workers; closed = c.closed }) same

with_one : (c : Counts) (n : ℕ) → record { session = c.session + n + 1; workers = c.workers; closed = c.closed } ≡ with_more c (n + 1)
with_one c n =
    let same : c.session + n + 1 ≡ c.session + (n + 1) = omega arith in
    ap (λ (m : ℕ). record { session = m; workers = c.workers; closed = c.closed }) same

module _ {D R O : Type 0} where
  -- behind entries that are all the session's own
  owned_behind : (xs ys : List (Event D R O)) → owned xs ≡ xs → owned (xs ++ ys) ≡ xs ++ owned ys
  owned_behind xs ys own = owned_append xs ys ∙ ap (λ (l : List (Event D R O)). l ++ owned ys) own

  -- passes

  pub passes_owned : (n : ℕ) (es : List (Event D R O)) → ArePasses n es → owned es ≡ es
  passes_owned n es no_pass = refl
  passes_owned n es (one_more m n' t a b j fs are is) = owned_behind fs (Claims t a b Session ∷ Installs t j Session ∷ []) (passes_owned m fs are)

  pub passes_outline : (st : Settings) (o : Outline D R) (n : ℕ) (es : List (Event D R O)) → ArePasses n es → outline_from st o es ≡ o
  passes_outline st o n es no_pass = refl
  passes_outline st o n es (one_more m n' t a b j fs are is) =
      outline-append st o fs (Claims t a b Session ∷ Installs t j Session ∷ []) ∙ passes_outline st o m fs are

  pub passes_counts : (c : Counts) (n : ℕ) (es : List (Event D R O)) → ArePasses n es → count_all c es ≡ with_more c (2 * n)
  passes_counts c n es no_pass = with_none c
  passes_counts c n es (one_more m n' t a b j fs are is) =
      let twice : 2 * m + 2 ≡ 2 * n = omega (arith, is) in
      count-append c fs (Claims t a b Session ∷ Installs t j Session ∷ [])
      ∙ ap (λ (x : Counts). count_all {D = D} {R = R} {O = O} x (Claims t a b Session ∷ Installs t j Session ∷ [])) (passes_counts c m fs are)
      ∙ with_two c (2 * m)
      ∙ ap (λ (x : ℕ). with_more c x) twice

  pub passes_long : (n : ℕ) (es : List (Event D R O)) → ArePasses n es → length es ≡ 2 * n
  passes_long n es no_pass = omega arith
  passes_long n es (one_more m n' t a b j fs are is) =
      omega (arith, is, passes_long m fs are, length-append fs (Claims t a b Session ∷ Installs t j Session ∷ []))

  -- a whole settle

  pub settle_owned : (n links : ℕ) (es : List (Event D R O)) → IsSettle n links es → owned es ≡ es
  settle_owned n links es s =
      ap (λ (l : List (Event D R O)). owned l) s.split
      ∙ owned_behind s.passes (Shows s.answer ∷ []) (passes_owned s.count s.passes s.are)
      ∙ sym s.split

  pub settle_outline : (st : Settings) (o : Outline D R) (n links : ℕ) (es : List (Event D R O)) → IsSettle n links es → outline_from st o es ≡ o
  settle_outline st o n links es s =
      ap (λ (l : List (Event D R O)). outline_from st o l) s.split
      ∙ outline-append st o s.passes (Shows s.answer ∷ [])
      ∙ passes_outline st o s.count s.passes s.are

  pub settle_counts : (c : Counts) (n links : ℕ) (es : List (Event D R O)) (s : IsSettle n links es) → count_all c es ≡ with_more c (2 * s.count + 1)
  settle_counts c n links es s =
      ap (λ (l : List (Event D R O)). count_all c l) s.split
      ∙ count-append c s.passes (Shows s.answer ∷ [])
      ∙ ap (λ (x : Counts). count_all {D = D} {R = R} {O = O} x (Shows s.answer ∷ [])) (passes_counts c s.count s.passes s.are)
      ∙ with_one c (2 * s.count)

  -- an unfinished one

  given_up_owned : (es : List (Event D R O)) → IsGivenUp es → owned es ≡ es
  given_up_owned es no_ticket = refl
  given_up_owned es (one_ticket t a b) = refl

  given_up_outline : (st : Settings) (o : Outline D R) (es : List (Event D R O)) → IsGivenUp es → outline_from st o es ≡ o
  given_up_outline st o es no_ticket = refl
  given_up_outline st o es (one_ticket t a b) = refl

  given_up_counts : (c : Counts) (es : List (Event D R O)) → IsGivenUp es → count_all c es ≡ with_more c (length es)
  given_up_counts c es no_ticket = with_none c
  given_up_counts c es (one_ticket t a b) =
      let same : c.session + 1 + 1 ≡ c.session + 2 = omega arith in
      ap (λ (n : ℕ). record { session = n; workers = c.workers; closed = c.closed }) same

  given_up_long : (es : List (Event D R O)) → IsGivenUp es → length es ≤ 2
  given_up_long es no_ticket = omega arith
  given_up_long es (one_ticket t a b) = omega arith

  pub unfinished_owned : (es : List (Event D R O)) → IsUnfinished es → owned es ≡ es
  unfinished_owned es u =
      ap (λ (l : List (Event D R O)). owned l) u.split
      ∙ owned_behind u.passes u.last (passes_owned u.count u.passes u.are)
      ∙ ap (λ (l : List (Event D R O)). u.passes ++ l) (given_up_owned u.last u.gave_up)
      ∙ sym u.split

  pub unfinished_outline : (st : Settings) (o : Outline D R) (es : List (Event D R O)) → IsUnfinished es → outline_from st o es ≡ o
  unfinished_outline st o es u =
      ap (λ (l : List (Event D R O)). outline_from st o l) u.split
      ∙ outline-append st o u.passes u.last
      ∙ ap (λ (p : Outline D R). outline_from st p u.last) (passes_outline st o u.count u.passes u.are)
      ∙ given_up_outline st o u.last u.gave_up

  pub unfinished_long : (es : List (Event D R O)) (u : IsUnfinished es) → length es ≤ 2 * u.count + 2
  unfinished_long es u =
      omega (
        arith,
        ap (λ (l : List (Event D R O)). length l) u.split,
        length-append u.passes u.last,
        passes_long u.count u.passes u.are,
        given_up_long u.last u.gave_up,
      )

  pub unfinished_counts : (c : Counts) (es : List (Event D R O)) → IsUnfinished es → count_all c es ≡ with_more c (length es)
  unfinished_counts c es u =
      let many : 2 * u.count + length u.last ≡ length es =
      omega (arith, ap (λ (l : List (Event D R O)). length l) u.split, length-append u.passes u.last, passes_long u.count u.passes u.are) in
      ap (λ (l : List (Event D R O)). count_all c l) u.split
      ∙ count-append c u.passes u.last
      ∙ ap (λ (x : Counts). count_all x u.last) (passes_counts c u.count u.passes u.are)
      ∙ given_up_counts (with_more c (2 * u.count)) u.last u.gave_up
      ∙ with_sum c (2 * u.count) (length u.last)
      ∙ ap (λ (n : ℕ). with_more c n) many

module _ {D S R O : Type 0} (k : Kit D S R O) (st : Settings) where
  pub passes_moments : (b : Option (Book D S R)) (n : ℕ) (es : List (Event D R O)) → ArePasses n es → moments_from k st b es ≡ []
  passes_moments b n es no_pass = refl
  passes_moments b n es (one_more m n' t a c j fs are is) =
      moments-append k st b fs (Claims t a c Session ∷ Installs t j Session ∷ [])
      ∙ ap (λ (x : List (Moment D S R O)). x ++ []) (passes_moments b m fs are)

  given_up_moments : (b : Option (Book D S R)) (es : List (Event D R O)) → IsGivenUp es → moments_from k st b es ≡ []
  given_up_moments b es no_ticket = refl
  given_up_moments b es (one_ticket t a c) = refl

  pub unfinished_moments : (b : Option (Book D S R)) (es : List (Event D R O)) → IsUnfinished es → moments_from k st b es ≡ []
  unfinished_moments b es u =
      ap (λ (l : List (Event D R O)). moments_from k st b l) u.split
      ∙ moments-append k st b u.passes u.last
      ∙ ap (λ (x : List (Moment D S R O)). x ++ moments_from k st (replay_from k st b u.passes) u.last) (passes_moments b u.count u.passes u.are)
      ∙ given_up_moments (replay_from k st b u.passes) u.last u.gave_up

  -- its show alone is one of the commands' own entries
  pub settle_moments : (b : Option (Book D S R)) (n links : ℕ) (es : List (Event D R O)) (s : IsSettle n links es)
      → moments_from k st b es ≡ record { entry = Shows s.answer; book = replay_from k st b s.passes } ∷ []
  settle_moments b n links es s =
      ap (λ (l : List (Event D R O)). moments_from k st b l) s.split
      ∙ moments-append k st b s.passes (Shows s.answer ∷ [])
      ∙ ap (λ (x : List (Moment D S R O)). x ++ record { entry = Shows s.answer; book = replay_from k st b s.passes } ∷ []) (passes_moments b s.count s.passes s.are)

  module _ (valid : D → D → O → Type 0) where
    -- entries that leave the outline leave the book's
    outline_left : (h es : List (Event D R O)) → Legal k valid st (h ++ es) → ((o : Outline D R) → outline_from st o es ≡ o)
        → outline_in (replay k st (h ++ es)) ≡ outline_in (replay k st h)
    outline_left h es legal leaves = outline_more k valid st h es legal ∙ leaves (outline_in (replay k st h))

    links_left : (h es : List (Event D R O)) → Legal k valid st (h ++ es) → ((o : Outline D R) → outline_from st o es ≡ o)
        → links_in (replay k st (h ++ es)) ≡ links_in (replay k st h)
    links_left h es legal leaves =
        links_marked (replay k st (h ++ es))
        ∙ ap (λ (o : Outline D R). length o.marks) (outline_left h es legal leaves)
        ∙ sym (links_marked (replay k st h))

    pub passes_links : (h : List (Event D R O)) (n : ℕ) (es : List (Event D R O)) → ArePasses n es → Legal k valid st (h ++ es)
        → links_in (replay k st (h ++ es)) ≡ links_in (replay k st h)
    passes_links h n es are legal = links_left h es legal (λ o. passes_outline st o n es are)

    -- the show of a settle stands at a book with the outline of the book before
    pub settle_shows : (h : List (Event D R O)) (n links : ℕ) (es : List (Event D R O)) (s : IsSettle n links es) → Legal k valid st (h ++ es)
        → outline_in (replay_from k st (replay k st h) s.passes) ≡ outline_in (replay k st h)
    settle_shows h n links es s legal =
        let parts : h ++ es ≡ (h ++ s.passes) ++ Shows s.answer ∷ [] =
        ap (λ (l : List (Event D R O)). h ++ l) s.split ∙ sym (append_assoc h s.passes (Shows s.answer ∷ [])) in
        let before : Legal k valid st (h ++ s.passes) =
        legal_first k st valid (h ++ s.passes) (Shows s.answer ∷ []) (subst (λ (l : List (Event D R O)). Legal k valid st l) parts legal) in
        ap (λ (b : Option (Book D S R)). outline_in b) (sym (replay-append k st None h s.passes))
        ∙ outline_left h s.passes before (λ o. passes_outline st o s.count s.passes s.are)
