-- Passes, and then a show.
use Rattle.std.proofs.Common.{◌≡◌, ℕ, ◌+◌, ◌*◌, ◌≤◌, ◌<◌, ◌⊎◌, inl, inr, min, List, [], ◌∷◌, ◌++◌, length, refl, ◌∙◌, ap, subst, arith, append_assoc}
use Rattle.std.specs.Prelude.{Option, Some, None, false}
use Rattle.std.proofs.lemmas.Bool.{cond-true, cases_lt}
use Rattle.machine.specs.Kit.{Kit}
use Rattle.book_history.specs.Book.{Book, Settings, Event, Shows, replay, apply, settled_to}
use Rattle.book_history.specs.Journal.{Journal}
use Rattle.book_history.specs.Law.{lead_in}
use Rattle.book_history.specs.Legal.{Legal}
use Rattle.book_history.specs.Readers.{links_in}
use Rattle.book_history.proofs.Places.{lead_all}
use Rattle.book_history.specs.Rooms.{Counts, count, count_all, no_entry}
use Rattle.book_history.proofs.Prefixes.{count-snoc, replay-snoc, count-append}
use Rattle.checkpoint_book.specs.Views.{book_of, counts_of, shown_in}
use Rattle.segment_verify.specs.Rises.{HasPassed}
use Rattle.segment_verify.specs.Settles.{HasSettled, HasTried}
use Rattle.segment_verify.specs.Counted.{with_more}
use Rattle.segment_verify.proofs.Counting.{passes_links, settle_counts, unfinished_counts, unfinished_long}

-- where as many links lead as there are, a show answers settled
pub all_settled : {D S R : Type 0} (b : Option (Book D S R)) → links_in b ≤ lead_in b → shown_in b ≡ None
all_settled None le = refl
all_settled (Some c) le = cond-true _ None (Some (settled_to 0 c.segs)) (lead_all c.segs le)

-- fewer passes than were allowed, or enough for all links
pub enough : (n most passes links : ℕ) → most ≡ min passes links → n ≤ most → most ≤ n → (n < passes) ⊎ (links ≤ passes) → links ≤ n
enough n most passes links is few all (inl fewer) = omega (arith, is, few, all, fewer)
enough n most passes links is few all (inr each) = omega (arith, is, few, all, each)

module _ {D S R O : Type 0} (k : Kit D S R O) where
  -- a show leaves the book
  shows_nothing : (st : Settings) (b : Option (Book D S R)) (answer : Option ℕ) → apply k st b (Shows answer) ≡ b
  shows_nothing st None answer = refl
  shows_nothing st (Some c) answer = refl

  book_shown : (j m : Journal D R O) (answer : Option ℕ) → m.settings ≡ j.settings → m.events ≡ j.events ++ Shows answer ∷ [] → book_of k m ≡ book_of k j
  book_shown j m answer settings events =
      ap (λ (x : List (Event D R O)). replay k m.settings x) events
      ∙ ap (λ (x : Settings). replay k x (j.events ++ Shows answer ∷ [])) settings
      ∙ replay-snoc k j.settings None j.events (Shows answer)
      ∙ shows_nothing j.settings (book_of k j) answer

  module _ (valid : D → D → O → Type 0) (j m : Journal D R O) (n : ℕ) (h : HasPassed k j m n) (legal : Legal k valid m.settings m.events) where
    passed_links : links_in (book_of k m) ≡ links_in (book_of k j)
    passed_links =
        let there : Legal k valid j.settings (j.events ++ h.own) =
        subst (λ (x : Settings). Legal k valid x (j.events ++ h.own)) h.settings
        (subst (λ (x : List (Event D R O)). Legal k valid m.settings x) h.events legal) in
        ap (λ (x : List (Event D R O)). links_in (replay k m.settings x)) h.events
        ∙ ap (λ (x : Settings). links_in (replay k x (j.events ++ h.own))) h.settings
        ∙ passes_links k j.settings valid j.events n h.own h.are there

    -- a pass for each link settles
    passed_settled : links_in (book_of k j) ≤ n → shown_in (book_of k m) ≡ None
    passed_settled le = all_settled (book_of k m) (omega (arith, le, passed_links, h.leads))

    stopped : (most passes links : ℕ) → links ≡ links_in (book_of k j) → most ≡ min passes links → n ≤ most → (n < most → shown_in (book_of k m) ≡ None)
        → (n < passes) ⊎ (links ≤ passes) → shown_in (book_of k m) ≡ None
    stopped most passes links are is few stops why = go (cases_lt n most)
      where
        go : (n < most) ⊎ (most ≤ n) → shown_in (book_of k m) ≡ None
        go (inl lt) = stops lt
        go (inr le) = passed_settled (omega (arith, are, enough n most passes links is few le why))

    pub settled_by : (new : Journal D R O) (most passes links : ℕ) (answer : Option ℕ) → links ≡ links_in (book_of k j) → most ≡ min passes links → n ≤ most
        → (n < most → shown_in (book_of k m) ≡ None)
        → new.settings ≡ m.settings → new.events ≡ m.events ++ Shows answer ∷ [] → answer ≡ shown_in (book_of k m) → HasSettled k j new passes answer
    settled_by new most passes links answer are min_is few stops settings events is =
        record {
          own = h.own ++ Shows answer ∷ [];
          settings = settings ∙ h.settings;
          events = events ∙ ap (λ (x : List (Event D R O)). x ++ Shows answer ∷ []) h.events ∙ append_assoc j.events h.own (Shows answer ∷ []);
          is_settle = record {
            passes = h.own;
            count = n;
            answer = answer;
            split = refl;
            are = h.are;
            few = omega (arith, few, min_is);
            stops = λ lt. is ∙ stopped most passes links are min_is few stops (inl lt);
            all = λ le. is ∙ stopped most passes links are min_is few stops (inr (omega (arith, are, le)));
          };
          answers = refl;
          within = omega (arith, few, min_is, are);
          leads = omega (arith, h.leads, ap (λ (b : Option (Book D S R)). lead_in b) (book_shown m new answer settings events));
        }

-- how the entries of a book are counted behind a settle

module _ {D S R O : Type 0} (k : Kit D S R O) where
  pub settled_counts : (j m : Journal D R O) (n : ℕ) (answer : Option ℕ) (h : HasSettled k j m n answer) → counts_of m ≡ with_more (counts_of j) (2 * h.is_settle.count + 1)
  settled_counts j m n answer h =
      ap (λ (x : List (Event D R O)). count_all no_entry x) h.events
      ∙ count-append no_entry j.events h.own
      ∙ settle_counts (counts_of j) n (links_in (book_of k j)) h.own h.is_settle

  pub settled_open : (j m : Journal D R O) (n : ℕ) (answer : Option ℕ) → HasSettled k j m n answer → (counts_of j).closed ≡ false → (counts_of m).closed ≡ false
  settled_open j m n answer h is = ap (λ (x : Counts). x.closed) (settled_counts j m n answer h) ∙ is

module _ {D R O : Type 0} where
  pub tried_counts : (j m : Journal D R O) (n : ℕ) (h : HasTried j m n) → counts_of m ≡ with_more (counts_of j) (length h.own)
  tried_counts j m n h =
      ap (λ (x : List (Event D R O)). count_all no_entry x) h.events
      ∙ count-append no_entry j.events h.own
      ∙ unfinished_counts (counts_of j) h.own h.unfinished

  -- no more entries than of n passes
  pub tried_long : (j m : Journal D R O) (n : ℕ) (h : HasTried j m n) → length h.own ≤ 2 * n
  tried_long j m n h = omega (arith, unfinished_long h.own h.unfinished, h.few)

  -- a book with one entry more that is no close
  pub still_open : (j m : Journal D R O) (e : Event D R O) → m.events ≡ j.events ++ e ∷ [] → (count (counts_of j) e).closed ≡ false → (counts_of m).closed ≡ false
  still_open j m e events is = ap (λ (x : List (Event D R O)). (count_all no_entry x).closed) events ∙ ap (λ (x : Counts). x.closed) (count-snoc no_entry j.events e) ∙ is
