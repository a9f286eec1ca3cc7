-- What is left of links, and that a claim finds nothing exactly where it takes none of it.
use Rattle.std.proofs.Common.{◌≡◌, ℕ, List, [], ◌∷◌, ◌++◌, refl, sym, ◌∙◌, ap, Bool, true, false, cond, not, ◌||◌}
use Rattle.std.specs.Prelude.{Some}
use Rattle.book_history.specs.declared.link.Link.{Link}
use Rattle.book_history.specs.declared.link.Link.TheVariants.{Open, Out, Joined}
use Rattle.book_history.specs.declared.segment.Segment.{Segment}
use Rattle.book_history.specs.declared.who.Who.{Who}
use Rattle.book_history.specs.declared.who.Who.TheVariants.{Session, Worker}
use Rattle.book_history.specs.Book.{is_open, is_joined, all_joined, takes, first_link}
use Rattle.checkpoint_book.specs.declared.left.Left.TheVariants.{SomeOpen, SomeOut, AllJoined}
use Rattle.checkpoint_book.specs.Idle.{any_open, left_of, left_of_both, takes_none}
use Rattle.checkpoint_book.specs.Views.{is_none}
use Rattle.checkpoint_book.proofs.FirstLinks.{finds_none}

session_takes : (p q : Bool) → (p ≡ true → q ≡ false) → takes_none Session (cond p SomeOpen (cond q AllJoined SomeOut)) ≡ q
session_takes true q h = sym (h refl)
session_takes false true h = refl
session_takes false false h = refl

worker_takes : (w : ℕ) (p q : Bool) → takes_none (Worker w) (cond p SomeOpen (cond q AllJoined SomeOut)) ≡ not p
worker_takes w true q = refl
worker_takes w false true = refl
worker_takes w false false = refl

module _ {S : Type 0} where
  open_not_joined : (segs : List (Segment S)) → any_open segs ≡ true → all_joined segs ≡ false
  open_not_joined [] h = absurd cc
  open_not_joined (g ∷ gs) h = go g.link h (open_not_joined gs)
    where
      go : (l : Link) → is_open l || any_open gs ≡ true → (any_open gs ≡ true → all_joined gs ≡ false) → cond (is_joined l) (all_joined gs) false ≡ false
      go Open h ih = refl
      go (Out n) h ih = refl
      go Joined h ih = ih h

  worker_none : (w a : ℕ) (s : S) (segs : List (Segment S)) → is_none (first_link (takes (Worker w)) a s segs) ≡ not (any_open segs)
  worker_none w a s [] = refl
  worker_none w a s (g ∷ gs) = go g.link (worker_none w g.to g.state gs)
    where
      go : (l : Link) → is_none (first_link (takes (Worker w)) g.to g.state gs) ≡ not (any_open gs)
          → is_none (cond (takes (Worker w) l) (Some (a, g.to, s)) (first_link (takes (Worker w)) g.to g.state gs)) ≡ not (is_open l || any_open gs)
      go Open ih = refl
      go (Out n) ih = ih
      go Joined ih = ih

  pub takes_none_is : (by : Who) (a : ℕ) (s : S) (segs : List (Segment S)) → takes_none by (left_of segs) ≡ is_none (first_link (takes by) a s segs)
  takes_none_is Session a s segs = session_takes (any_open segs) (all_joined segs) (open_not_joined segs) ∙ sym (finds_none a s segs)
  takes_none_is (Worker w) a s segs = worker_takes w (any_open segs) (all_joined segs) ∙ sym (worker_none w a s segs)

  any-append : (xs ys : List (Segment S)) → any_open (xs ++ ys) ≡ any_open xs || any_open ys
  any-append [] ys = refl
  any-append (x ∷ xs) ys = go (is_open x.link) (any-append xs ys)
    where
      go : (b : Bool) → any_open (xs ++ ys) ≡ any_open xs || any_open ys → b || any_open (xs ++ ys) ≡ (b || any_open xs) || any_open ys
      go true h = refl
      go false h = h

  all-append : (xs ys : List (Segment S)) → all_joined (xs ++ ys) ≡ cond (all_joined xs) (all_joined ys) false
  all-append [] ys = refl
  all-append (x ∷ xs) ys = go (is_joined x.link) (all-append xs ys)
    where
      go : (b : Bool) → all_joined (xs ++ ys) ≡ cond (all_joined xs) (all_joined ys) false
          → cond b (all_joined (xs ++ ys)) false ≡ cond (cond b (all_joined xs) false) (all_joined ys) false
      go true h = h
      go false h = refl

  pub left-append : (xs ys : List (Segment S)) → left_of (xs ++ ys) ≡ left_of_both (left_of xs) (left_of ys)
  left-append xs ys =
      ap (λ (b : Bool). cond b SomeOpen (cond (all_joined (xs ++ ys)) AllJoined SomeOut)) (any-append xs ys)
      ∙ ap (λ (b : Bool). cond (any_open xs || any_open ys) SomeOpen (cond b AllJoined SomeOut)) (all-append xs ys)
      ∙ go (any_open xs) (all_joined xs) (any_open ys) (all_joined ys)
    where
      go : (p q p' q' : Bool) → cond (p || p') SomeOpen (cond (cond q q' false) AllJoined SomeOut)
          ≡ left_of_both (cond p SomeOpen (cond q AllJoined SomeOut)) (cond p' SomeOpen (cond q' AllJoined SomeOut))
      go true q p' q' = refl
      go false true p' q' = refl
      go false false true q' = refl
      go false false false true = refl
      go false false false false = refl
