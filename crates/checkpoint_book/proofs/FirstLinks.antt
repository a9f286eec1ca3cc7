-- The session's claim finds no link exactly where all are joined.
use Rattle.std.proofs.Common.{◌≡◌, ℕ, Bool, true, false, not, cond, List, [], ◌∷◌, refl, sym, ◌∙◌, ap}
use Rattle.std.specs.Prelude.{Option, Some, None, Result, Ok, Err, IfOk, IfSome, IfNone}
use Rattle.book_history.specs.declared.link.Link.{Link}
use Rattle.book_history.specs.declared.link.Link.TheVariants.{Open, Out, Joined}
use Rattle.book_history.specs.declared.segment.Segment.{Segment}
use Rattle.book_history.specs.declared.who.Who.TheVariants.{Session}
use Rattle.book_history.specs.Book.{Book, takes, first_link, is_joined, all_joined, settled_to}
use Rattle.checkpoint_book.specs.Views.{is_none, none_free, shown_in}

takes_not_joined : (l : Link) → takes Session l ≡ not (is_joined l)
takes_not_joined Open = refl
takes_not_joined (Out n) = refl
takes_not_joined Joined = refl

-- the first link, and what the others give
first_free : {A : Type 0} (joined rest : Bool) (x : A) (o : Option A) → is_none o ≡ rest → is_none (cond (not joined) (Some x) o) ≡ cond joined rest false
first_free true rest x o h = h
first_free false rest x o h = refl

pub finds_none : {S : Type 0} (a : ℕ) (s : S) (gs : List (Segment S)) → is_none (first_link (takes Session) a s gs) ≡ all_joined gs
finds_none a s [] = refl
finds_none a s (g ∷ gs) =
    ap (λ b. is_none (cond b (Some (a, g.to, s)) (first_link (takes Session) g.to g.state gs))) (takes_not_joined g.link)
    ∙ first_free (is_joined g.link) (all_joined gs) (a, g.to, s) (first_link (takes Session) g.to g.state gs) (finds_none g.to g.state gs)

shows_none : (joined : Bool) (n : ℕ) → joined ≡ is_none (cond joined None (Some n))
shows_none true n = refl
shows_none false n = refl

pub none_where_settled : {D S R : Type 0} (b : Option (Book D S R)) → none_free Session b ≡ is_none (shown_in b)
none_where_settled None = refl
none_where_settled (Some c) = finds_none 0 c.first c.segs ∙ shows_none (all_joined c.segs) (settled_to 0 c.segs)

-- an answer that is none where no link is free
pub as_shown : {T E : Type 0} (A : Type 0) (r : Result (Option T) E) (free settled : Bool) → free ≡ settled → IfOk r (λ o. IfNone o (A × (free ≡ true)))
    → IfOk r (λ o. IfSome o (λ t. free ≡ false)) → IfOk r (λ o. is_none o ≡ settled)
as_shown A (Ok None) free settled same none some = sym none.1 ∙ same
as_shown A (Ok (Some t)) free settled same none some = sym some ∙ same
as_shown A (Err e) free settled same none some = tt
