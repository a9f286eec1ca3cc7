-- Entries that are all the session's own.
use Rattle.std.proofs.Common.{ℕ, true, List, [], ◌∷◌, ◌++◌, refl, sym, subst}
use Rattle.book_history.specs.declared.who.Who.TheVariants.{Session}
use Rattle.book_history.specs.Book.{Event, Claims, Installs}
use Rattle.book_history.specs.Owned.{AllOwned}
use Rattle.segment_verify.specs.Passes.{ArePasses, no_pass, one_more, IsGivenUp, no_ticket, one_ticket, IsUnfinished}

module _ {D R O : Type 0} where
  pub alone-append : (xs ys : List (Event D R O)) → AllOwned true xs → AllOwned true ys → AllOwned true (xs ++ ys)
  alone-append [] ys front back = back
  alone-append (x ∷ xs) ys front back = (front.0, alone-append xs ys front.1 back)

  pub alone_front : (xs ys : List (Event D R O)) → AllOwned true (xs ++ ys) → AllOwned true xs
  alone_front [] ys all = tt
  alone_front (x ∷ xs) ys all = (all.0, alone_front xs ys all.1)

  -- the entries of a settle for which memory ran out

  passes_alone : (n : ℕ) (es : List (Event D R O)) → ArePasses n es → AllOwned true es
  passes_alone n es no_pass = tt
  passes_alone n es (one_more m n' t a b j fs are is) =
      alone-append fs (Claims t a b Session ∷ Installs t j Session ∷ []) (passes_alone m fs are) (refl, (refl, tt))

  gave_up_alone : (es : List (Event D R O)) → IsGivenUp es → AllOwned true es
  gave_up_alone es no_ticket = tt
  gave_up_alone es (one_ticket t a b) = (refl, (refl, tt))

  pub unfinished_alone : (es : List (Event D R O)) → IsUnfinished es → AllOwned true es
  unfinished_alone es u =
      subst (λ (all : List (Event D R O)). AllOwned true all) (sym u.split)
      (alone-append u.passes u.last (passes_alone u.count u.passes u.are) (gave_up_alone u.last u.gave_up))
