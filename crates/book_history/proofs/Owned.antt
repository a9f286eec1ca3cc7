-- The session's own entries of two histories in a row, and of one of which all are its own.
use Rattle.std.proofs.Common.{◌≡◌, Bool, true, false, true≢false, List, [], ◌∷◌, ◌++◌, if◌then◌else◌, refl, sym, ap}
use Rattle.book_history.specs.Event.{Event}
use Rattle.book_history.specs.Owned.{is_owned, owned, AllOwned}

module _ {D R O : Type 0} where
  first_owned : (b : Bool) (x : Event D R O) (a c d : List (Event D R O)) → a ≡ c ++ d → (if b then x ∷ a else a) ≡ (if b then x ∷ c else c) ++ d
  first_owned true x a c d e = ap (λ l. x ∷ l) e
  first_owned false x a c d e = e

  pub owned_append : (xs ys : List (Event D R O)) → owned (xs ++ ys) ≡ owned xs ++ owned ys
  owned_append [] ys = refl
  owned_append (x ∷ xs) ys = first_owned (is_owned x) x (owned (xs ++ ys)) (owned xs) (owned ys) (owned_append xs ys)

  is_kept : (b : Bool) (x : Event D R O) (a c : List (Event D R O)) → b ≡ true → a ≡ c → (if b then x ∷ a else a) ≡ x ∷ c
  is_kept true x a c t e = ap (λ l. x ∷ l) e
  is_kept false x a c t e = absurd (true≢false (sym t))

  pub all_owned : (es : List (Event D R O)) → AllOwned true es → owned es ≡ es
  all_owned [] h = refl
  all_owned (e ∷ es) h = is_kept (is_owned e) e (owned es) es h.0 (all_owned es h.1)
