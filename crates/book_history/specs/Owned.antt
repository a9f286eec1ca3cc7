-- The session's own entries, and what begins a history.
use Rattle.std.specs.Prelude.{◌≡◌, List, [], ◌∷◌, ◌++◌, length, drop, Bool, true, if◌then◌else◌}
use Rattle.book_history.specs.Event.{Event}
pub use Rattle.book_history.specs.Kind.{Kind, SessionsOwn, DrawsTicket, UsesTicket, EndsClaims, kind_of, is_session}

-- an entry of this kind is the session's: also a close, which ends the claims of all
abbrev pub is_of_session : Kind → Bool
is_of_session SessionsOwn = true
is_of_session (DrawsTicket n by) = is_session by
is_of_session (UsesTicket n by) = is_session by
is_of_session EndsClaims = true

module _ {D R O : Type 0} where
  -- the entry is the session's own
  abbrev pub is_owned : Event D R O → Bool
  is_owned e = is_of_session (kind_of e)

  -- the session's own entries, in order
  abbrev pub owned : List (Event D R O) → List (Event D R O)
  owned [] = []
  owned (e ∷ es) = if is_owned e then e ∷ owned es else owned es

  -- all are the session's own, or none is
  abbrev pub AllOwned : Bool → List (Event D R O) → Type 0
  AllOwned own [] = Unit {0}
  AllOwned own (e ∷ es) = (is_owned e ≡ own) × AllOwned own es

-- the list ys begins with xs
abbrev pub IsPrefix : {E : Type 0} → List E → List E → Type 0
IsPrefix {E} xs ys = (zs : List E) × (ys ≡ xs ++ zs)

-- what the list ys has after xs, which it begins with
abbrev pub added : {E : Type 0} → List E → List E → List E
added xs ys = drop (length xs) ys
