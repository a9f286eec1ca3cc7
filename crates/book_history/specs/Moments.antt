-- Entries with the book at their place.
use Rattle.std.specs.Prelude.{List, [], ◌∷◌, Bool, true, false, Option, if◌then◌else◌}
use Rattle.machine.specs.Kit.{Kit}
use Rattle.book_history.specs.Book.{Book, Settings, Event, apply}
use Rattle.book_history.specs.Kind.{Kind, SessionsOwn, DrawsTicket, UsesTicket, EndsClaims, kind_of}

-- an entry, and the book before it
pub record Moment (D S R O : Type 0) : Type 0 where
  pub entry : Event D R O
  pub book : Option (Book D S R)

abbrev pub is_spoken_kind : Kind → Bool
is_spoken_kind SessionsOwn = true
is_spoken_kind (DrawsTicket n by) = false
is_spoken_kind (UsesTicket n by) = false
is_spoken_kind EndsClaims = false

-- a command's own entry: an open, a run, a reload or a show
abbrev pub is_spoken : {D R O : Type 0} → Event D R O → Bool
is_spoken e = is_spoken_kind (kind_of e)

-- the commands' own entries of a history that begins with the book b, each with the book at its place
abbrev pub moments_from : {D S R O : Type 0} → Kit D S R O → Settings → Option (Book D S R) → List (Event D R O) → List (Moment D S R O)
moments_from k st b [] = []
moments_from k st b (e ∷ es) =
    if is_spoken e then record { entry = e; book = b } ∷ moments_from k st (apply k st b e) es else moments_from k st (apply k st b e) es
