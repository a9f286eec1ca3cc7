-- Moments of a history that goes on.
use Rattle.std.proofs.Common.{◌≡◌, ◌≤◌, List, [], ◌∷◌, ◌++◌, length, refl, ap, arith, Bool, true, false}
use Rattle.std.specs.Prelude.{Option, Some, None, if◌then◌else◌}
use Rattle.machine.specs.Kit.{Kit}
use Rattle.book_history.specs.declared.segment.Segment.{Segment}
use Rattle.book_history.specs.declared.link.Link.{Link}
use Rattle.book_history.specs.declared.link.Link.TheVariants.{Open, Out, Joined}
use Rattle.book_history.specs.Book.{Book, Settings, Event, apply, replay_from, lead, lead_past, all_joined, is_joined}
use Rattle.book_history.specs.Readers.{IsOpened}
use Rattle.book_history.specs.Moments.{Moment, is_spoken, moments_from}

pub replay-append : {D S R O : Type 0} (k : Kit D S R O) (st : Settings) (b : Option (Book D S R)) (xs ys : List (Event D R O))
    → replay_from k st b (xs ++ ys) ≡ replay_from k st (replay_from k st b xs) ys
replay-append k st b [] ys = refl
replay-append k st b (x ∷ xs) ys = replay-append k st (apply k st b x) xs ys

pub moments-append : {D S R O : Type 0} (k : Kit D S R O) (st : Settings) (b : Option (Book D S R)) (xs ys : List (Event D R O))
    → moments_from k st b (xs ++ ys) ≡ moments_from k st b xs ++ moments_from k st (replay_from k st b xs) ys
moments-append k st b [] ys = refl
moments-append {D} {S} {R} {O} k st b (x ∷ xs) ys = go (is_spoken x) (moments-append k st (apply k st b x) xs ys)
  where
    go : (t : Bool)
        → moments_from k st (apply k st b x) (xs ++ ys) ≡ moments_from k st (apply k st b x) xs ++ moments_from k st (replay_from k st (apply k st b x) xs) ys
        → (if t then record { entry = x; book = b } ∷ moments_from k st (apply k st b x) (xs ++ ys) else moments_from k st (apply k st b x) (xs ++ ys))
        ≡ (if t then record { entry = x; book = b } ∷ moments_from k st (apply k st b x) xs else moments_from k st (apply k st b x) xs)
        ++ moments_from k st (replay_from k st (apply k st b x) xs) ys
    go true ih = ap (λ (l : List (Moment D S R O)). record { entry = x; book = b } ∷ l) ih
    go false ih = ih

-- where as many links lead as there are, all are joined
pub lead_all : {S : Type 0} (xs : List (Segment S)) → length xs ≤ lead xs → all_joined xs ≡ true
lead_all [] h = refl
lead_all {S} (g ∷ gs) h = go g.link h (lead_all gs)
  where
    go : (l : Link) → length (g ∷ gs) ≤ lead_past l (lead gs) → (length gs ≤ lead gs → all_joined gs ≡ true) → (if is_joined l then all_joined gs else false) ≡ true
    go Open h ih = absurd (omega (arith, h))
    go (Out n) h ih = absurd (omega (arith, h))
    go Joined h ih = ih (omega (arith, h))

-- an opened book stays open
pub still_opened : {D S R O : Type 0} (k : Kit D S R O) (st : Settings) (b : Option (Book D S R)) (es : List (Event D R O)) → IsOpened b → IsOpened (replay_from k st b es)
still_opened k st None es h = absurd h
still_opened k st (Some c) [] h = tt
still_opened k st (Some c) (e ∷ es) h = still_opened k st (apply k st (Some c) e) es tt
