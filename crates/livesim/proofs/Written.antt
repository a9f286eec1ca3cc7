-- What was written of some bytes.
use Rattle.std.proofs.Common.{◌≡◌, ℕ, ◌-◌, List, [], ◌++◌, length, take, drop, Option, ap, ◌∙◌, append-nil, append_assoc, take-append-drop, arith}
use Rattle.std.proofs.lemmas.List.{take_all, length-drop}
use Rattle.std.proofs.KnownBytes.{Appends-trans}
use Rattle.std.specs.Io.KnownBytes.{Appends}
use Rattle.livesim.specs.Writing.{Writes}

-- one write more
pub wrote_more : (old mid new : Option (List ℕ)) (front rest all : List ℕ) (n : ℕ) → front ++ rest ≡ all → Appends old mid front → Appends mid new (take n rest)
    → (more : List ℕ) × (more ++ take (length rest - n) (drop n rest) ≡ all) × Appends old new more
wrote_more old mid new front rest all n is before now = (
  front ++ take n rest,
  append_assoc front (take n rest) _
      ∙ ap (λ r. front ++ (take n rest ++ r)) (take_all (length rest - n) (drop n rest) (omega (arith, length-drop n rest)))
      ∙ ap (λ r. front ++ r) (take-append-drop n rest) ∙ is,
  Appends-trans old mid new front (take n rest) before now,
)

-- a text and then a front of another are a front of both
pub writes_front : (old mid new : Option (List ℕ)) (text more : List ℕ) → Appends old mid text → Writes mid new more → Writes old new (text ++ more)
writes_front old mid new text more before w = record {
  front = text ++ w.front;
  rest = w.rest;
  split = append_assoc text w.front w.rest ∙ ap (λ z. text ++ z) w.split;
  appended = Appends-trans old mid new text w.front before w.appended;
}

-- a whole text is a front of it
pub front_all : (old new : Option (List ℕ)) (all : List ℕ) → Appends old new all → Writes old new all
front_all old new all h = record { front = all; rest = []; split = append-nil all; appended = h }
