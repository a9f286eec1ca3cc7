-- Once a command is complete nothing more is read.
use Rattle.std.proofs.Common.{◌≡◌, ◌⊎◌, inl, inr, ℕ, ◌<◌, false, List, [], ◌∷◌, ◌++◌, length, refl, sym, ap, ◌∙◌, subst, append-nil, append_assoc, length-append, arith}
use Rattle.std.proofs.lemmas.List.{length-map}
use Rattle.command_read.specs.Leading.{MayFollow}
use Rattle.command_read.specs.Lines.{script_lines}
use Rattle.command_read.specs.Readers.{IsSoon}
use Rattle.command_read.specs.Runs.{HasTold}
use Rattle.command_read.specs.Scripts.{asks}
use Rattle.command_read.specs.declared.reader.Reader.{Reader}
use Rattle.live_session.specs.Replies.{asked_of}
use Rattle.live_session.specs.Verdicts.{Told}
use Rattle.livesim.specs.Runs.{AreSoon}

-- before the first command nothing is taken, and behind one no more than its last read
abbrev pub IsSoonDone : List Told → (bytes : List ℕ) → Type 0
IsSoonDone told bytes = ((told ≡ []) × (bytes ≡ [])) ⊎ AreSoon (length told) bytes

none_asked : length (asks false 1 []) ≡ 0
unfolding asks script_lines
none_asked = refl

-- behind one
pub soon_of : (told : List Told) (bytes : List ℕ) → IsSoonDone told bytes → 0 < length told → AreSoon (length told) bytes
soon_of told bytes (inl none) some = absurd (omega (arith, ap length none.0, some))
soon_of told bytes (inr soon) some = soon

-- one more
pub soon_more : (r : Reader) (bytes came : List ℕ) (told : List Told) (t : Told) → HasTold r bytes (asked_of told) → IsSoonDone told bytes → IsSoon r came
    → AreSoon (length (told ++ t ∷ [])) (bytes ++ came)
soon_more r bytes came told t has (inl none) (inl quiet) = (
  [],
  [],
  ap (λ b. b ++ came) none.1 ∙ quiet,
  omega (arith),
  omega (arith, none_asked, length-append told (t ∷ [])),
)
soon_more r bytes came told t has (inr soon) (inl quiet) = (
  soon.0,
  soon.1,
  ap (λ c. bytes ++ c) quiet ∙ append-nil bytes ∙ soon.2,
  soon.3,
  omega (arith, soon.4, length-append told (t ∷ [])),
)
soon_more r bytes came told t has before (inr now) =
    let asked = has.asked now.0 false (subst (λ b. MayFollow b now.0 false) (sym now.4) tt) in
    let count : length (asks false 1 (bytes ++ now.0)) ≡ length told
    = ap length (asked ∙ ap (λ more. asked_of told ++ more) now.5 ∙ append-nil (asked_of told)) ∙ length-map told (λ (x : Told). x.asked) in (
      bytes ++ now.0,
      now.1,
      ap (λ c. bytes ++ c) now.2 ∙ sym (append_assoc bytes now.0 now.1),
      now.3,
      omega (arith, count, length-append told (t ∷ [])),
    )
