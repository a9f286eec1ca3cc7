-- What is read of words at which clap finds no fault, and of others.
use Rattle.std.proofs.Common.{◌≡◌, ℕ, Bool, true, false, eqb, List, [], ◌∷◌, map, length, None, refl, sym, ap, arith}
use Rattle.std.proofs.lemmas.Bool.{false≢true}
use Rattle.std.proofs.lemmas.Bool.Decides.{nat_tests}
use Rattle.clap.specs.Words.{fault_of, is_simple_and_free, matches_of, takes}
use Rattle.ls_text.specs.Options.{guard, ◌>>=◌}
use Rattle.live_options.specs.Words.{livesim_app, options, options_in}
use Rattle.live_options.proofs.Taken.{takes_faultless}

-- the command is one of those of which clap says all
pub simple_and_free : is_simple_and_free livesim_app ≡ true
simple_and_free = refl

-- words by what they are made of
module _ {S : Type 0} (text : S → List ℕ) where
  -- no word
  pub no_options : (words : List S) → eqb (length words) 0 ≡ true → options (map text words) ≡ None
  unfolding options
  no_options [] none = refl
  no_options (w ∷ ws) none = absurd (grind (arith, nat_tests))

  -- words without a fault
  pub faultless_options : (words : List S) → eqb (length words) 0 ≡ false → fault_of livesim_app (map text words) ≡ []
      → options (map text words) ≡ options_in (matches_of livesim_app (map text words))
  unfolding options
  faultless_options [] some none = absurd (false≢true (sym some))
  faultless_options (w ∷ ws) some none =
      let words = text w ∷ map text ws in
      ap (λ b. guard b (matches_of livesim_app words) >>= λ found. options_in found) (takes_faultless livesim_app words refl refl refl refl none)

-- words that aren't taken
pub faulty_options : (words : List (List ℕ)) → (takes livesim_app words ≡ true → ⊥) → options words ≡ None
unfolding options
faulty_options [] faulty = refl
faulty_options (w ∷ ws) faulty = by (takes livesim_app (w ∷ ws)) faulty
  where
    by : (b : Bool) → (b ≡ true → ⊥) → (guard b (matches_of livesim_app (w ∷ ws)) >>= λ found. options_in found) ≡ None
    by true not_so = absurd (not_so refl)
    by false not_so = refl
