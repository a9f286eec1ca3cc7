-- Words whose options are worked out by hand.
use Rattle.std.proofs.Common.{◌≡◌, [], ◌∷◌, Some, None, refl, codes}
use Rattle.clap.proofs.OnLiterals.{clap_on_literals}
use Rattle.live_options.specs.Words.{options}

pub defaults_worked : options (codes "livesim" ∷ []) ≡ Some (record { workers = 2; interval = 10000; lookback = 10000; load = None })
unfolding options clap_on_literals
defaults_worked = refl

pub given_worked : options (codes "livesim" ∷ codes "--lookback" ∷ codes "5" ∷ codes "--workers=007" ∷ codes "--interval" ∷ codes "1000000000" ∷ codes "--" ∷ [])
    ≡ Some (record { workers = 7; interval = 1000000000; lookback = 5; load = None })
unfolding options clap_on_literals
given_worked = refl

pub made_worked : options (codes "livesim" ∷ codes "--load=4096" ∷ codes "--workers" ∷ codes "0" ∷ [])
    ≡ Some (record { workers = 0; interval = 10000; lookback = 10000; load = Some 4096 })
unfolding options clap_on_literals
made_worked = refl

pub no_word_worked : options [] ≡ None
unfolding options
no_word_worked = refl

pub no_value_worked : options (codes "livesim" ∷ codes "--workers" ∷ []) ≡ None
unfolding options clap_on_literals
no_value_worked = refl

pub repeated_worked : options (codes "livesim" ∷ codes "--workers=1" ∷ codes "--workers=1" ∷ []) ≡ None
unfolding options clap_on_literals
repeated_worked = refl

pub unknown_worked : options (codes "livesim" ∷ codes "--help" ∷ []) ≡ None
unfolding options clap_on_literals
unknown_worked = refl

pub stray_worked : options (codes "livesim" ∷ codes "3" ∷ []) ≡ None
unfolding options clap_on_literals
stray_worked = refl

pub too_many_worked : options (codes "livesim" ∷ codes "--workers" ∷ codes "65" ∷ []) ≡ None
unfolding options clap_on_literals
too_many_worked = refl

pub too_few_worked : options (codes "livesim" ∷ codes "--interval=0" ∷ []) ≡ None
unfolding options clap_on_literals
too_few_worked = refl

pub too_far_worked : options (codes "livesim" ∷ codes "--lookback=1099511627777" ∷ []) ≡ None
unfolding options clap_on_literals
too_far_worked = refl

pub no_stage_worked : options (codes "livesim" ∷ codes "--load" ∷ codes "0" ∷ []) ≡ None
unfolding options clap_on_literals
no_stage_worked = refl

pub too_many_stages_worked : options (codes "livesim" ∷ codes "--load=4097" ∷ []) ≡ None
unfolding options clap_on_literals
too_many_stages_worked = refl

pub too_long_worked : options (codes "livesim" ∷ codes "--workers=00000000000003" ∷ []) ≡ None
unfolding options clap_on_literals
too_long_worked = refl

pub signed_worked : options (codes "livesim" ∷ codes "--workers=+3" ∷ []) ≡ None
unfolding options clap_on_literals
signed_worked = refl

pub empty_worked : options (codes "livesim" ∷ codes "--workers=" ∷ []) ≡ None
unfolding options clap_on_literals
empty_worked = refl
