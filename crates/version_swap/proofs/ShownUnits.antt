-- The names that a fault of units or of linking shows are of the table.
use Rattle.std.proofs.Common.{◌≡◌, ◌<◌, ℕ, List, [], ◌∷◌, All, length, sym, ap, subst}
use Rattle.std.specs.Prelude.{Result, Ok, Err}
use Rattle.std.proofs.lemmas.List.Elements.{All-nil, All-head, All-tail}
use Rattle.ls_text.specs.declared.fault.Fault.{Fault}
use Rattle.ls_text.specs.declared.name_id.NameId.{NameId}
use Rattle.ls_text.specs.declared.refusal.Refusal.TheVariants as refusal
use Rattle.typed_ir.specs.Cycles.{Flat}
use Rattle.module_registry.specs.declared.build_job.BuildJob.{BuildJob}
use Rattle.ls_text.specs.Answers.{◌>>=◌}
use Rattle.module_registry.specs.Building.{Built, built_all}
use Rattle.unit_build.specs.Building.{built}
use Rattle.version_swap.specs.JobsUnder.{IsJobUnder}
use Rattle.link.specs.Faults.{IsLinkFault, too_many, loop_of}
use Rattle.version_swap.specs.DesignFaults.{IsDesignFault, not_linked, too_wide}
use Rattle.version_swap.specs.FoundUnder.{HasModuleIn}
use Rattle.version_swap.proofs.ShownNames.{unit_shows}

abbrev AreShown : (names : List (List ℕ)) → List NameId → Type 0
AreShown names ids = All (λ (id : NameId). id.0 < length names) ids

-- ---- units

module _ (names : List (List ℕ)) where
  first_shows : (r : Result Built Fault) (rest : Result (List Built) Fault) (f : Fault) → (r ≡ Err f → AreShown names f.names)
      → (rest ≡ Err f → AreShown names f.names) → (r >>= λ u. rest >>= λ us. Ok (u ∷ us)) ≡ Err f → AreShown names f.names
  first_shows (Err e) rest f first more is = let same : e ≡ f = cc in first (ap Err same)
  first_shows (Ok u) (Err e) f first more is = more is
  first_shows (Ok u) (Ok us) f first more is = absurd cc

  pub units_show : (js : List BuildJob) (f : Fault) → All (IsJobUnder names) js → All (HasModuleIn names) js → built_all built js ≡ Err f
      → AreShown names f.names
  units_show [] f under within is = absurd cc
  units_show (j ∷ js) f under within is =
      first_shows (built j) (built_all built js) f
      (unit_shows names j f (All-head (IsJobUnder names) j js under) (All-head (HasModuleIn names) j js within))
      (units_show js f (All-tail (IsJobUnder names) j js under) (All-tail (HasModuleIn names) j js within)) is

-- ---- linking, and room for registers

pub none_shown : (names : List (List ℕ)) (ids : List NameId) → ids ≡ [] → AreShown names ids
none_shown names ids is = subst (AreShown names) (sym is) (All-nil (λ (id : NameId). id.0 < length names))

link_shows : (texts names : List (List ℕ)) (design : Flat) (f : Fault) → IsLinkFault 1048576 texts names design (refusal.Fault f)
    → AreShown names f.names
link_shows texts names design f (too_many many) = All-nil (λ (id : NameId). id.0 < length names)
link_shows texts names design f (loop_of few loop texts_are within) = within

pub design_shows : (texts names : List (List ℕ)) (design : Flat) (f : Fault) → IsDesignFault texts names design (refusal.Fault f)
    → AreShown names f.names
design_shows texts names design f (not_linked is) = link_shows texts names design f is
design_shows texts names design f (too_wide linked wide is) = none_shown names f.names is.2
