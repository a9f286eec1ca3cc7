-- Parts whose bits are known as lanes, and scopes whose signals have other numbers.
use Rattle.std.proofs.Common.{◌≡◌, ℕ, ◌&&◌, Bool, true, List, [], ◌∷◌, map, nat_lt, refl, ap}
use Rattle.typed_ir.specs.declared.lane.Lane.{Lane}
use Rattle.typed_ir.specs.Nodes.{are_lanes}
use Rattle.typed_ir.specs.Sized.{is_signal, is_span}
use Rattle.typed_ir.specs.Stmts.{Fixed, are_targets}
use Rattle.width_rules.specs.Scopes.{Meaning, Signal, Constant, Turn, Genvar, Unknown, Scope}
use Rattle.statement_rules.specs.Fitting.{FitsMeaning, FitsScope}
use Rattle.statement_rules.specs.Renumbering.{meaning_as, renumbered}

pub lanes_fit : (lanes : List Lane) (widths : List ℕ) → are_targets (map Fixed lanes) widths ≡ are_lanes lanes widths
lanes_fit [] widths = refl
lanes_fit (l ∷ ls) widths = ap (λ (b : Bool). (nat_lt l.shift 128 && is_span l.span widths) && b) (lanes_fit ls widths)

meaning_fits : (g : ℕ → ℕ) (m : Meaning) (widths others : List ℕ) → ((s w : ℕ) → is_signal s w widths ≡ true → is_signal (g s) w others ≡ true)
    → FitsMeaning m widths → FitsMeaning (meaning_as g m) others
meaning_fits g (Signal signal width lsb signed writer) widths others there fits = (fits.0, there signal width fits.1)
meaning_fits g (Constant width value signed) widths others there fits = fits
meaning_fits g (Turn width value signed) widths others there fits = fits
meaning_fits g Genvar widths others there fits = tt
meaning_fits g Unknown widths others there fits = tt

pub scope_fits : (g : ℕ → ℕ) (scope : Scope) (widths others : List ℕ) → ((s w : ℕ) → is_signal s w widths ≡ true → is_signal (g s) w others ≡ true)
    → FitsScope scope widths → FitsScope (renumbered g scope) others
scope_fits g scope widths others there fits name = meaning_fits g (scope name) widths others there (fits name)
