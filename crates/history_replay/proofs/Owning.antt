-- A state with the version whose design it fits.
use Rattle.std.proofs.Common.{◌≡◌, ℕ, List, refl, sym, ◌∙◌, ap, subst}
use Rattle.std.specs.Arc.{arc_value}
use Rattle.book_history.specs.declared.version.Version.{Version}
use Rattle.cycle_eval.specs.declared.design.Design.{Design}
use Rattle.cycle_eval.specs.Designs.{design_flat}
use Rattle.cycle_eval.specs.Kits.{Fits}

-- the design that was read is that of the version and of its share
one_design : (v w x : Version Design) (m : Design) → v ≡ w → x ≡ w → m ≡ arc_value x.machine → m ≡ arc_value v.machine
one_design v w x m shared read design = design ∙ ap (λ (y : Version Design). arc_value y.machine) (read ∙ sym shared)

pub owned : (v w x : Version Design) (m : Design) (s : List (ℕ × ℕ)) → v ≡ w → x ≡ w → m ≡ arc_value x.machine → Fits (design_flat m) s
    → Fits (design_flat (arc_value v.machine)) s
owned v w x m s shared read design fits = subst (λ (d : Design). Fits (design_flat d) s) (one_design v w x m shared read design) fits

pub read_fits : (w x : Version Design) (m : Design) (s : List (ℕ × ℕ)) → x ≡ w → m ≡ arc_value x.machine → Fits (design_flat (arc_value w.machine)) s
    → Fits (design_flat m) s
read_fits w x m s read design fits = subst (λ (d : Design). Fits (design_flat d) s) (sym (one_design w w x m refl read design)) fits
