-- Two designs that are one but for the numbers of their names are spelled the same.
use Rattle.std.proofs.Common.{◌≡◌, ◌∙◌, ℕ, List, map, ap, ap₂}
use Rattle.typed_ir.specs.Cycles.{Flat}
use Rattle.version_swap.specs.OnePlan.{nameless, IsSameDesign}
use Rattle.version_swap.specs.Plans.{DesignOfTexts}
use Rattle.live_session.specs.Spelled.{Spelled, nameless_flat, spelled}

one_flat : (d e : Flat) → map nameless d.signals ≡ map nameless e.signals → d.registers ≡ e.registers → d.inputs ≡ e.inputs → d.nodes ≡ e.nodes
    → d.clocked ≡ e.clocked → nameless_flat d ≡ nameless_flat e
one_flat d e signals registers inputs nodes clocked = cc

abbrev spelled_with : Flat → (paths : List (List (List ℕ))) → (own modules keys : List (List ℕ)) → Spelled
spelled_with flat paths own modules keys = record { flat = flat; paths = paths; own = own; modules = modules; keys = keys }

pub one_spelled : (x y : Spelled) → x.flat ≡ y.flat → x.paths ≡ y.paths → x.own ≡ y.own → x.modules ≡ y.modules → x.keys ≡ y.keys → x ≡ y
one_spelled x y flat paths own modules keys =
    ap (λ (f : Flat). spelled_with f x.paths x.own x.modules x.keys) flat
    ∙ ap₂ (λ (ps : List (List (List ℕ))) (os : List (List ℕ)). spelled_with y.flat ps os x.modules x.keys) paths own
    ∙ ap₂ (λ (ms ks : List (List ℕ)). spelled_with y.flat y.paths y.own ms ks) modules keys

pub spelled_alike : (names others : List (List ℕ)) (d e : DesignOfTexts) → IsSameDesign names others d e → spelled names d ≡ spelled others e
spelled_alike names others d e h =
    one_spelled (spelled names d) (spelled others e)
    (one_flat d.design e.design h.signals h.registers h.inputs h.nodes h.clocked)
    h.paths h.own h.modules h.keys
