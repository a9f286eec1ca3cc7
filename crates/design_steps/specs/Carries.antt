-- Words that are copied over.
use Rattle.std.specs.Prelude.{ℕ, ◌+◌, List, [], ◌∷◌}
use Rattle.typed_ir.specs.Valuations.{Valuation, put}

-- the words of these registers, counted from one place, copied to those counted from another
abbrev pub carried : List ℕ → ℕ → ℕ → Valuation → Valuation
carried [] from to w = w
carried (r ∷ rs) from to w = carried rs from to (put w (to + r) (w (from + r)))
