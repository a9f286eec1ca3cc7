-- The search for one of many targets by its number, from 0 on.
use Rattle.std.specs.Prelude.{ℕ, zero, suc, List, [], ◌∷◌}
use Rattle.typed_ir.specs.declared.span.Span.{Span}
use Rattle.link.specs.declared.search.Search.{Search}
use Rattle.link.specs.declared.search.Search.TheVariants.{Found, Left}

-- past the last one, how many are still to be passed
abbrev pub searched : List Span → ℕ → Search
searched [] k = Left k
searched (p ∷ ps) zero = Found p
searched (p ∷ ps) (suc k) = searched ps k
