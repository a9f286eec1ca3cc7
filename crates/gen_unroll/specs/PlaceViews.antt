-- The place that a map of the code gives a key.
use Rattle.std.specs.Prelude.{ℕ, Option, nat_eq}
use Rattle.indexmap.specs.IndexMap.{get}
use Rattle.gen_unroll.specs.declared.first_places.FirstPlaces.{FirstPlaces}

abbrev pub place_in : FirstPlaces → ℕ → Option ℕ
place_in p key = get nat_eq p.places key
