-- What the whole numbers of the code mean.
use Rattle.std.specs.Prelude.{ℤ, pos, negsuc}
use Rattle.width_rules.specs.declared.whole.Whole.{Whole}
use Rattle.width_rules.specs.declared.whole.Whole.TheVariants.{Natural, Below}

abbrev pub whole_of : Whole → ℤ
whole_of (Natural n) = pos n
whole_of (Below n) = negsuc n
