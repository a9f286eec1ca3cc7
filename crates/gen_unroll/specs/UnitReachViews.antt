-- What the names in reach of a unit of the code mean.
use Rattle.gen_unroll.specs.Reaches.{Reach}
use Rattle.gen_unroll.specs.ReachViews.{reach_of}
use Rattle.gen_unroll.specs.declared.unit_reach.UnitReach.{UnitReach}

abbrev pub unit_reach_of : UnitReach → Reach
unit_reach_of u = reach_of u.reach
