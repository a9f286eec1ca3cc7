-- What the state of a walk of the code means.
use Rattle.gen_unroll.specs.UnitReachViews.{unit_reach_of}
use Rattle.unit_build.specs.declared.unit_walk.UnitWalk.{UnitWalk}
use Rattle.unit_build.specs.Walks.{Walk}

abbrev pub walk_of : UnitWalk → Walk
walk_of k = record { here = unit_reach_of k.here; child = k.child; left = k.left.now }
