-- What the names in reach of the code mean.
use Rattle.std.specs.Prelude.{map}
use Rattle.width_rules.specs.Entries.{scope_of, around}
use Rattle.gen_unroll.specs.declared.reach.Reach.{Reach as Names}
use Rattle.gen_unroll.specs.Reaches.{Reach}
use Rattle.gen_unroll.specs.Views.{number_of}

abbrev pub reach_of : Names → Reach
reach_of r = record { scope = scope_of r.scope; around = around r.scope; blocks = map number_of r.blocks.items }
