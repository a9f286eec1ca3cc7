use Rattle.std.proofs.Common.{◌≡◌, drop}
use Rattle.gen_unroll.specs.Numbers.{ports_onto}
use Rattle.gen_unroll.specs.NumberingViews.{numbered_in, IsNumbered}
use Rattle.gen_unroll.specs.TableViews.{signals_of}
use Rattle.gen_unroll.proofs.heading.add_listed.Given as goal

abbrev pub invariant-loop-name : goal.invariant-loop-name
invariant-loop-name l = record {
  left : ports_onto (drop l.name-index l.names) (signals_of l.table) (numbered_in l.numbering) ≡ ports_onto l.names (signals_of l.table) (numbered_in l.initial.numbering);
  numbered : IsNumbered l.numbering;
}
