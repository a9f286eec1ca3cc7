-- What a layout of the code means.
use Rattle.std.specs.Prelude.{slice_index}
use Rattle.design_steps.specs.declared.layout.Layout.{Layout}
use Rattle.design_steps.specs.Plans.{Plan}
use Rattle.design_steps.specs.Pools.{place_in}

abbrev pub plan_of : Layout → Plan
plan_of l = record {
  slot = λ s. slice_index l.slots.items s;
  next = λ s. slice_index l.nexts.items s;
  place = place_in l.constants;
  widths = l.widths.items;
  constants = l.constants.values.keys;
}
