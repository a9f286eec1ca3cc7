use Rattle.std.proofs.Common.{◌∙◌, ap, arith}
use Rattle.std.specs.Prelude.{Option}
use Rattle.std.specs.Option.{option_map}
use Rattle.typed_ir.specs.declared.typed_item.TypedItem.{TypedItem}
use Rattle.typed_ir.specs.Items.{item_of}
use Rattle.unit_build.specs.Slots.{first_or}
use Rattle.unit_build.proofs.Placed.{stays, put_here}
use Rattle.unit_build.proofs.port_order.put.Goals as goal

pub returns-then-port-len : goal.returns-then-port-len
returns-then-port-len c = stays item_of (item_of c.args.item) c.args.places.now.items c.args.port 0 (omega arith)

pub returns : goal.returns
returns c =
    put_here item_of (item_of c.args.item) c.fill.new.place c.args.places.now.items c.args.port 0 c.args.port c.index_mut.result.now (omega arith) (omega arith)
    (c.fill.ensures ∙ ap (λ (o : Option TypedItem). first_or (option_map item_of o) (item_of c.args.item)) c.index_mut.ensures.value)
