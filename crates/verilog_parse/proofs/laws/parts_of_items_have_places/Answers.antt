use Rattle.verilog_parse.proofs.PlacedItems.{item_placed}
use Rattle.verilog_parse.proofs.PlacedPorts.{header_placed}
use Rattle.verilog_parse.proofs.laws.parts_of_items_have_places.Goals as goal

pub returns-clause-assignments : goal.returns-clause-assignments
returns-clause-assignments c x s r h = item_placed h

pub returns-clause-ports : goal.returns-clause-ports
returns-clause-ports c x s r h = header_placed h
