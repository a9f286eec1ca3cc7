use Rattle.verilog_parse.proofs.PlacedItems.{item_placed, generate_placed, module_placed}
use Rattle.verilog_parse.proofs.PlacedPorts.{header_placed, input_last}
use Rattle.verilog_parse.proofs.laws.names_have_places.Goals as goal

pub returns-clause-modules : goal.returns-clause-modules
returns-clause-modules c x s r h = module_placed h

pub returns-clause-ports : goal.returns-clause-ports
returns-clause-ports c xs s r h = header_placed h

pub returns-clause-inputs : goal.returns-clause-inputs
returns-clause-inputs c at net x name s r h = input_last h

pub returns-clause-genvars : goal.returns-clause-genvars
returns-clause-genvars c at xs s r h = (item_placed h).1

pub returns-clause-clocks : goal.returns-clause-clocks
returns-clause-clocks c at clock x s r h = (item_placed h).1

pub returns-clause-blocks : goal.returns-clause-blocks
returns-clause-blocks c at label xs s r h = (generate_placed h).1
