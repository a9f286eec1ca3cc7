use Rattle.verilog_parse.proofs.PlacedItems.{generate_placed, module_placed}
use Rattle.verilog_parse.proofs.laws.items_have_places.Goals as goal

pub returns-clause-items : goal.returns-clause-items
returns-clause-items c x s r h = module_placed h

pub returns-clause-generates : goal.returns-clause-generates
returns-clause-generates c x s r h = generate_placed h

pub returns-clause-branches : goal.returns-clause-branches
returns-clause-branches c x s r h = generate_placed h

pub returns-clause-otherwise : goal.returns-clause-otherwise
returns-clause-otherwise c x s r h = generate_placed h
