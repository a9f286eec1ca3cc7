use Rattle.std.proofs.Common.{◌∷◌, sym, subst}
use Rattle.verilog_pre.specs.Expansions.{Leads, context, output, work_on}
use Rattle.verilog_pre.specs.Views.{item_of, work_of, IsListedItem}
use Rattle.verilog_pre.proofs.expand.carry_out.Goals as goal

pub read_part-requires-clause-part : goal.read_part-requires-clause-part
read_part-requires-clause-part c = subst (IsListedItem _) c.in-Part.is c.requires.next

pub returns-in-Part-clause-step : goal.returns-in-Part-clause-step
returns-in-Part-clause-step c =
    subst (λ i. Leads c.read_part.new.names c.read_part.result
    (work_on (context c.args.macros.now c.args.at) c.args.nest.now.open.items (output c.args.out.now) (item_of c.args.macros.now.words i ∷ work_of c.args.macros.now.words c.args.nest.now))
    (work_on (context c.args.macros.now c.args.at) c.read_part.new.nest.open.items (output c.read_part.new.out) (work_of c.args.macros.now.words c.read_part.new.nest)))
    (sym c.in-Part.is) c.read_part.ensures.step
