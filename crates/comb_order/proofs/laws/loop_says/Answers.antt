use Rattle.std.proofs.Common.{length}
use Rattle.typed_ir.specs.Nodes.{drives_at, reads_at}
use Rattle.typed_ir.specs.Orders.{Precedes}
use Rattle.comb_order.specs.Graphs.{HasEdge}
use Rattle.comb_order.proofs.Loops.{no_loop, one_loop}
use Rattle.comb_order.proofs.laws.loop_says.Goals as goal

pub returns-clause-no_loop : goal.returns-clause-no_loop
returns-clause-no_loop c = λ nodes. no_loop (Precedes (drives_at nodes) (reads_at nodes)) (length nodes)

pub returns-clause-one_loop : goal.returns-clause-one_loop
returns-clause-one_loop c = λ nodes. one_loop (Precedes (drives_at nodes) (reads_at nodes)) (length nodes)

pub returns-clause-no_loop_in_graph : goal.returns-clause-no_loop_in_graph
returns-clause-no_loop_in_graph c = λ rows. no_loop (HasEdge rows) (length rows)

pub returns-clause-one_loop_in_graph : goal.returns-clause-one_loop_in_graph
returns-clause-one_loop_in_graph c = λ rows. one_loop (HasEdge rows) (length rows)
