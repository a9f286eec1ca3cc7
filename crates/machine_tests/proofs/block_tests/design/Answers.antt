use Rattle.std.proofs.Common.{sym, subst, map}
use Rattle.typed_ir.specs.FlatNodes.{node_of}
use Rattle.typed_ir.specs.Flats.{NodeWritesFirst}
use Rattle.typed_ir.specs.Nodes.{IsComplete}
use Rattle.typed_ir.specs.Orders.{Each}
use Rattle.machine_tests.proofs.Temporaries.{complete, first}
use Rattle.machine_tests.proofs.block_tests.design.Goals as goal

pub design_with-requires-clause-complete : goal.design_with-requires-clause-complete
design_with-requires-clause-complete g c =
    subst (λ ns. Each IsComplete (map node_of ns)) (sym c.in_ok-nodes.ensures.items) (complete c.in_ok-block.field-0 _ _ _ c.in_ok-block.ensures)

pub design_with-requires-clause-first : goal.design_with-requires-clause-first
design_with-requires-clause-first g c =
    subst (λ ns. Each NodeWritesFirst (map node_of ns)) (sym c.in_ok-nodes.ensures.items) (first c.in_ok-block.field-0 _ _ _ c.in_ok-block.ensures)
