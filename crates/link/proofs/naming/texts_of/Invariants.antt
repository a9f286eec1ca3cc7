use Rattle.std.proofs.Common.{◌≡◌, ◌++◌, map, drop}
use Rattle.typed_ir.specs.Linkeds.{flat}
use Rattle.ls_text.specs.TextViews.{text_items}
use Rattle.link.specs.Names.{node_text}
use Rattle.link.proofs.naming.texts_of.Given as goal

abbrev pub invariant-loop-node : goal.invariant-loop-node
invariant-loop-node l =
    map text_items l.texts.items ++ map (node_text l.names (flat l.design)) (drop l.node-index l.circle) ≡ map (node_text l.names (flat l.design)) l.circle
