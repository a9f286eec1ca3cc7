use Rattle.std.proofs.Common.{◌≡◌, ◌++◌, drop}
use Rattle.std.specs.List.{flat_map}
use Rattle.module_registry.specs.KeyTexts.{child_lines}
use Rattle.module_registry.proofs.key_texts.push_children.Given as goal

abbrev pub invariant-loop-child : goal.invariant-loop-child
invariant-loop-child l =
    l.text.items ++ flat_map (child_lines l.names) (drop l.child-index l.children) ≡ l.fn.text.items ++ flat_map (child_lines l.names) l.children
