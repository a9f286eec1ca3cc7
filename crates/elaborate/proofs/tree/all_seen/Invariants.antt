use Rattle.std.proofs.Common.{◌≡◌, ◌++◌, map, drop, length}
use Rattle.std.specs.List.{All}
use Rattle.ls_text.specs.Texts.{Grows}
use Rattle.elaborate.specs.Jobs.{standing_of}
use Rattle.elaborate.specs.Trees.{seen_under}
use Rattle.ls_text.specs.TextViews.{text_items}
use Rattle.elaborate.specs.TreeViews.{instance_view}
use Rattle.elaborate.proofs.Instances.{IsNamed}
use Rattle.elaborate.proofs.tree.all_seen.Given as goal

-- the instances so far, and those of what is left
abbrev pub invariant-loop-one : goal.invariant-loop-one
invariant-loop-one l = record {
  left : map (instance_view l.names) l.instances.items ++ seen_under (map text_items l.rest) (map standing_of (drop l.one-index l.all))
      ≡ seen_under (map text_items l.texts) (map standing_of l.all);
  named : All (IsNamed (length l.names)) l.instances.items;
  grows : Grows l.initial.names l.names;
}
