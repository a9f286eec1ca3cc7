use Rattle.std.proofs.Common.{◌≡◌, ◌++◌, map, drop, length, All}
use Rattle.ls_text.specs.Texts.{Grows}
use Rattle.ls_text.proofs.Growth.{IsKnown}
use Rattle.ls_text.specs.TextViews.{text_items, text_of}
use Rattle.link.proofs.naming.named.Given as goal

-- the names so far, and the texts of what is left
abbrev pub invariant-loop-text : goal.invariant-loop-text
invariant-loop-text l = record {
  left : map (text_of l.names) l.ids.items ++ map text_items (drop l.text-index l.texts) ≡ map text_items l.texts;
  within : All (IsKnown (length l.names)) l.ids.items;
  grows : Grows l.initial.names l.names;
}
