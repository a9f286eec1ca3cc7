use Rattle.std.proofs.Common.{◌≡◌, ◌++◌, All, map, drop, length}
use Rattle.ls_text.specs.Texts.{Grows}
use Rattle.ls_text.proofs.Growth.{IsKnown}
use Rattle.ls_text.specs.TextViews.{text_items, text_of}
use Rattle.unit_jobs.proofs.naming.numbers_of.Given as goal

-- the texts so far, and those that are left
abbrev pub invariant-loop-text : goal.invariant-loop-text
invariant-loop-text l = record {
  left : map (text_of l.names) l.ids.items ++ map text_items (drop l.text-index l.texts) ≡ map text_items l.texts;
  named : All (IsKnown (length l.names)) l.ids.items;
  grows : Grows l.initial.names l.names;
}
