use Rattle.std.proofs.Common.{◌≡◌, map, take}
use Rattle.state_pages.specs.Words.{page_words}
use Rattle.state_pages.proofs.pages.same_pages.Given as goal

abbrev pub invariant-loop-index : goal.invariant-loop-index
invariant-loop-index l = map page_words (take l.index l.ones) ≡ map page_words (take l.index l.others)
