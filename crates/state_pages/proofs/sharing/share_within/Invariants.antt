use Rattle.std.proofs.Common.{◌≡◌, length}
use Rattle.state_pages.specs.Words.{words_in}
use Rattle.state_pages.proofs.sharing.share_within.Given as goal

abbrev pub invariant-loop-index : goal.invariant-loop-index
invariant-loop-index l = record { words : words_in l.pages.items ≡ words_in l.initial.pages.items; many : length l.pages.items ≡ length l.initial.pages.items }
