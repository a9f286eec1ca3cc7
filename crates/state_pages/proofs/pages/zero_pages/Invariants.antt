use Rattle.std.proofs.Common.{◌≡◌, ◌*◌, length, replicate}
use Rattle.state_pages.specs.Words.{words_in}
use Rattle.state_pages.proofs.pages.zero_pages.Given as goal

abbrev pub invariant-loop-index : goal.invariant-loop-index
invariant-loop-index l = record { many : length l.pages.items ≡ l._index; zeros : words_in l.pages.items ≡ replicate (64 * l._index) 0; blank : l.page.value.words ≡ replicate 64 0 }
