-- The words of pages.
use Rattle.std.specs.Prelude.{◌≡◌, ℕ, ◌+◌, ◌-◌, ◌*◌, ◌/◌, List, map, length, drop, replicate}
use Rattle.std.specs.Arc.{arc_value}
use Rattle.std.specs.Global.{Global}
use Rattle.std.specs.List.{concat}
use Rattle.std.specs.declared.sync.Arc.{Arc}
use Rattle.state_pages.specs.declared.page.Page.{Page}

-- the words of a page
abbrev pub page_words : Arc Page Global → List ℕ
page_words page = (arc_value page).words

-- the words of pages, one page behind the other
abbrev pub words_in : List (Arc Page Global) → List ℕ
words_in pages = concat (map page_words pages)

-- so many words begin these pages: there are as many pages as they need, and 0 stands behind them
abbrev pub AreFilled : ℕ → List (Arc Page Global) → Type 0
AreFilled count pages = (length pages ≡ (count + 63) / 64) × (drop count (words_in pages) ≡ replicate (64 * length pages - count) 0)
