-- The two parts of a reload's marks.
use Rattle.std.specs.Prelude.{◌≡◌, ℕ, suc, ◌<◌, List, [], ◌∷◌, length, if◌then◌else◌, leb}
use Rattle.book_history.specs.declared.version.Version.{Version}
use Rattle.book_history.specs.Book.{reloaded}
use Rattle.checkpoint_book.specs.declared.opened.Opened.{Opened}
use Rattle.checkpoint_book.specs.Idle.{left_of}
use Rattle.machine.specs.Kit.{Kit}
use Rattle.book_history.specs.declared.segment.Segment.{Segment}
use Rattle.book_history.specs.declared.link.Link.TheVariants.{Open}

-- how many links come before the first that ends after the limit
abbrev pub kept_count : {S : Type 0} → ℕ → List (Segment S) → ℕ
kept_count limit [] = 0
kept_count limit (g ∷ gs) = if leb g.to limit then suc (kept_count limit gs) else 0

abbrev pub carried_over : {D S R O : Type 0} → Kit D S R O → D → D → O → List (Segment S) → List (Segment S)
carried_over k old new ops [] = []
carried_over k old new ops (g ∷ gs) = record { link = Open; to = g.to; state = k.carried old new ops g.state } ∷ carried_over k old new ops gs

-- the marks' cycles rise from a on
abbrev pub Rises : {S : Type 0} → ℕ → List (Segment S) → Type 0
Rises a [] = Unit {0}
Rises a (g ∷ gs) = (a < g.to) × Rises g.to gs

abbrev pub AllFit : {S : Type 0} → (S → Type 0) → List (Segment S) → Type 0
AllFit fits [] = Unit {0}
AllFit fits (g ∷ gs) = fits g.state × AllFit fits gs

-- what a reload makes of the fields
pub record IsReloaded {D S R O : Type 0} (k : Kit D S R O) (old : D) (v : Version D) (ops : O) (rows : List R) (limit : ℕ) (segs : List (Segment S)) (o : Opened D S) : Type 0 where
  pub version : o.version.value ≡ v
  pub first : o.first ≡ k.start v.machine.value
  pub items : o.segs.items ≡ reloaded k old v.machine.value ops rows limit 0 (k.start v.machine.value) segs
  pub left_is : o.left ≡ left_of o.segs.items
  pub few : length o.segs.items < 1024
