-- Expressions, statements and nodes with all numbers of signals shifted by the number of the first.
use Rattle.std.specs.Prelude.{ℕ, ◌+◌, map}
use Rattle.typed_ir.specs.declared.span.Span.{Span}
use Rattle.typed_ir.specs.declared.lane.Lane.{Lane}
use Rattle.typed_ir.specs.declared.reach.Reach.{Reach}
use Rattle.typed_ir.specs.Sized.{Sized, Constant, Name, Part, Pick, Unary, Binary, Choice, Concat, Repeat, Resized}
use Rattle.typed_ir.specs.Stmts.{SizedTarget, Fixed, Moving, SizedItem, SizedStmt, SizedArms, Skip, Assign, Later, Then, If, Case, Arm, Default}
use Rattle.typed_ir.specs.Nodes.{FlatNode, Drive, Block}

abbrev pub shifted_span : ℕ → Span → Span
shifted_span first p = record { signal = first + p.signal; low = p.low; width = p.width }

abbrev pub shifted : ℕ → Sized → Sized
shifted first (Constant width value) = Constant width value
shifted first (Name signal width) = Name (first + signal) width
shifted first (Part span) = Part (shifted_span first span)
shifted first (Pick signal width below signed index) = Pick (first + signal) width below signed (shifted first index)
shifted first (Unary op a) = Unary op (shifted first a)
shifted first (Binary op a b) = Binary op (shifted first a) (shifted first b)
shifted first (Choice c a b) = Choice (shifted first c) (shifted first a) (shifted first b)
shifted first (Concat width a b) = Concat width (shifted first a) (shifted first b)
shifted first (Repeat width count a) = Repeat width count (shifted first a)
shifted first (Resized a width signed) = Resized (shifted first a) width signed

abbrev pub shifted_lane : ℕ → Lane → Lane
shifted_lane first l = record { shift = l.shift; span = shifted_span first l.span }

abbrev pub shifted_reach : ℕ → Reach → Reach
shifted_reach first r = record {
  shift = r.shift;
  signal = first + r.signal;
  total = r.total;
  width = r.width;
  below = r.below;
  signed = r.signed;
}

abbrev pub shifted_target : ℕ → SizedTarget → SizedTarget
shifted_target first (Fixed lane) = Fixed (shifted_lane first lane)
shifted_target first (Moving reach index) = Moving (shifted_reach first reach) (shifted first index)

abbrev pub shifted_item : ℕ → SizedItem → SizedItem
shifted_item first x = record { ignored = x.ignored; item = shifted first x.item }

abbrev mutual
  pub shifted_stmt : ℕ → SizedStmt → SizedStmt
  shifted_stmt first Skip = Skip
  shifted_stmt first (Assign parts e) = Assign (map (shifted_target first) parts) (shifted first e)
  shifted_stmt first (Later parts e) = Later (map (shifted_target first) parts) (shifted first e)
  shifted_stmt first (Then a b) = Then (shifted_stmt first a) (shifted_stmt first b)
  shifted_stmt first (If c a b) = If (shifted first c) (shifted_stmt first a) (shifted_stmt first b)
  shifted_stmt first (Case e arms) = Case (shifted first e) (shifted_arms first arms)

  pub shifted_arms : ℕ → SizedArms → SizedArms
  shifted_arms first (Arm items body rest) = Arm (map (shifted_item first) items) (shifted_stmt first body) (shifted_arms first rest)
  shifted_arms first (Default otherwise) = Default (shifted_stmt first otherwise)

abbrev pub shifted_node : ℕ → FlatNode → FlatNode
shifted_node first (Drive form lanes e) = Drive form (map (shifted_lane first) lanes) (shifted first e)
shifted_node first (Block shown body) = Block shown (shifted_stmt first body)
