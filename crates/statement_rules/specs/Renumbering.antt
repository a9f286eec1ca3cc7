-- Scopes, expressions, targets and statements whose signals have other numbers: a function tells what each number becomes.
use Rattle.std.specs.Prelude.{ℕ, map}
use Rattle.typed_ir.specs.declared.span.Span.{Span}
use Rattle.typed_ir.specs.declared.lane.Lane.{Lane}
use Rattle.typed_ir.specs.declared.reach.Reach.{Reach}
use Rattle.typed_ir.specs.Sized as s
use Rattle.typed_ir.specs.Sized.{Sized}
use Rattle.typed_ir.specs.Stmts.{SizedTarget, Fixed, Moving, SizedItem, SizedStmt, SizedArms, Skip, Assign, Later, Then, If, Case, Arm, Default}
use Rattle.width_rules.specs.Scopes.{Meaning, Signal, Constant, Turn, Genvar, Unknown, Scope}
use Rattle.statement_rules.specs.Drives.{SizedDrive}

abbrev pub meaning_as : (ℕ → ℕ) → Meaning → Meaning
meaning_as g (Signal signal width lsb signed writer) = Signal (g signal) width lsb signed writer
meaning_as g (Constant width value signed) = Constant width value signed
meaning_as g (Turn width value signed) = Turn width value signed
meaning_as g Genvar = Genvar
meaning_as g Unknown = Unknown

abbrev pub renumbered : (ℕ → ℕ) → Scope → Scope
renumbered g scope name = meaning_as g (scope name)

-- ---- expressions

abbrev pub span_as : (ℕ → ℕ) → Span → Span
span_as g p = record { signal = g p.signal; low = p.low; width = p.width }

abbrev pub numbered_as : (ℕ → ℕ) → Sized → Sized
numbered_as g (s.Constant width value) = s.Constant width value
numbered_as g (s.Name signal width) = s.Name (g signal) width
numbered_as g (s.Part span) = s.Part (span_as g span)
numbered_as g (s.Pick signal width below signed index) = s.Pick (g signal) width below signed (numbered_as g index)
numbered_as g (s.Unary op a) = s.Unary op (numbered_as g a)
numbered_as g (s.Binary op a b) = s.Binary op (numbered_as g a) (numbered_as g b)
numbered_as g (s.Choice c a b) = s.Choice (numbered_as g c) (numbered_as g a) (numbered_as g b)
numbered_as g (s.Concat width a b) = s.Concat width (numbered_as g a) (numbered_as g b)
numbered_as g (s.Repeat width count a) = s.Repeat width count (numbered_as g a)
numbered_as g (s.Resized a width signed) = s.Resized (numbered_as g a) width signed

-- ---- targets

abbrev pub lane_as : (ℕ → ℕ) → Lane → Lane
lane_as g l = record { shift = l.shift; span = span_as g l.span }

abbrev pub reach_as : (ℕ → ℕ) → Reach → Reach
reach_as g r = record { shift = r.shift; signal = g r.signal; total = r.total; width = r.width; below = r.below; signed = r.signed }

abbrev pub target_as : (ℕ → ℕ) → SizedTarget → SizedTarget
target_as g (Fixed lane) = Fixed (lane_as g lane)
target_as g (Moving reach index) = Moving (reach_as g reach) (numbered_as g index)

-- ---- statements

abbrev pub item_as : (ℕ → ℕ) → SizedItem → SizedItem
item_as g x = record { ignored = x.ignored; item = numbered_as g x.item }

abbrev mutual
  pub statement_as : (ℕ → ℕ) → SizedStmt → SizedStmt
  statement_as g Skip = Skip
  statement_as g (Assign parts e) = Assign (map (target_as g) parts) (numbered_as g e)
  statement_as g (Later parts e) = Later (map (target_as g) parts) (numbered_as g e)
  statement_as g (Then a b) = Then (statement_as g a) (statement_as g b)
  statement_as g (If c a b) = If (numbered_as g c) (statement_as g a) (statement_as g b)
  statement_as g (Case e arms) = Case (numbered_as g e) (arms_as g arms)

  pub arms_as : (ℕ → ℕ) → SizedArms → SizedArms
  arms_as g (Arm items body rest) = Arm (map (item_as g) items) (statement_as g body) (arms_as g rest)
  arms_as g (Default otherwise) = Default (statement_as g otherwise)

abbrev pub drive_as : (ℕ → ℕ) → SizedDrive → SizedDrive
drive_as g x = record { parts = map (target_as g) x.parts; value = numbered_as g x.value }
