-- The parts of a target from left to right, each by itself: what the walk of the code keeps until it knows how many bits stand right of
-- a part.
use Rattle.std.specs.Prelude.{ℕ, ◌+◌, List, [], ◌∷◌, ◌++◌}
use Rattle.typed_ir.specs.Stmts.{SizedTarget, Fixed, Moving}
use Rattle.typed_ir.specs.Targets.{target_of}
use Rattle.verilog_ast.specs.Expressions.{Target, Reference, Joined, NoTarget, Targets}
use Rattle.width_rules.specs.declared.target_part.TargetPart.{TargetPart}
use Rattle.width_rules.specs.Scopes.{Scope}
use Rattle.width_rules.specs.Sizes.{length}
use Rattle.width_rules.specs.References.{reference_part}

-- how many bits a part takes, and the part as if nothing stood right of it
pub record Leaf : Type 0 where
  pub width : ℕ
  pub part : SizedTarget

abbrev pub leaf_of : TargetPart → Leaf
leaf_of x = record { width = x.width; part = target_of x.target }

-- a part where so many bits stand right of it
abbrev pub shifted : ℕ → SizedTarget → SizedTarget
shifted by (Fixed lane) = Fixed (record { shift = by; span = lane.span })
shifted by (Moving reach index) =
    Moving (record { shift = by; signal = reach.signal; total = reach.total; width = reach.width; below = reach.below; signed = reach.signed }) index

abbrev pub leaves : Scope → Target → List Leaf
leaves scope (Reference x) = record { width = length scope x; part = reference_part scope 0 x } ∷ []
leaves scope (Joined at ts) = leaves scope ts
leaves scope NoTarget = []
leaves scope (Targets t ts) = leaves scope t ++ leaves scope ts

-- how many bits all of them take
abbrev pub bits_of : List Leaf → ℕ
bits_of [] = 0
bits_of (x ∷ xs) = x.width + bits_of xs

-- all of them where so many bits stand right of the last
abbrev pub laid : ℕ → List Leaf → List SizedTarget
laid below [] = []
laid below (x ∷ xs) = shifted (below + bits_of xs) x.part ∷ laid below xs
