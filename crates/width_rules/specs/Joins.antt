-- The parts of a concatenation from left to right, as long as they have 128 bits together: what the walk of the code keeps.
use Rattle.std.specs.Prelude.{ℕ, ◌+◌, nat_le, List, [], ◌∷◌, if◌then◌else◌}
use Rattle.typed_ir.specs.Sized as s
use Rattle.typed_ir.specs.Sized.{Sized}
use Rattle.typed_ir.specs.Forms.{sized}
use Rattle.verilog_ast.specs.Expressions.{Expression}
use Rattle.width_rules.specs.declared.joined.Joined.{Joined}
use Rattle.width_rules.specs.declared.joined.Joined.TheVariants as joined
use Rattle.width_rules.specs.Scopes.{Scope}
use Rattle.width_rules.specs.Sizes.{length}
use Rattle.width_rules.specs.Opened.{own}

pub data Together : Type 0 where
  Nothing : Together
  Bits : (width : ℕ) (form : Sized) → Together
  TooWide : Together

abbrev pub joined_of : Joined → Together
joined_of joined.Nothing = Nothing
joined_of (joined.Bits x) = Bits x.typed.width (sized x.typed.form)
joined_of joined.TooWide = TooWide

-- and one more part right of them
abbrev pub added : Together → ℕ → Sized → Together
added Nothing width x = Bits width x
added (Bits before b) width x = if nat_le (before + width) 128 then Bits (before + width) (s.Concat (before + width) b x) else TooWide
added TooWide width x = TooWide

-- and all of these, each at its own length
abbrev pub joins : Scope → Together → List Expression → Together
joins scope before [] = before
joins scope before (x ∷ xs) = joins scope (added before (length scope x) (own scope x)) xs
